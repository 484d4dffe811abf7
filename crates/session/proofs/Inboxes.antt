-- Party i's inbox of an exchange, out of the slots in which lies what good parties wrote. Assumes nothing.
use mathlib.Core.Path.{◌≡◌}
use mathlib.Core.List.{List}
use Prim.Native.Nat.{ℕ}
use Rattle.plan.specs.Layout.{n_in, good_in, exchange_in}
use Rattle.exchange.specs.Exchange.{inbox_to, slot_of, Slots}
use Rattle.exchange.proofs.Slots.{slot_is}
use Rattle.exchange.proofs.Sending.{inbox-same}
use Rattle.session.specs.Session.{max_outbox, whole_in}

pub inbox-is : (s : List ℕ) (e : ℕ) (f : ℕ → List ℕ) (slots lens : List ℕ) (i : ℕ) → Slots (good_in s) max_outbox f (n_in s) slots lens
    → inbox_to (n_in s) (good_in s) (whole_in e) (slot_of max_outbox slots lens) (exchange_in e s) i
    ≡ inbox_to (n_in s) (good_in s) (whole_in e) f (exchange_in e s) i
inbox-is s e f slots lens i all =
    inbox-same (n_in s) (good_in s) (whole_in e) (slot_of max_outbox slots lens) f (exchange_in e s) i
    (λ p low high g. slot_is (good_in s) max_outbox f (n_in s) p slots lens all low high g)
