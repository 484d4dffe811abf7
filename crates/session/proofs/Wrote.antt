-- How much a step wrote, and what, by its answer. By the tests of the definitions. Assumes nothing.
use mathlib.Core.Path.{◌≡◌, refl}
use mathlib.Core.Bool.{Bool, true, false, cond, not}
use mathlib.Core.List.{List}
use Prim.Native.Nat.{ℕ, ◌≤◌}
use native.Mathlib.Omega.{arith}
use borrow.Author.Tests.{ltb-false}
use lib.Dec.{ltb, eqb}
use lib.ListN.{length, replicate, length-take, length-replicate}
use Rattle.sha256.specs.Sha256.{sha256}
use Rattle.party.specs.Steps.{Stepped, writes, refused, bit_cause, outbox_of, agree_bit_of, inbox_cause, relay_of, take_shares_of}
use Rattle.party.specs.declared.Party.{Party}
use Rattle.session.specs.Session.{max_outbox, sent_length, wrote_in, step2, agreed_bit, step3, first_inbox, step4}
use Rattle.session.specs.Private.{step_for}
use Rattle.session.specs.declared.Step.{Step}
use Rattle.session.specs.declared.Step.TheVariants.{Outbox, Relay}

-- what came of writing: no more than the buffer holds was written, and where it was accepted as much as the value says
pub record Counted (out : List ℕ) (r : Stepped) : Type 0 where
  pub room : sent_length r.answer ≤ length out
  pub told : r.cause ≡ 0 → sent_length r.answer ≡ r.value

writes-counted : (x next : Party) (bs out : List ℕ) → Counted out (writes x next bs out)
writes-counted x next bs out = go (ltb (length out) (length bs)) refl
  where
    go : (t : Bool) → ltb (length out) (length bs) ≡ t → Counted out (writes x next bs out)
    go true q = rw q (record { room = omega arith; told = λ e. absurd (let z : ◌≡◌ {A = ℕ} 9 0 = e in omega arith) })
    go false q = rw q (record { room = ltb-false (length out) (length bs) q; told = λ e. refl })

stepped-counted : (b : Bool) (x next : Party) (k : ℕ) (bs out : List ℕ) → Counted out (cond b (refused x k out) (writes x next bs out))
stepped-counted true x next k bs out = record { room = omega arith; told = λ e. refl }
stepped-counted false x next k bs out = writes-counted x next bs out

module _ (H : List ℕ → List ℕ) where
  bit-counted : (x : Party) (bit : ℕ) (out : List ℕ) → Counted out (agree_bit_of H x bit out)
  unfolding agree_bit_of
  bit-counted x bit out = stepped-counted (not (eqb (bit_cause x bit) 0)) x _ (bit_cause x bit) (outbox_of H x bit) out

  shares-counted : (x : Party) (inbox out : List ℕ) → Counted out (take_shares_of H x inbox out)
  unfolding take_shares_of
  shares-counted x inbox out = stepped-counted (not (eqb (inbox_cause 4 x inbox) 0)) x _ (inbox_cause 4 x inbox) (relay_of H x inbox) out

  module _ (s : List ℕ) (q : ℕ) where
    pub step3-counted : Counted (replicate max_outbox 0) (step3 H s q)
    unfolding step3
    step3-counted = bit-counted (step2 H s q).state (agreed_bit H s) (replicate max_outbox 0)

    pub step4-counted : Counted (replicate max_outbox 0) (step4 H s q)
    unfolding step4
    step4-counted = shares-counted (step3 H s q).state (first_inbox H s q) (replicate max_outbox 0)

-- the step in which a party writes for an exchange
pub step_room : (step : Step) (s : List ℕ) (q : ℕ) → sent_length (step_for step s q).answer ≤ max_outbox
step_room Outbox s q = omega (arith, (step3-counted sha256 s q).room, length-replicate {A = ℕ} max_outbox 0)
step_room (Relay boxes) s q = omega (arith, (step4-counted sha256 s q).room, length-replicate {A = ℕ} max_outbox 0)

-- what it wrote
pub wrote-short : (r : Stepped) (m : ℕ) → sent_length r.answer ≤ m → length (wrote_in r) ≤ m
wrote-short r m h = omega (arith, length-take (sent_length r.answer) r.buffer)
