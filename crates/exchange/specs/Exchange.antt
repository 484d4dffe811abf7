-- An exchange (document 01, "The rehearsal"): what parties wrote becomes inboxes. Assumes nothing.
use Rattle.std.specs.Prelude.{◌≡◌, Bool, true, cond, not, List, [], ℕ, ◌+◌, ◌-◌, ◌*◌, ◌≤◌, ◌<◌, min, ltb, eqb, length, get_or, take, drop}
use Rattle.limits.specs.Limits.{max_entry, max_plan, parties, numbered}
use Rattle.buffer.specs.Splice.{spliced, tabulate}
use Rattle.buffer.specs.Entries.{entry_at}
use Rattle.buffer.specs.Given.{Given, gave}
use Rattle.buffer.specs.Given.{Refused, Short, Done}
use Rattle.packet.specs.Inbox.{inbox_of}
use Rattle.bitmap.specs.Bitmap.{names}
use Rattle.plan.specs.Layout.{packet_from}
use Rattle.exchange.specs.declared.Mail.{Mail}

-- Among n parties, of whom the map g names the good ones: what a good party wrote, whole (a relay, which goes to all) or not (an outbox, with
-- an entry for each party), and the blocks that the plan has of the exchange.
module _ (n g : ℕ) (whole : Bool) (wrote : ℕ → List ℕ) (blocks : List ℕ) where
  -- in party i's inbox a good party p stands with its packet for i, a bad one with what the plan says, and i itself with no bytes
  unfoldable pub sent_to : ℕ → ℕ → List ℕ
  sent_to i p =
      cond (eqb p i) []
      (cond (names g p) (cond whole (wrote p) (entry_at (i - 1) (wrote p))) (packet_from n g p i blocks))

  unfoldable pub inbox_to : ℕ → List ℕ
  inbox_to i = inbox_of (tabulate n (λ k. sent_to i (k + 1)))

-- What good parties wrote lies in slots of one size, party 1's first, with the lengths beside; a length over the size counts as the size, and one
-- that is not there as 0.
unfoldable pub slot_of : ℕ → List ℕ → List ℕ → ℕ → List ℕ
slot_of size slots lens p = take (min (get_or lens (p - 1) 0) size) (drop ((p - 1) * size) slots)

-- the slots of the first k parties hold what the function f says that the good ones wrote
abbrev pub Slots : ℕ → ℕ → (ℕ → List ℕ) → ℕ → List ℕ → List ℕ → Type 0
Slots g size f k slots lens =
    (j : ℕ) → j < k → names g (j + 1) ≡ true
    → (get_or lens j 0 ≤ size) × (take (get_or lens j 0) (drop (j * size) slots) ≡ f (j + 1))

-- No inbox is longer than this, where the blocks are no longer than a plan (proved: `Rooms`): packets of bad parties stand in the plan, and one of a good party is no longer than its slot.
abbrev pub max_inbox : ℕ → ℕ → ℕ
max_inbox n size = max_plan + n * (size + 2)

-- bytes at the start of a buffer that has room for them
abbrev filled : List ℕ → List ℕ → Given
filled x out = gave (Done (length x)) (spliced out 0 x)

-- party i's inbox at the start of a lent buffer: causes 1 and 3, 4 for slots over the length of an entry, 9 where the buffer is shorter than the
-- longest inbox, and 13 for blocks longer than a plan. Blocks and outboxes are read as they stand: that they are laid out well is judged before
unfoldable pub fill_of : Mail → List ℕ → List ℕ → List ℕ → ℕ → List ℕ → Given
fill_of m slots lens blocks i out =
    cond (not (parties m.n)) (gave (Refused 1) out)
    (cond (not (numbered m.n i)) (gave (Refused 3) out)
    (cond (ltb max_entry m.size) (gave (Refused 4) out)
    (cond (ltb (length out) (max_inbox m.n m.size)) (gave (Short (max_inbox m.n m.size)) out)
    (cond (ltb max_plan (length blocks)) (gave (Refused 13) out)
    (filled (inbox_to m.n m.good m.whole (slot_of m.size slots lens) blocks i) out)))))
