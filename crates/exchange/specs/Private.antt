-- What the private functions suppose. No public contract cites this file. Assumes nothing.
use Rattle.std.specs.Prelude.{◌≡◌, List, ℕ, ◌≤◌, length}
use Rattle.limits.specs.Limits.{max_parties, max_entry, max_plan}
use Rattle.buffer.specs.Splice.{spliced}
use Rattle.exchange.specs.Exchange.{slot_of, sent_to, inbox_to}
use Rattle.exchange.specs.declared.Mail.{Mail}

-- an exchange and a receiver for which there is no cause
pub record Lawful (m : Mail) (blocks : List ℕ) (i : ℕ) : Type 0 where
  pub some : 1 ≤ m.n
  pub few : m.n ≤ max_parties
  pub first : 1 ≤ i
  pub last : i ≤ m.n
  pub short : m.size ≤ max_entry
  pub planned : length blocks ≤ max_plan

-- by the slots: what any party sends, and party i's inbox
abbrev pub sent_by : Mail → List ℕ → List ℕ → List ℕ → ℕ → ℕ → List ℕ
sent_by m slots lens blocks i p = sent_to m.n m.good m.whole (slot_of m.size slots lens) blocks i p

abbrev pub inbox_by : Mail → List ℕ → List ℕ → List ℕ → ℕ → List ℕ
inbox_by m slots lens blocks i = inbox_to m.n m.good m.whole (slot_of m.size slots lens) blocks i

-- bytes written at the start of a buffer that has room for them; how many there are
abbrev pub Wrote : ℕ → List ℕ → List ℕ → List ℕ → Type 0
Wrote r new x old = (r ≡ length x) × (new ≡ spliced old 0 x)
