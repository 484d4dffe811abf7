-- What stands at a place of an inbox, as a reader says it: the answers as plain data, and the answer that a result says. Assumes nothing.
use Rattle.std.specs.Prelude.{ℕ, Option, Some, None, Result, Ok, Err}
use Rattle.cause.specs.Cause.{number}
use Rattle.cause.specs.declared.Cause.{Cause}
use Rattle.packet.specs.declared.Share.{Share as Parts}
use Rattle.packet.specs.declared.Entry.{Entry as Found}

-- turned away for the cause of this number; silence; or a share, by its number, where it lies and how long it is, and how many hashes follow it
pub data Packet : Type 0 where
  Refused : ℕ → Packet
  Silence : Packet
  Share : ℕ → ℕ → ℕ → ℕ → Packet

-- the answer that a result says, by a numbering of its causes
abbrev pub read_by : {E : Type 0} → (E → ℕ) → Result (Option Parts) E → Packet
read_by f (Err e) = Refused (f e)
read_by f (Ok None) = Silence
read_by f (Ok (Some s)) = Share s.number s.from s.len s.count

-- the same by document 01's numbers
abbrev pub read_said : Result (Option Parts) Cause → Packet
read_said = read_by number

-- an entry: its packet, and the place of the next one
pub record Entry : Type 0 where
  pub packet : Packet
  pub next : ℕ

abbrev pub entry_said : Found → Entry
entry_said e = record { packet = read_said e.packet; next = e.next }
