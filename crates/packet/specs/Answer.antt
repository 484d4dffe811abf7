-- The answers of the packet reader, judge and writer, by document 01's numbers. Assumes nothing.
use Rattle.std.specs.Prelude.{Bool, true, false, cond, not, ◌&&◌, ◌||◌, List, ◌++◌, ℕ, ◌+◌, ◌-◌, ◌*◌, ltb, leb, eqb, length, take, drop, replicate}
use Rattle.limits.specs.Limits.{max_path, max_share, parties, numbered}
use Rattle.buffer.specs.Entries.{size}
use Rattle.buffer.specs.Given.{Given, gave, written}
use Rattle.buffer.specs.Given as given
use Rattle.merkle.specs.Shares.{blank, sides_of, passes}
use Rattle.packet.specs.Format.{Reading, silence, unreadable, shared, hashes, packet_of, entry_of, read_of}
use Rattle.packet.specs.Packet.{Packet}
use Rattle.packet.specs.Packet as packet
use Rattle.packet.specs.Packet.{Entry}
use Rattle.packet.specs.Judged.{Judged}
use Rattle.packet.specs.Judged as judged

-- document 01's number of the cause for which a reading was turned away; 0 if it was not
abbrev pub cause_in : Packet → ℕ
cause_in (packet.Refused k) = k
cause_in packet.Silence = 0
cause_in (packet.Share number from len count) = 0

-- the values given with it: a share's number, where it lies and how long it is, and how many hashes follow it; 0 where there is no share
pub record Values : Type 0 where
  pub number : ℕ
  pub from : ℕ
  pub len : ℕ
  pub count : ℕ

abbrev pub no_values : Values
no_values = record { number = 0; from = 0; len = 0; count = 0 }

abbrev pub values_in : Packet → Values
values_in (packet.Refused k) = no_values
values_in packet.Silence = no_values
values_in (packet.Share number from len count) = record { number = number; from = from; len = len; count = count }

-- what reading a packet gives back: the answer, with document 01's number and the values
pub record Told : Type 0 where
  pub answer : Packet
  pub cause : ℕ
  pub values : Values

abbrev pub told : Packet → Told
told p = record { answer = p; cause = cause_in p; values = values_in p }

-- the answer for a packet that starts at a place: where its share lies, and how many hashes follow it
abbrev pub placed : ℕ → Reading → Packet
placed at silence = packet.Silence
placed at unreadable = packet.Refused 10
placed at (shared number share path) = packet.Share number (at + 4) (length share) (length path)

-- the packet that stands from a place on to the end of s, among n parties: cause 1, then 10. A number out of its range inside the packet
-- is 10, since causes 1 to 4 judge arguments; from the end on there are no bytes, which is silence
unfoldable pub read_at : ℕ → List ℕ → ℕ → Packet
read_at n s at = cond (not (parties n)) (packet.Refused 1) (placed at (read_of n (drop at s)))

-- what reading an entry gives back: the answer, with what is told of its packet
pub record ToldEntry : Type 0 where
  pub answer : Entry
  pub packet : Told

abbrev pub told_entry : Entry → ToldEntry
told_entry e = record { answer = e; packet = told e.packet }

-- the place behind the entry at a place: two bytes of length, and as many bytes as they tell
abbrev pub next_at : List ℕ → ℕ → ℕ
next_at s at = at + 2 + size (drop at s)

-- the entry at a place of an inbox, among n parties: cause 1, then 8 where it runs short, and the place stays; else the packet that its bytes
-- are, by its place in s, and the place behind it, also where the packet is unreadable: a step falls to the next sender
unfoldable pub entry_read : ℕ → List ℕ → ℕ → Entry
entry_read n s at =
    cond (not (parties n)) (record { packet = packet.Refused 1; next = at })
    (cond (ltb (length s) (next_at s at)) (record { packet = packet.Refused 8; next = at })
    (record { packet = read_at n (take (next_at s at) s) (at + 2); next = next_at s at }))

-- the path of `count` hashes at a place, as the reader tells it, and blanks past them; all blank where it is longer than any path or
-- runs past the end
unfoldable pub path_at : List ℕ → ℕ → ℕ → List (List ℕ)
path_at s at count =
    cond (ltb max_path count || ltb (length s) (at + 32 * count)) (replicate max_path blank)
    (hashes count (drop at s) ++ replicate (max_path - count) blank)

-- document 01's number of the cause for which a judgement was turned away; 0 if it was not
abbrev pub verdict_cause : Judged → ℕ
verdict_cause (judged.Refused k) = k
verdict_cause judged.Silent = 0
verdict_cause judged.Faulty = 0
verdict_cause judged.Valid = 0

-- the value given with it: whether steps 4 and 5 take a packet that was read from these bytes
abbrev pub verdict_valid : Judged → Bool
verdict_valid (judged.Refused k) = false
verdict_valid judged.Silent = false
verdict_valid judged.Faulty = false
verdict_valid judged.Valid = true

-- what judging gives back: the answer, with document 01's number and the value
pub record Verdict : Type 0 where
  pub answer : Judged
  pub cause : ℕ
  pub valid : Bool

abbrev pub verdict : Judged → Verdict
verdict r = record { answer = r; cause = verdict_cause r; valid = verdict_valid r }

module _ (H : List ℕ → List ℕ) where
  -- what was read from s, judged: a share is valid if it has the number demanded, is no longer than a share may be, lies within s with its
  -- path, and passes the path check by the hash H under the session's number
  abbrev pub verdict_on : ℕ → ℕ → ℕ → List ℕ → List ℕ → Packet → Judged
  verdict_on session n j root s (packet.Refused k) = judged.Faulty
  verdict_on session n j root s packet.Silence = judged.Silent
  verdict_on session n j root s (packet.Share number from len count) =
      cond (eqb number j && leb len max_share && leb (from + len + 32 * count) (length s)
      && passes H session n j (take len (drop from s)) (hashes count (drop (from + len) s)) count root)
      judged.Valid judged.Faulty

  -- a packet that was read from s: causes 1, 3 and 7, then the judgement
  unfoldable pub judge_of : ℕ → ℕ → ℕ → List ℕ → List ℕ → Packet → Judged
  judge_of session n j root s p =
      cond (not (parties n)) (judged.Refused 1)
      (cond (not (numbered n j)) (judged.Refused 3)
      (cond (not (eqb (length root) 32)) (judged.Refused 7)
      (verdict_on session n j root s p)))

-- why the packet of a share of len bytes with `count` hashes is not written: n or the number out of its range (1, 3), or a packet that
-- no reader would take (10, here by our own choice); 0: it is
unfoldable pub write_cause : ℕ → ℕ → ℕ → ℕ → ℕ
write_cause n number len count =
    cond (not (parties n)) 1
    (cond (not (numbered n number)) 3
    (cond (ltb len 1 || ltb max_share len || not (eqb count (length (sides_of n number)))) 10
    0))

-- turned away for a cause, or the bytes written; cause 9 where they would be written and the buffer is too short
abbrev pub written_unless : ℕ → List ℕ → List ℕ → Given
written_unless cause bs out = cond (not (eqb cause 0)) (gave (given.Refused cause) out) (written bs out)

-- a share's packet in a lent buffer, and the same as an entry with its length; the path has at least `count` hashes
unfoldable pub write_of : ℕ → ℕ → List ℕ → List (List ℕ) → ℕ → List ℕ → Given
write_of n number share path count out =
    written_unless (write_cause n number (length share) count) (packet_of number share (take count path)) out

unfoldable pub write_entry_of : ℕ → ℕ → List ℕ → List (List ℕ) → ℕ → List ℕ → Given
write_entry_of n number share path count out =
    written_unless (write_cause n number (length share) count) (entry_of (packet_of number share (take count path))) out
