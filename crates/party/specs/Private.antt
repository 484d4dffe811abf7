-- What the private functions suppose and give. No public contract cites this file. Assumes nothing.
use Rattle.std.specs.Prelude.{◌≡◌, Bool, true, false, cond, eqb, ◌||◌, Option, Some, None, Result, Ok, Err, unwrap_or, List, [], ◌∷◌, ◌++◌, ℕ, ◌+◌, ◌-◌, ◌*◌, ◌^◌, ◌≤◌, ◌<◌, length, get_or}
use Rattle.limits.specs.Limits.{max_parties, max_message, max_share}
use Rattle.bitmap.specs.Bitmap.{names}
use Rattle.buffer.specs.Entries.{fills, bodies}
use Rattle.cause.specs.declared.Cause.{Cause}
use Rattle.cause.specs.declared.Refusal.{Refusal}
use Rattle.cause.specs.declared.Refusal.TheVariants as refusal
use Rattle.commitment.specs.declared.Seat.{Seat}
use Rattle.erasure.specs.Rebuild.{parts_at}
use Rattle.erasure.specs.Arrays.{Lie}
use Rattle.erasure.specs.declared.Place.{Place}
use Rattle.packet.specs.Class.{Class, silent, faulty, valid, class_of}
use Rattle.packet.specs.Private.{Lies, TakenAt}
use Rattle.packet.specs.Judged.{Judged}
use Rattle.packet.specs.Judged as judged
use Rattle.packet.specs.Packet.{Packet}
use Rattle.packet.specs.Packet as packet
use Rattle.packet.specs.declared.Share.{Share}
use Rattle.party.specs.Steps.{Taken, missing, found}
use Rattle.party.specs.Answer.{opened}
use Rattle.party.specs.Answer.{Opened as Told}
use Rattle.party.specs.declared.Party.{Party}
use Rattle.party.specs.declared.Answer.TheVariants as answer
use Rattle.party.specs.declared.Begun.{Begun}
use Rattle.party.specs.declared.Opened.{Opened}
use Rattle.party.specs.declared.OpenedBySender.{OpenedBySender}
use Rattle.party.specs.declared.Reply.{Reply}
use Rattle.party.specs.declared.Finding.{Finding}
use Rattle.party.specs.declared.Finding.TheVariants.{Silent, Faulty, Valid}

-- what a state that is not broken has, as bounds
pub record Fit (x : Party) : Type 0 where
  pub low : 1 ≤ x.seat.n
  pub high : x.seat.n ≤ max_parties
  pub faults : 2 * x.seat.t + 1 ≤ x.seat.n
  pub first : 1 ≤ x.seat.own
  pub last : x.seat.own ≤ x.seat.n
  pub short : x.len ≤ max_message
  pub few : x.held ≤ max_share
  pub named : x.faulty < 2 ^ x.seat.n
  pub others : names x.faulty x.seat.own ≡ false

-- what a walk over an inbox makes of a packet and its judgement
abbrev pub place_of : Packet → Finding
place_of (packet.Refused k) = Silent
place_of packet.Silence = Silent
place_of (packet.Share number from len count) = Valid (record { number = number; from = from; len = len; count = count })

abbrev pub finding_of : Judged → Packet → Finding
finding_of (judged.Refused k) p = Silent
finding_of judged.Silent p = Silent
finding_of judged.Faulty p = Faulty
finding_of judged.Valid p = place_of p

abbrev pub found_faulty : Finding → Bool
found_faulty Silent = false
found_faulty Faulty = true
found_faulty (Valid p) = false

-- it is what the packet's class says, with the share by its place in s
abbrev pub FindingIs : Finding → Class → List ℕ → Type 0
FindingIs Silent silent s = Unit {0}
FindingIs Silent faulty s = ⊥
FindingIs Silent (valid share path) s = ⊥
FindingIs Faulty silent s = ⊥
FindingIs Faulty faulty s = Unit {0}
FindingIs Faulty (valid share path) s = ⊥
FindingIs (Valid p) c s = TakenAt s p.from p.len p.count c

-- a walk over an inbox that is laid out well, by a party in a seat that is one, under a root; a number that it demands of all packets is one of the n
pub record Judges (x : Seat) (z s : List ℕ) (demanded : Option ℕ) : Type 0 where
  pub low : 1 ≤ x.n
  pub high : x.n ≤ max_parties
  pub first : 1 ≤ x.own
  pub last : x.own ≤ x.n
  pub wide : length z ≡ 32
  pub laid : fills x.n s ≡ true
  pub asked : (j : ℕ) → 1 ≤ j → j ≤ x.n → (1 ≤ unwrap_or demanded j) × (unwrap_or demanded j ≤ x.n)

-- the class of what sender i + 1 sent, the own entry taken for silence
abbrev pub class_at : (List ℕ → List ℕ) → Seat → List ℕ → List ℕ → Option ℕ → ℕ → Class
class_at H x z s demanded i =
    cond (eqb (i + 1) x.own) silent (class_of H x.session x.n (unwrap_or demanded (i + 1)) z (get_or (bodies x.n s) i []))

-- of each sender it is found what the class of its packet says
pub record Found (H : List ℕ → List ℕ) (x : Seat) (z s : List ℕ) (demanded : Option ℕ) (fs : List Finding) : Type 0 where
  pub count : length fs ≡ max_parties
  pub each : (i : ℕ) → i < x.n → FindingIs (get_or fs i Silent) (class_at H x z s demanded i) s

-- party p is marked that a map names already, or whose packet is found to be faulty
abbrev pub marks : ℕ → List Finding → ℕ → Bool
marks before fs p = names before p || found_faulty (get_or fs (p - 1) Silent)

-- the first valid share
abbrev pub first_or : Finding → Option Share → Option Share
first_or Silent o = o
first_or Faulty o = o
first_or (Valid p) o = Some p

abbrev pub first_place : List Finding → Option Share
first_place [] = None
first_place (f ∷ fs) = first_or f (first_place fs)

-- where a finding's share begins, and how long it is: 0, where it is none
abbrev pub Lies_as : Finding → Place → Type 0
Lies_as Silent p = p.len ≡ 0
Lies_as Faulty p = p.len ≡ 0
Lies_as (Valid s) p = p ≡ record { from = s.from; len = s.len }

-- the answer for a share taken
abbrev pub TakenIs : Option Share → Taken → List ℕ → Type 0
TakenIs None missing s = Unit {0}
TakenIs None (found share path) s = ⊥
TakenIs (Some p) missing s = ⊥
TakenIs (Some p) (found share path) s = Lies s share path p.from p.len p.count

-- these n shares lie in x and in y behind it, each whole in one of the two
pub record Gathered (n : ℕ) (shares : List (List ℕ)) (x y : List ℕ) (p : List Place) : Type 0 where
  pub lie : Lie n (length x) (length y) p
  pub parts : parts_at n (x ++ y) p ≡ shares

-- what comes of writing: the next state where bytes were written, else the state as it was
abbrev pub after : Party → Party → Result ℕ (Refusal Cause) → Reply
after x next (Ok k) = record { state = next; answer = Ok (answer.Sent k) }
after x next (Err r) = record { state = x; answer = Err r }

-- an opening, of which so many bytes were written for the others
abbrev pub begun_with : Result (List ℕ) Cause → ℕ → Result Begun (Refusal Cause)
begun_with (Ok z) l = Ok (record { root = z; len = l })
begun_with (Err c) l = Err (refusal.Because c)

abbrev pub with_length : Opened → ℕ → OpenedBySender
with_length o l = record { state = o.state; answer = begun_with o.root l }

-- what begins with an opening that says this, of which so many bytes were written for the others
pub record Begins (told : Told) (len : ℕ) (r : OpenedBySender) : Type 0 where
  pub opening : Opened
  pub says : opened opening ≡ told
  pub is : r ≡ with_length opening len
