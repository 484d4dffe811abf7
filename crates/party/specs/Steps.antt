-- The opening and steps 2 to 5 of a party (document 01, "The steps of a box"), each as the lowest cause that applies and what the call gives
-- back if none does. A refused step gives back the very state it got and leaves every lent byte. The hash of the tree is a parameter H.
-- Assumes nothing.
use Rattle.std.specs.Prelude.{Bool, true, false, cond, not, ◌&&◌, ◌||◌, List, [], ◌∷◌, ℕ, ◌+◌, ◌-◌, ltb, eqb, length, get_or, take, replicate}
use Rattle.std.proofs.Math.Option.{Option, none, some}
use Rattle.buffer.specs.Splice.{spliced, tabulate}
use Rattle.buffer.specs.Entries.{fills, bodies}
use Rattle.bitmap.specs.Bitmap.{names, map_of}
use Rattle.erasure.specs.Rebuild.{Recovered, present, recovered}
use Rattle.erasure.specs.Rebuild as rebuild
use Rattle.merkle.specs.Shares.{blank}
use Rattle.packet.specs.Format.{packet_of}
use Rattle.packet.specs.Inbox.{inbox_of}
use Rattle.packet.specs.Class.{Class, silent, faulty, valid, class_of}
use Rattle.commitment.specs.Commitment.{packet_with}
use Rattle.commitment.specs.Rebuild.{under_root}
unfoldable pub use Rattle.commitment.specs.Commitment.{open_cause}
use Rattle.party.specs.State.{seat_of, Result, nothing, settled, message_in, share_held, at_root, at_bit, at_first, at_second, at_end, blank_state, broken, message_root, happy}
use Rattle.party.specs.State.{result_in, has_ended}
use Rattle.party.specs.declared.Stage.{Stage}
use Rattle.party.specs.declared.Stage.TheVariants as stage
use Rattle.party.specs.declared.Party.{Party}
use Rattle.party.specs.declared.Reply.{Reply}
use Rattle.party.specs.Answer.{Opened, Answer, answered}
use Rattle.party.specs.Answer as answer

-- document 01's number of the one step that is in turn at a stage: the one that it waits for, or step 5, which reads the result again, once the party
-- has ended
abbrev pub turn_of : Stage → ℕ
turn_of stage.Root = 2
turn_of stage.Bit = 3
turn_of stage.First = 4
turn_of stage.Second = 5
turn_of (stage.Ended r) = 5

-- cause 5, a broken state, then cause 6, a step that is not in turn; 0: neither
unfoldable pub state_cause : ℕ → Party → ℕ
state_cause turn x = cond (broken x) 5 (cond (not (eqb (turn_of x.stage) turn)) 6 0)

-- a refused opening gives a blank state, which every step refuses, and no root
abbrev pub refused_opening : ℕ → Opened
refused_opening k = record { state = blank_state; cause = k; root = blank }

-- step 1, the opening in the session of this number, which the state keeps from now on (document 02, No. 6): causes 1, 2, 3, 4; the root of the message's
-- shares goes to the short agreement
module _ (H : List ℕ → List ℕ) where
  unfoldable pub open_of : ℕ → ℕ → ℕ → ℕ → List ℕ → Opened
  open_of session n t own m =
      cond (not (eqb (open_cause n t own (length m)) 0)) (refused_opening (open_cause n t own (length m)))
      (record { state = at_root (seat_of session n t own) m; cause = 0; root = message_root H session n t m })

-- what a step gives back: the state and the answer, with document 01's number of the cause (0: accepted), the value beside it (the length needed
-- with cause 9; if accepted, of step 2 the party's bit, 1 for happy, of steps 3 and 4 how many bytes were written, of step 5 the message's
-- length), the result of step 5, a message by its bytes as they were written, the map of parties seen to be faulty that is given with it (0 where no result
-- is), and the lent buffer (none at step 2)
pub record Stepped : Type 0 where
  pub state : Party
  pub answer : Answer
  pub cause : ℕ
  pub value : ℕ
  pub result : Option Result
  pub faulty : ℕ
  pub buffer : List ℕ

abbrev pub cause_of : Answer → ℕ
cause_of (answer.Refused k) = k
cause_of (answer.Short l) = 9
cause_of (answer.Happy b) = 0
cause_of (answer.Sent l) = 0
cause_of (answer.Nothing f) = 0
cause_of (answer.Message l f) = 0

abbrev pub value_of : Answer → ℕ
value_of (answer.Refused k) = 0
value_of (answer.Short l) = l
value_of (answer.Happy b) = cond b 1 0
value_of (answer.Sent l) = l
value_of (answer.Nothing f) = 0
value_of (answer.Message l f) = l

abbrev pub result_given : Answer → List ℕ → Option Result
result_given (answer.Refused k) out = none
result_given (answer.Short l) out = none
result_given (answer.Happy b) out = none
result_given (answer.Sent l) out = none
result_given (answer.Nothing f) out = some nothing
result_given (answer.Message l f) out = some (settled (take l out))

abbrev pub faulty_given : Answer → ℕ
faulty_given (answer.Refused k) = 0
faulty_given (answer.Short l) = 0
faulty_given (answer.Happy b) = 0
faulty_given (answer.Sent l) = 0
faulty_given (answer.Nothing f) = f
faulty_given (answer.Message l f) = f

abbrev pub gives : Party → Answer → List ℕ → Stepped
gives x r out =
    record {
      state = x;
      answer = r;
      cause = cause_of r;
      value = value_of r;
      result = result_given r out;
      faulty = faulty_given r;
      buffer = out;
    }

abbrev pub stepped : Reply → List ℕ → Stepped
stepped r out = gives r.state (answered r.answer) out

abbrev pub refused : Party → ℕ → List ℕ → Stepped
refused x k out = gives x (answer.Refused k) out

-- step 2, the agreed root z: causes 5, 6, 7; the answer is the party's bit, whether it is happy
unfoldable pub root_cause : Party → List ℕ → ℕ
root_cause x z = cond (not (eqb (state_cause 2 x) 0)) (state_cause 2 x) (cond (not (eqb (length z) 32)) 7 0)

abbrev pub with_root : Party → List ℕ → Party
with_root x z = at_bit x.seat (message_in x) z

module _ (H : List ℕ → List ℕ) where
  unfoldable pub agree_root_of : Party → List ℕ → Stepped
  agree_root_of x z =
      cond (not (eqb (root_cause x z) 0)) (refused x (root_cause x z) [])
      (gives (with_root x z) (answer.Happy (happy H (with_root x z))) [])

-- bs written at the start of the buffer, and the next state; cause 9 where the buffer is shorter
abbrev pub writes : Party → Party → List ℕ → List ℕ → Stepped
writes x next bs out =
    cond (ltb (length out) (length bs)) (gives x (answer.Short (length bs)) out)
    (gives next (answer.Sent (length bs)) (spliced out 0 bs))

-- the packet with share j of a party's message
module _ (H : List ℕ → List ℕ) where
  unfoldable pub packet_for : Party → ℕ → List ℕ
  packet_for x j = packet_with H x.seat.session x.seat.n x.seat.t (message_in x) j

-- step 3, the agreed bit: causes 5, 6, 7, 9. On 0 the party ends with nothing and the empty map. On 1 a happy one writes for each other party j a packet
-- with share j and its path; all else writes n lengths of zero
unfoldable pub bit_cause : Party → ℕ → ℕ
bit_cause x bit = cond (not (eqb (state_cause 3 x) 0)) (state_cause 3 x) (cond (ltb 1 bit) 7 0)

module _ (H : List ℕ → List ℕ) where
  unfoldable pub outbox_of : Party → ℕ → List ℕ
  outbox_of x bit =
      inbox_of
      (cond (eqb bit 1 && happy H x) (tabulate x.seat.n (λ i. cond (eqb (i + 1) x.seat.own) [] (packet_for H x (i + 1)))) (replicate x.seat.n []))

  unfoldable pub agree_bit_of : Party → ℕ → List ℕ → Stepped
  agree_bit_of x bit out =
      cond (not (eqb (bit_cause x bit) 0)) (refused x (bit_cause x bit) out)
      (writes x
      (cond (eqb bit 0) (at_end x.seat nothing 0) (at_first x.seat (message_in x) x.root))
      (outbox_of x bit) out)

-- causes 5 and 6, then 8: the inbox's entries run short or leave bytes over
unfoldable pub inbox_cause : ℕ → Party → List ℕ → ℕ
inbox_cause turn x inbox =
    cond (not (eqb (state_cause turn x) 0)) (state_cause turn x) (cond (not (fills x.seat.n inbox)) 8 0)

-- what stands under sender j's number in an inbox of n entries; no bytes where there is none
unfoldable pub entry : ℕ → ℕ → List ℕ → List ℕ
entry n j s = get_or (bodies n s) (j - 1) []

abbrev pub is_faulty : Class → Bool
is_faulty silent = false
is_faulty faulty = true
is_faulty (valid x p) = false

module _ (H : List ℕ → List ℕ) where
  -- what sender p sent in an inbox is faulty under a root, where a number is demanded of its packet: it is not silence and cannot be read, bears another
  -- number, or fails the path check. The own entry is ignored
  unfoldable pub sent_faulty : ℕ → ℕ → ℕ → List ℕ → List ℕ → ℕ → ℕ → Bool
  sent_faulty session n own z inbox number p = not (eqb p own) && is_faulty (class_of H session n number z (entry n p inbox))

  abbrev pub faulty_in : Party → List ℕ → ℕ → ℕ → Bool
  faulty_in x inbox number p = sent_faulty x.seat.session x.seat.n x.seat.own x.root inbox number p

  -- in the first inbox the receiver's number is demanded of all; whatever map the state has before, this one starts empty
  unfoldable pub faulty_shares : Party → List ℕ → ℕ
  faulty_shares x inbox = map_of (faulty_in x inbox x.seat.own) x.seat.n

  -- in the second inbox each sender's own number is demanded; they come to those that the state's map names
  unfoldable pub faulty_relays : Party → List ℕ → ℕ
  faulty_relays x inbox = map_of (λ p. names x.faulty p || faulty_in x inbox p p) x.seat.n

-- a share found with its path, or none
pub data Taken : Type 0 where
  missing : Taken
  found : List ℕ → List (List ℕ) → Taken

abbrev pub share_taken : Taken → List ℕ
share_taken missing = []
share_taken (found x p) = x

abbrev pub or_later : Class → Taken → Taken
or_later silent later = later
or_later faulty later = later
or_later (valid x p) later = found x p

abbrev pub packet_taken : Party → Taken → List ℕ
packet_taken x missing = []
packet_taken x (found y p) = packet_of x.seat.own y p

module _ (H : List ℕ → List ℕ) where
  -- of packets from senders numbered from j on, that of the lowest-numbered sender which bears the own number and passes the path
  -- check; the own entry is ignored
  unfoldable pub first_valid : ℕ → ℕ → ℕ → List ℕ → ℕ → List (List ℕ) → Taken
  first_valid session n own z j [] = missing
  first_valid session n own z j (p ∷ ps) =
      cond (eqb j own) (first_valid session n own z (j + 1) ps) (or_later (class_of H session n own z p) (first_valid session n own z (j + 1) ps))

  abbrev pub taken_by : Party → List ℕ → Taken
  taken_by x inbox = first_valid x.seat.session x.seat.n x.seat.own x.root 1 (bodies x.seat.n inbox)

  -- step 4, the first inbox: causes 5, 6, 8, 9. A happy party relays its own share, but not with n 1; another relays what it took. Both keep a map of those
  -- seen to be faulty (document 02, No. 7)
  abbrev pub own_relay : Party → List ℕ
  own_relay x = cond (eqb x.seat.n 1) [] (packet_for H x x.seat.own)

  unfoldable pub relay_of : Party → List ℕ → List ℕ
  relay_of x inbox = cond (happy H x) (own_relay x) (packet_taken x (taken_by x inbox))

  unfoldable pub held_of : Party → List ℕ → List ℕ
  held_of x inbox = cond (happy H x) [] (share_taken (taken_by x inbox))

  unfoldable pub take_shares_of : Party → List ℕ → List ℕ → Stepped
  take_shares_of x inbox out =
      cond (not (eqb (inbox_cause 4 x inbox) 0)) (refused x (inbox_cause 4 x inbox) out)
      (writes x (at_second x.seat (message_in x) x.root (held_of x inbox) (faulty_shares H x inbox)) (relay_of x inbox) out)

-- the share of a packet that passed
abbrev pub share_from : Class → List ℕ
share_from silent = []
share_from faulty = []
share_from (valid x p) = x

-- causes 5, 6 and 8 of step 5; a party that has ended does not look at the inbox
unfoldable pub relays_cause : Party → List ℕ → ℕ
relays_cause x inbox = cond (has_ended x.stage) (state_cause 5 x) (inbox_cause 5 x inbox)

-- where rebuilding ends with a cause, the result is nothing
abbrev pub rebuilt : Recovered → Result
rebuilt (rebuild.cause k) = nothing
rebuilt (rebuild.message m) = settled m

module _ (H : List ℕ → List ℕ) where
  -- of the packets from senders numbered from j on: sender j's share numbered j, if it passes the check; of the own number, the share
  -- that the party relayed
  unfoldable pub gathered : Party → ℕ → List (List ℕ) → List (List ℕ)
  gathered x j [] = []
  gathered x j (p ∷ ps) =
      cond (eqb j x.seat.own) (share_held x) (share_from (class_of H x.seat.session x.seat.n j x.root p)) ∷ gathered x (j + 1) ps

  -- what is rebuilt from these shares
  abbrev pub recovered_by : Party → List ℕ → Recovered
  recovered_by x inbox = recovered (x.seat.n - x.seat.t) (present 1 (gathered x 1 (bodies x.seat.n inbox)))

  -- a happy party finds its message; another what it rebuilds, if that has the agreed root (document 02, No. 4)
  unfoldable pub result_found : Party → List ℕ → Result
  result_found x inbox =
      cond (happy H x) (settled (message_in x)) (rebuilt (under_root H x.seat.session x.seat.n x.seat.t x.root (recovered_by x inbox)))

-- the result that a party holds, or else the one that it finds
abbrev pub held_or : Option Result → Result → Result
held_or none r = r
held_or (some kept) r = kept

module _ (H : List ℕ → List ℕ) where
  unfoldable pub result_of : Party → List ℕ → Result
  result_of x inbox = held_or (result_in x) (result_found H x inbox)

  -- the map given with it: one that has ended keeps the map that it has
  unfoldable pub faulty_of : Party → List ℕ → ℕ
  faulty_of x inbox = cond (has_ended x.stage) x.faulty (faulty_relays H x inbox)

-- the end with a result and a map, which is given with it: a message is written at the start of the buffer; cause 9 where the buffer is shorter
abbrev pub ending : Party → Result → ℕ → List ℕ → Stepped
ending x nothing f out = gives (at_end x.seat nothing f) (answer.Nothing f) out
ending x (settled m) f out =
    cond (ltb (length out) (length m)) (gives x (answer.Short (length m)) out)
    (gives (at_end x.seat (settled m) f) (answer.Message (length m) f) (spliced out 0 m))

-- step 5, the second inbox: causes 5, 6, 8, and 9 where the result is a message. On a party that has ended the same result and map are given again, in a
-- state built anew (document 02, No. 1)
module _ (H : List ℕ → List ℕ) where
  unfoldable pub take_relays_of : Party → List ℕ → List ℕ → Stepped
  take_relays_of x inbox out =
      cond (not (eqb (relays_cause x inbox) 0)) (refused x (relays_cause x inbox) out)
      (ending x (result_of H x inbox) (faulty_of H x inbox) out)
