-- The state of a party as bytes, which the host keeps: how it is written, and what bytes say as a state. All numbers are big-endian.
-- Assumes nothing.
use Rattle.std.specs.Prelude.{cond, not, ◌||◌, Some, None, List, [], ◌∷◌, ◌++◌, ℕ, ◌+◌, ◌/◌, ◌%◌, ◌^◌, ltb, eqb, length, get_or, take, drop}
use Rattle.limits.specs.Limits.{max_message, max_share}
use Rattle.buffer.specs.Entries.{size}
use Rattle.buffer.specs.Numbers.{four_bytes, number}
use Rattle.party.specs.State.{seat_of, blank_state}
use Rattle.party.specs.declared.Stage.{Stage}
use Rattle.party.specs.declared.Stage.TheVariants.{Root, Bit, First, Second, Ended}
use Rattle.party.specs.declared.Party.{Party}

-- the version of this layout: every change of it raises the number
abbrev pub layout_version : ℕ
layout_version = 4

-- the version, n, t, the own number and the stage in a byte each, two lengths of two bytes, and in four each the session's number and the map of parties
-- seen to be faulty; then the agreed root, the message and the relayed share
abbrev pub session_place : ℕ
session_place = 9

abbrev pub faulty_place : ℕ
faulty_place = session_place + 4

abbrev pub root_place : ℕ
root_place = faulty_place + 4

abbrev pub head_length : ℕ
head_length = root_place + 32

abbrev pub state_length : ℕ
state_length = head_length + max_message + max_share

-- a stage's number
abbrev pub stage_number : Stage → ℕ
stage_number Root = 0
stage_number Bit = 1
stage_number First = 2
stage_number Second = 3
stage_number (Ended None) = 4
stage_number (Ended (Some l)) = 5

-- the length written: of the result where the party ended with a message, of the message it holds else
abbrev pub length_for : Stage → ℕ → ℕ
length_for Root len = len
length_for Bit len = len
length_for First len = len
length_for Second len = len
length_for (Ended None) len = len
length_for (Ended (Some l)) len = l

-- a number in two bytes
abbrev pub pair : ℕ → List ℕ
pair k = k / 256 % 256 ∷ k % 256 ∷ []

-- a state as bytes. Of n, t and an own number over a byte, which a state that is not broken has none of, the lowest byte is written
unfoldable pub head_of : Party → List ℕ
head_of x =
    layout_version ∷ x.seat.n % 256 ∷ x.seat.t % 256 ∷ x.seat.own % 256 ∷ stage_number x.stage
    ∷ (pair (length_for x.stage x.len) ++ (pair x.held ++ (four_bytes x.seat.session ++ four_bytes x.faulty)))

unfoldable pub state_bytes : Party → List ℕ
state_bytes x = head_of x ++ (x.root ++ (x.message ++ x.share))

-- the stage of a number, with the length that stands beside it; from 5 on it is an end with a message
unfoldable pub stage_of : ℕ → ℕ → Stage
stage_of k len =
    cond (eqb k 0) Root
    (cond (eqb k 1) Bit
    (cond (eqb k 2) First
    (cond (eqb k 3) Second
    (cond (eqb k 4) (Ended None)
    (Ended (Some len))))))

-- the numbers that bytes hold
abbrev pub version_told : List ℕ → ℕ
version_told s = get_or s 0 0

abbrev pub stage_told : List ℕ → ℕ
stage_told s = get_or s 4 0

abbrev pub length_told : List ℕ → ℕ
length_told s = size (drop 5 s)

abbrev pub held_told : List ℕ → ℕ
held_told s = size (drop 7 s)

-- below two to the 32, as every number that four bytes say
abbrev pub session_told : List ℕ → ℕ
session_told s = number (drop session_place s) % 2 ^ 32

abbrev pub faulty_told : List ℕ → ℕ
faulty_told s = number (drop faulty_place s) % 2 ^ 32

-- a state read from bytes as it is written
unfoldable pub read_in : List ℕ → Party
read_in s =
    record {
      seat = seat_of (session_told s) (get_or s 1 0) (get_or s 2 0) (get_or s 3 0);
      stage = stage_of (stage_told s) (length_told s);
      message = take max_message (drop head_length s);
      len = cond (eqb (stage_told s) 5) 0 (length_told s);
      root = take 32 (drop root_place s);
      share = take max_share (drop (head_length + max_message) s);
      held = held_told s;
      faulty = faulty_told s;
    }

-- what bytes say as a state. Too few bytes, another version of the layout, or a number of no stage, are the blank state: n is 0 there, so that
-- every step refuses it with cause 5, as it does all other states that are none. Bytes past a state's length are not looked at
unfoldable pub state_of : List ℕ → Party
state_of s =
    cond (ltb (length s) state_length || not (eqb (version_told s) layout_version) || ltb 5 (stage_told s)) blank_state (read_in s)
