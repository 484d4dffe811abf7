-- The definitions on the plan that document 01 works out, and on plans next to it: its parts, one book, one packet, and the order of the
-- causes. By computation, and for messages at the greatest length by laws on entries. Assumes nothing.
use mathlib.Core.Path.{◌≡◌, refl, ◌∙◌}
use mathlib.Core.Bool.{Bool, true, false, cond, not, ◌&&◌}
use mathlib.Core.List.{List, [], ◌∷◌, ◌++◌}
use Prim.Native.Nat.{ℕ, ◌+◌, ◌≤◌}
use native.Mathlib.Omega.{arith}
use borrow.Author.Tests.{le-ltb, le-leb, lt-leb}
use lib.Dec.{leb, eqb}
use lib.ListN.{length, take, drop, replicate, length-append}
use Rattle.limits.specs.Limits.{max_message, max_plan, parties, numbered, group_cause}
use Rattle.buffer.specs.Numbers.{number}
use Rattle.buffer.specs.Entries.{size, body, rest}
use Rattle.buffer.proofs.Entries.{entry, entry-body}
use Rattle.plan.specs.Layout.{every, walk, skip_entry, party_entry, skip_block, packet_from, field_bytes, root_in, bit_in, good_in, exchange_in, end_of, laid_out}
use Rattle.plan.specs.Layout.{session_of, holders, behind_books, sender_packet}
use Rattle.plan.specs.Plan.{plan_cause, plan_of}
use Rattle.plan.proofs.Blocks.{entry-skipped}

-- n 3, t 1, parties 1 and 2 good with the same book, party 3 silent in both exchanges
abbrev worked : List ℕ
worked =
    0x03 ∷ 0x01 ∷ 0x00 ∷ 0x00 ∷ 0x03 ∷ 0x00 ∷ 0x02 ∷ 0x41 ∷ 0x42 ∷ 0x00 ∷ 0x02 ∷ 0x41 ∷ 0x42 ∷ 0x00 ∷ 0x00 ∷ 0x00 ∷ 0x00 ∷ []

pub worked-read : plan_of worked
    ≡ record { cause = 0; n = 3; t = 1; options = 0; sender = 0; session = 0; good = 3; holders = 3; books = 5; packets = 13; exchanges = 13 }
unfolding parties group_cause size rest skip_entry skip_block every numbered body party_entry number session_of holders behind_books exchange_in walk field_bytes end_of laid_out plan_cause plan_of
worked-read = refl

pub worked-book : party_entry 3 3 2 (drop 5 worked) ≡ 0x41 ∷ 0x42 ∷ []
unfolding numbered size body rest walk skip_entry party_entry
worked-book = refl

-- a root and a bit are given: their fields stand before the map of good parties
abbrev optioned : List ℕ
optioned = 0x01 ∷ 0x00 ∷ 0x03 ∷ (replicate 32 0xAB ++ (0x01 ∷ 0x00 ∷ 0x01 ∷ 0x00 ∷ 0x00 ∷ []))

pub fields_read : (root_in optioned ≡ replicate 32 0xAB) × (bit_in optioned ≡ 1) × (good_in optioned ≡ 1)
unfolding size field_bytes
fields_read = (refl, refl, refl)

-- party 3 sends one byte to party 2 and no packet to party 1
pub sent-packet : packet_from 3 3 3 2 (0x00 ∷ 0x02 ∷ 0x00 ∷ 0x01 ∷ 0xAA ∷ []) ≡ 0xAA ∷ []
unfolding numbered size body rest walk skip_entry party_entry skip_block packet_from
sent-packet = refl

pub unsent-packet : packet_from 3 3 3 1 (0x00 ∷ 0x02 ∷ 0x00 ∷ 0x01 ∷ 0xAA ∷ []) ≡ []
unfolding numbered size body rest walk skip_entry party_entry skip_block packet_from
unsent-packet = refl

-- a byte left over, an unknown option, a receiver that is not good
pub left_over : plan_cause (worked ++ (0x00 ∷ [])) ≡ 13
unfolding parties group_cause size rest skip_entry skip_block every numbered holders walk field_bytes end_of laid_out plan_cause
left_over = refl

pub unknown-option : plan_cause (0x03 ∷ 0x01 ∷ 0x10 ∷ drop 3 worked) ≡ 13
unfolding parties group_cause field_bytes end_of laid_out plan_cause
unknown-option = refl

pub bad-receiver : plan_cause (take 13 worked ++ (0x00 ∷ 0x04 ∷ 0x00 ∷ 0x00 ∷ 0x00 ∷ 0x00 ∷ [])) ≡ 13
unfolding parties group_cause size rest skip_entry skip_block every numbered holders walk field_bytes end_of laid_out plan_cause
bad-receiver = refl

-- the same parties, and one of them sends: party 2, which is good and alone has a book; party 3, which is bad and gives party 1 a packet; and numbers that none
-- has, laid out as a bad sender's; without that block the layout is wrong
abbrev sends : ℕ → List ℕ → List ℕ
sends q r = 0x03 ∷ 0x01 ∷ 0x04 ∷ q ∷ 0x00 ∷ 0x03 ∷ (r ++ (0x00 ∷ 0x00 ∷ 0x00 ∷ 0x00 ∷ []))

abbrev block : List ℕ
block = 0x00 ∷ 0x01 ∷ 0x00 ∷ 0x03 ∷ 0x08 ∷ 0x00 ∷ 0x00 ∷ []

pub good-sender : plan_of (sends 2 (0x00 ∷ 0x01 ∷ 0x41 ∷ []))
    ≡ record { cause = 0; n = 3; t = 1; options = 4; sender = 2; session = 0; good = 3; holders = 2; books = 6; packets = 9; exchanges = 9 }
unfolding parties group_cause size rest skip_entry skip_block every numbered body party_entry session_of holders behind_books exchange_in walk field_bytes end_of laid_out plan_cause plan_of
good-sender = refl

pub bad-sender : plan_of (sends 3 block)
    ≡ record { cause = 0; n = 3; t = 1; options = 4; sender = 3; session = 0; good = 3; holders = 0; books = 6; packets = 6; exchanges = 13 }
unfolding parties group_cause size rest skip_entry skip_block every numbered body party_entry session_of holders behind_books exchange_in walk field_bytes end_of laid_out plan_cause plan_of
bad-sender = refl

pub sender-sends : (sender_packet 1 (sends 3 block) ≡ 0x08 ∷ 0x00 ∷ 0x00 ∷ []) × (sender_packet 2 (sends 3 block) ≡ [])
unfolding numbered size body rest walk skip_entry party_entry field_bytes holders behind_books sender_packet
sender-sends = (refl, refl)

pub no-sender : (plan_cause (sends 0 block) ≡ 3) × (plan_cause (sends 4 block) ≡ 3)
unfolding parties group_cause size rest skip_entry skip_block every numbered holders walk field_bytes end_of laid_out plan_cause
no-sender = (refl, refl)

pub no-sender-block : (plan_cause (sends 0 []) ≡ 13) × (plan_cause (sends 3 []) ≡ 13)
unfolding parties group_cause size rest skip_entry skip_block every numbered holders walk field_bytes end_of laid_out plan_cause
no-sender-block = (refl, refl)

-- another good party's book is listed beside the sender's
pub second-book : plan_cause (sends 2 (0x00 ∷ 0x01 ∷ 0x41 ∷ 0x00 ∷ 0x01 ∷ 0x41 ∷ [])) ≡ 13
unfolding parties group_cause size rest skip_entry skip_block every numbered holders walk field_bytes end_of laid_out plan_cause
second-book = refl

-- the same parties in a session whose number has the four bytes i, the highest first. Number 0 has the parts of no number, but that they start four bytes later;
-- the field stands behind a sender's; a plan that ends in it is badly laid out
abbrev in_session : List ℕ → List ℕ
in_session i = 0x03 ∷ 0x01 ∷ 0x08 ∷ (i ++ drop 3 worked)

pub session-read : plan_of (in_session (0x00 ∷ 0x00 ∷ 0x00 ∷ 0x07 ∷ []))
    ≡ record { cause = 0; n = 3; t = 1; options = 8; sender = 0; session = 7; good = 3; holders = 3; books = 9; packets = 17; exchanges = 17 }
unfolding parties group_cause size rest skip_entry skip_block every numbered body party_entry number session_of holders behind_books exchange_in walk field_bytes end_of laid_out plan_cause plan_of
session-read = refl

pub session-zero : plan_of (in_session (replicate 4 0x00))
    ≡ record { cause = 0; n = 3; t = 1; options = 8; sender = 0; session = 0; good = 3; holders = 3; books = 9; packets = 17; exchanges = 17 }
unfolding parties group_cause size rest skip_entry skip_block every numbered body party_entry number session_of holders behind_books exchange_in walk field_bytes end_of laid_out plan_cause plan_of
session-zero = refl

pub session-high : session_of (in_session (0x01 ∷ 0x00 ∷ 0x00 ∷ 0x00 ∷ [])) ≡ 0x01000000
unfolding field_bytes number session_of
session-high = refl

pub session-behind-sender : plan_of (0x03 ∷ 0x01 ∷ 0x0C ∷ 0x02 ∷ 0x00 ∷ 0x00 ∷ 0x01 ∷ 0x02 ∷ drop 4 (sends 2 (0x00 ∷ 0x01 ∷ 0x41 ∷ [])))
    ≡ record { cause = 0; n = 3; t = 1; options = 12; sender = 2; session = 258; good = 3; holders = 2; books = 10; packets = 13; exchanges = 13 }
unfolding parties group_cause size rest skip_entry skip_block every numbered body party_entry number session_of holders behind_books exchange_in walk field_bytes end_of laid_out plan_cause plan_of
session-behind-sender = refl

pub session-cut : plan_cause (take 6 (in_session (replicate 4 0x00))) ≡ 13
unfolding parties group_cause field_bytes end_of laid_out plan_cause
session-cut = refl

-- one party with the message m, and bytes behind it
abbrev alone : List ℕ → List ℕ → List ℕ
alone m r = 0x01 ∷ 0x00 ∷ 0x00 ∷ 0x00 ∷ 0x01 ∷ entry m r

-- whatever the message, its layout is judged first and then its length
judged : (m r : List ℕ) → length (alone m r) ≤ max_plan
    → plan_cause (alone m r) ≡ cond (not (eqb (length r) 0)) 13 (cond (leb (length m) max_message) 0 4)
unfolding parties group_cause size every numbered party_entry walk field_bytes holders end_of laid_out plan_cause
judged m r fits =
    rw (le-ltb (length (alone m r)) 2 (omega arith), le-ltb max_plan (length (alone m r)) fits, le-ltb (length (alone m r)) 5 (omega arith), entry-skipped m r, entry-body m r)
    (go (eqb (length r) 0) (leb (length m) max_message))
  where
    go : (a b : Bool) → ◌≡◌ {A = ℕ} (cond (not a) 13 (cond (not (b && true)) 4 0)) (cond (not a) 13 (cond b 0 4))
    go true true = refl
    go true false = refl
    go false b = refl

-- one party with a message of the greatest length is taken; one whose message has a byte more is cause 4, with a byte left over besides cause 13, and with t 1 cause 2
pub longest-message : (m : List ℕ) → length m ≡ max_message → plan_cause (alone m []) ≡ 0
longest-message m e = judged m [] (omega (arith, length-append m [])) ∙ rw (le-leb (length m) max_message (omega arith))

pub long-message : (m : List ℕ) → length m ≡ max_message + 1 → plan_cause (alone m []) ≡ 4
long-message m e = judged m [] (omega (arith, length-append m [])) ∙ rw (lt-leb (length m) max_message (omega arith))

pub long-left-over : (m : List ℕ) → length m ≡ max_message + 1 → plan_cause (alone m (0x00 ∷ [])) ≡ 13
long-left-over m e = judged m (0x00 ∷ []) (omega (arith, length-append m (0x00 ∷ [])))

pub long-faults : (m : List ℕ) → length m ≡ max_message + 1 → plan_cause (0x01 ∷ 0x01 ∷ drop 2 (alone m [])) ≡ 2
unfolding parties group_cause plan_cause
long-faults m e = rw (le-ltb (length (alone m [])) 2 (omega arith))
