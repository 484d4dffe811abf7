-- A party's list of calls after its opening (document 01, "A sitting, as demand 3 means it"): what each call gives back, which were
-- accepted, which strings the party hashed, and how many bytes it sent. The hash of the tree is a parameter H. Assumes nothing.
use Rattle.std.specs.Prelude.{cond, ◌||◌, List, [], ◌∷◌, ◌++◌, ℕ, ◌+◌, ◌-◌, ◌*◌, eqb, length, take}
use Rattle.std.proofs.Math.Option.{Option, none, some}
use Rattle.buffer.specs.Entries.{bodies}
use Rattle.erasure.specs.Coding.{shares}
use Rattle.merkle.specs.Shares.{coding_strings}
use Rattle.commitment.specs.Rebuild.{recoded_strings}
use Rattle.party.specs.State.{Result, result_in, has_ended, happy}
use Rattle.party.specs.Steps.{open_of, Stepped, agree_root_of, agree_bit_of, take_shares_of, recovered_by, take_relays_of}
unfoldable pub use Rattle.party.specs.Steps.{entry}
use Rattle.party.specs.Strings.{share_strings, all_share_strings, relay_strings}
use Rattle.party.specs.declared.Party.{Party}
use Rattle.party.specs.Answer.{Opened}

-- a call of step 2, 3, 4 or 5, with what it is handed: a root; a bit and the out buffer; an inbox and the out buffer
pub data Call : Type 0 where
  agree_root : List ℕ → Call
  agree_bit : ℕ → List ℕ → Call
  take_shares : List ℕ → List ℕ → Call
  take_relays : List ℕ → List ℕ → Call

-- document 01's number of the step
abbrev pub step_of : Call → ℕ
step_of (agree_root z) = 2
step_of (agree_bit bit out) = 3
step_of (take_shares inbox out) = 4
step_of (take_relays inbox out) = 5

-- the inbox that a call is handed; none at steps 2 and 3
abbrev pub inbox_in : Call → List ℕ
inbox_in (agree_root z) = []
inbox_in (agree_bit bit out) = []
inbox_in (take_shares inbox out) = inbox
inbox_in (take_relays inbox out) = inbox

-- a call that was made: the state it got, and what it gave back
pub record Event : Type 0 where
  pub before : Party
  pub call : Call
  pub reply : Stepped

-- the accepted ones
unfoldable pub accepted : List Event → List Event
accepted [] = []
accepted (e ∷ es) = cond (eqb e.reply.cause 0) (e ∷ accepted es) (accepted es)

-- the first of step k
unfoldable pub first : ℕ → List Event → Option Event
first k [] = none
first k (e ∷ es) = cond (eqb (step_of e.call) k) (some e) (first k es)

-- what stands under sender j's number in the inbox that a call was handed
abbrev pub heard : ℕ → ℕ → Option Event → List ℕ
heard n j none = []
heard n j (some e) = entry n j (inbox_in e.call)

-- what an accepted step 3 or 4 wrote: as many bytes of the buffer as the answer says
abbrev pub written_by : Event → List ℕ
written_by e = take e.reply.value e.reply.buffer

abbrev pub wrote : Option Event → List ℕ
wrote none = []
wrote (some e) = written_by e

-- the packet for party i in what step 3 wrote
abbrev pub packet_to : ℕ → ℕ → Option Event → List ℕ
packet_to n i e = entry n i (wrote e)

-- the bit that step 2 gave
abbrev pub bit_given : Option Event → Option ℕ
bit_given none = none
bit_given (some e) = some e.reply.value

-- the lengths of entries without the two bytes in front of each
unfoldable pub lengths : List (List ℕ) → ℕ
lengths [] = 0
lengths (p ∷ ps) = length p + lengths ps

-- the bytes that an accepted call among n parties sent: the packets of step 3, and the relay of step 4 to the n - 1 others
abbrev pub sent_in : ℕ → Call → List ℕ → ℕ
sent_in n (agree_root z) bs = 0
sent_in n (agree_bit bit out) bs = lengths (bodies n bs)
sent_in n (take_shares inbox out) bs = (n - 1) * length bs
sent_in n (take_relays inbox out) bs = 0

unfoldable pub sent_over : ℕ → List Event → ℕ
sent_over n [] = 0
sent_over n (e ∷ es) = sent_in n e.call (written_by e) + sent_over n es

-- the strings of several calls, by those of each
unfoldable pub strings_over : (Party → Call → List (List ℕ)) → List Event → List (List ℕ)
strings_over of [] = []
strings_over of (e ∷ es) = of e.before e.call ++ strings_over of es

module _ (H : List ℕ → List ℕ) where
  unfoldable pub made : Party → Call → Stepped
  made x (agree_root z) = agree_root_of H x z
  made x (agree_bit bit out) = agree_bit_of H x bit out
  made x (take_shares inbox out) = take_shares_of H x inbox out
  made x (take_relays inbox out) = take_relays_of H x inbox out

  -- each call gets the state that the last one gave back
  unfoldable pub events : Party → List Call → List Event
  events x [] = []
  events x (c ∷ cs) = record { before = x; call = c; reply = made x c } ∷ events (made x c).state cs

  unfoldable pub final : Party → List Call → Party
  final x [] = x
  final x (c ∷ cs) = final (made x c).state cs

  -- the strings of the path checks that settle what an accepted call of an unhappy party relays or rebuilds: in step 4 up to the first that passes, in step 5
  -- all, but none where it reads its result again
  unfoldable pub checked_in : Party → Call → List (List ℕ)
  checked_in x (agree_root z) = []
  checked_in x (agree_bit bit out) = []
  checked_in x (take_shares inbox out) =
      cond (happy H x) [] (share_strings H x.seat.session x.seat.n x.seat.own x.root 1 (bodies x.seat.n inbox))
  checked_in x (take_relays inbox out) =
      cond (has_ended x.stage || happy H x) [] (relay_strings H x.seat.session x.seat.n x.seat.own 1 (bodies x.seat.n inbox))

  -- those of all path checks that it makes, happy or not, for its map of those seen to be faulty (document 02, No. 7); the former are among them
  -- (`Strings.checked-judged`)
  unfoldable pub judged_in : Party → Call → List (List ℕ)
  judged_in x (agree_root z) = []
  judged_in x (agree_bit bit out) = []
  judged_in x (take_shares inbox out) = all_share_strings H x.seat.session x.seat.n x.seat.own 1 (bodies x.seat.n inbox)
  judged_in x (take_relays inbox out) =
      cond (has_ended x.stage) [] (relay_strings H x.seat.session x.seat.n x.seat.own 1 (bodies x.seat.n inbox))

  -- the strings of the message that an accepted call rebuilds and codes again: step 5 of an unhappy party that had not ended (document 02, No. 4)
  unfoldable pub recoded_in : Party → Call → List (List ℕ)
  recoded_in x (agree_root z) = []
  recoded_in x (agree_bit bit out) = []
  recoded_in x (take_shares inbox out) = []
  recoded_in x (take_relays inbox out) =
      cond (has_ended x.stage || happy H x) [] (recoded_strings H x.seat.session x.seat.n x.seat.t (recovered_by H x inbox))

  -- beside those of the message that the state holds, these are all that an accepted call hashes
  abbrev pub hashed_in : Party → Call → List (List ℕ)
  hashed_in x c = judged_in x c ++ recoded_in x c

  -- and these settle all that it gives but its map
  abbrev pub settling_in : Party → Call → List (List ℕ)
  settling_in x c = checked_in x c ++ recoded_in x c

  abbrev pub checked_over : List Event → List (List ℕ)
  checked_over es = strings_over checked_in es

  abbrev pub judged_over : List Event → List (List ℕ)
  judged_over es = strings_over judged_in es

  abbrev pub recoded_over : List Event → List (List ℕ)
  recoded_over es = strings_over recoded_in es

  -- a party that opened with a session's number, n, t, its number and a message
  module _ (session n t own : ℕ) (m : List ℕ) where
    abbrev pub opening : Opened
    opening = open_of H session n t own m

    -- and then got these calls
    module _ (calls : List Call) where
      -- its accepted calls, and the first of step k among them
      unfoldable pub did : List Event
      did = accepted (events opening.state calls)

      abbrev pub first_of : ℕ → Option Event
      first_of k = first k did

      -- the result that its state holds after the list
      abbrev pub result_after : Option Result
      result_after = result_in (final opening.state calls)

      -- the strings of its opening and of the path checks that settle what it relays and rebuilds: the leaf and node strings of the message that it opened
      -- with, and those of these checks. Agreement supposes something of these alone
      unfoldable pub opened_and_checked : List (List ℕ)
      opened_and_checked = coding_strings H session n (shares n (n - t) m) ++ checked_over did

      -- those of the message that it rebuilt and coded again
      unfoldable pub recoded : List (List ℕ)
      recoded = recoded_over did

      -- the strings that settle its results
      abbrev pub settling : List (List ℕ)
      settling = opened_and_checked ++ recoded

      -- those of all its path checks
      unfoldable pub judged : List (List ℕ)
      judged = judged_over did

      -- all strings it hashed; those of `opened_and_checked` are among them (`Strings.opened-hashed`)
      abbrev pub hashed : List (List ℕ)
      hashed = coding_strings H session n (shares n (n - t) m) ++ judged ++ recoded

      -- the bytes it sent
      unfoldable pub sent_by : ℕ
      sent_by = sent_over n did
