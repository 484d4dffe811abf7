-- The state of a party (document 01: box), what breaks it, and the one form that each stage's states are given back in.
-- The hash of the tree is a parameter; document 01's is SHA-256, at which the contracts cite these. Assumes nothing.
use Rattle.std.specs.Prelude.{Bool, true, false, not, ◌||◌, Option as Maybe, Some, None, List, [], ◌++◌, ℕ, ◌-◌, ltb, eqb, length, take, replicate}
use Rattle.std.proofs.Math.Option.{Option, none, some}
use Rattle.limits.specs.Limits.{max_parties, max_message, max_share, numbered, group_cause}
use Rattle.bitmap.specs.Bitmap.{names, up_to}
use Rattle.merkle.specs.Shares.{blank, same}
unfoldable pub use Rattle.commitment.specs.Commitment.{message_root}
use Rattle.commitment.specs.declared.Seat.{Seat}
use Rattle.party.specs.declared.Stage.{Stage}
use Rattle.party.specs.declared.Stage.TheVariants.{Root, Bit, First, Second, Ended}
use Rattle.party.specs.declared.Party.{Party}
use Rattle.party.specs.declared.Limits.{Limits}

-- the limits that belong to a party
abbrev pub party_limits : Limits
party_limits = record { parties = max_parties; message = max_message }

-- the seat in a session of this number, among n parties, of whom t may be bad, with the own number
abbrev pub seat_of : ℕ → ℕ → ℕ → ℕ → Seat
seat_of session n t own = record { session = session; n = n; t = t; own = own }

-- a list in an array of k bytes: zeros past its length
abbrev pub padded : ℕ → List ℕ → List ℕ
padded k l = l ++ replicate (k - length l) 0

-- the message and the relayed share that a state holds
abbrev pub message_in : Party → List ℕ
message_in x = take x.len x.message

abbrev pub share_held : Party → List ℕ
share_held x = take x.held x.share

-- a state that waits, with its message, agreed root, relayed share and map of parties seen to be faulty (document 02, No. 7: the map of those seen to cheat)
abbrev pub waiting : Seat → Stage → List ℕ → List ℕ → List ℕ → ℕ → Party
waiting s stage m z x f =
    record {
      seat = s;
      stage = stage;
      message = padded max_message m;
      len = length m;
      root = z;
      share = padded max_share x;
      held = length x;
      faulty = f;
    }

-- the five forms: waiting for the root, for the bit, for the first inbox, for the second, and ended; the last two have a map
unfoldable pub at_root : Seat → List ℕ → Party
at_root s m = waiting s Root m blank [] 0

unfoldable pub at_bit : Seat → List ℕ → List ℕ → Party
at_bit s m z = waiting s Bit m z [] 0

unfoldable pub at_first : Seat → List ℕ → List ℕ → Party
at_first s m z = waiting s First m z [] 0

unfoldable pub at_second : Seat → List ℕ → List ℕ → List ℕ → ℕ → Party
at_second s m z x f = waiting s Second m z x f

-- a result: nothing, or a message (which may be empty)
pub data Result : Type 0 where
  nothing : Result
  settled : List ℕ → Result

abbrev pub outcome_of : Result → Maybe ℕ
outcome_of nothing = None
outcome_of (settled m) = Some (length m)

abbrev pub result_bytes : Result → List ℕ
result_bytes nothing = []
result_bytes (settled m) = m

-- an ended party holds its result's bytes and its map, and neither message, root nor share
unfoldable pub at_end : Seat → Result → ℕ → Party
at_end s r f =
    record {
      seat = s;
      stage = Ended (outcome_of r);
      message = padded max_message (result_bytes r);
      len = 0;
      root = blank;
      share = padded max_share [];
      held = 0;
      faulty = f;
    }

-- a result told by its outcome, with the bytes beside it
abbrev pub result_from : Maybe ℕ → List ℕ → Result
result_from None bs = nothing
result_from (Some l) bs = settled (take l bs)

-- the result that a state holds; none before the end
abbrev pub result_at : Stage → List ℕ → Option Result
result_at Root bs = none
result_at Bit bs = none
result_at First bs = none
result_at Second bs = none
result_at (Ended o) bs = some (result_from o bs)

abbrev pub result_in : Party → Option Result
result_in x = result_at x.stage x.message

abbrev pub has_ended : Stage → Bool
has_ended Root = false
has_ended Bit = false
has_ended First = false
has_ended Second = false
has_ended (Ended o) = true

-- the state of a refused opening, which every step refuses
unfoldable pub blank_state : Party
blank_state =
    record {
      seat = seat_of 0 0 0 0;
      stage = Root;
      message = replicate max_message 0;
      len = 0;
      root = blank;
      share = replicate max_share 0;
      held = 0;
      faulty = 0;
    }

-- the length of a result is over its limit
abbrev pub overlong : Stage → Bool
overlong Root = false
overlong Bit = false
overlong First = false
overlong Second = false
overlong (Ended None) = false
overlong (Ended (Some l)) = ltb max_message l

-- the map names a party beyond n, or the party itself
abbrev pub stray : Party → Bool
stray x = not (up_to x.seat.n x.faulty) || names x.faulty x.seat.own

-- cause 5: a state that breaks causes 1 to 4, holds a length over its limit, or a map that names a party which it cannot
unfoldable pub broken : Party → Bool
broken x =
    not (eqb (group_cause x.seat.n x.seat.t) 0) || not (numbered x.seat.n x.seat.own) || ltb max_message x.len || ltb max_share x.held
    || stray x || overlong x.stage

module _ (H : List ℕ → List ℕ) where
  -- a party is happy if the agreed root is that of its own message under the session's number: worked out, never stored
  unfoldable pub happy : Party → Bool
  happy x = same (message_root H x.seat.session x.seat.n x.seat.t (message_in x)) x.root
