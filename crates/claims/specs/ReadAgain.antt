-- What request No. 1 of document 02 asks for, at SHA-256: whoever reads a result after the first reader gets the same one, from a party (document 01: a
-- box) with its state and from one behind the C interface with bytes. Assumes nothing.
use Rattle.std.specs.Prelude.{◌≡◌, ◌⊎◌, ◌≢◌, cond, not, ℕ, ◌-◌, ◌≤◌, ltb, eqb, length, replicate}
use mathlib.Core.List.{List, [], ◌∷◌, ◌++◌, map, Memᴰ}
use Rattle.std.proofs.Math.Option.{Option, none, some}
use Rattle.limits.specs.Limits.{max_message, max_share}
use Rattle.buffer.specs.Splice.{spliced}
use Rattle.buffer.specs.Entries.{fills}
use Rattle.sha256.specs.Sha256.{sha256}
use Rattle.party.specs.State.{Result, nothing, result_bytes, result_in, broken}
use Rattle.party.specs.Steps.{Stepped, refused, result_found}
use Rattle.party.specs.declared.Stage.TheVariants.{Second}
use Rattle.party.specs.declared.Party.{Party}
use Rattle.agreement.specs.Calls.{Call, take_relays, step_of, made}
use Rattle.agreement.specs.Agreement.{Good}
use Rattle.state_bytes.specs.Layout.{state_of}
use Rattle.capi.specs.Calls.{packed, value_shown, replies, called}
use Rattle.claims.specs.Terms.{when, foremost, lent, ended, FourBytes, Box, Host, box_of, further, NothingMore}
use Rattle.claims.specs.Claims.{All, Sitting, OneResult}

-- step 5 on any state that holds the result R, with any inbox: causes 5 and 9 alone, which change nothing, and cause 9 tells the book's length; else R, the
-- book at the start of the buffer, the map of boxes seen to cheat, and a state with the same seat, R and map, and zeros wherever else
pub record GivesAgain (x : Party) (R : Result) (out : List ℕ) (r : Stepped) : Type 0 where
  pub cause : r.cause ≡ foremost (when 5 (broken x) ∷ when 9 (ltb (length out) (length (result_bytes R))) ∷ [])
  pub kept : r.cause ≢ 0 → (r.state ≡ x) × (r.buffer ≡ out) × (r.value ≡ cond (eqb r.cause 9) (length (result_bytes R)) 0) × (r.result ≡ none)
      × (r.faulty ≡ 0)
  pub given : r.cause ≡ 0 → (r.buffer ≡ spliced out 0 (result_bytes R)) × (r.value ≡ length (result_bytes R)) × (r.result ≡ some R)
      × (r.faulty ≡ x.faulty)
  pub clean : r.cause ≡ 0 → (result_in r.state ≡ some R) × (r.state.seat ≡ x.seat)
      × (r.state.message ≡ result_bytes R ++ replicate (max_message - length (result_bytes R)) 0) × (r.state.len ≡ 0)
      × (r.state.root ≡ replicate 32 0) × (r.state.share ≡ replicate max_share 0) × (r.state.held ≡ 0)
      × (r.state.faulty ≡ x.faulty)

-- demand 3 for every reader: one result, which each accepted step 5 gave; on bit 0 that result is nothing
abbrev pub EveryReaderGetsIt : ℕ → ℕ → List Box → List ℕ → ℕ → Type 0
EveryReaderGetsIt n t boxes z bit = (R : Result) × OneResult n t boxes z bit R × (bit ≡ 0 → R ≡ nothing)
    × All n t boxes z bit (λ A. (inbox : List ℕ) (r : Option Result) → Memᴰ (ended inbox r) A.acts → r ≡ some R)

pub record ResultsAreReadAgain : Type 0 where
  pub step5 : (x : Party) (R : Result) (inbox out : List ℕ) → result_in x ≡ some R → GivesAgain x R out (made sha256 x (take_relays inbox out))
  -- all else is as before: steps 2 to 4 on such a state change nothing, and a party that waits for the second inbox judges it
  pub others : (x : Party) (R : Result) (c : Call) → result_in x ≡ some R → step_of c ≢ 5 → made sha256 x c ≡ refused x (cond (broken x) 5 6) (lent c)
  pub first : (x : Party) (inbox out : List ℕ) → x.stage ≡ Second → (made sha256 x (take_relays inbox out)).cause
      ≡ foremost (when 5 (broken x) ∷ when 8 (not (fills x.seat.n inbox)) ∷ when 9 (ltb (length out) (length (result_bytes (result_found sha256 x inbox)))) ∷ [])
  -- on bytes, where an accepted call, step 3 or step 5, left the party ended: with any inbox and room for the book a reader is told the result, 1 for a
  -- book and 0 for nothing, and above that bit the map that the state has, and leaves every byte of the state
  pub screen : (s : List ℕ) (c : Call) (R : Result) (inbox room : List ℕ) → let q = called sha256 s c in (made sha256 (state_of s) c).cause ≡ 0
      → result_in (state_of q.state) ≡ some R → length (result_bytes R) ≤ length room
      → called sha256 q.state (take_relays inbox room) ≡ replies (packed 0 (value_shown (some R) (state_of q.state).faulty 0)) q.state (spliced room 0 (result_bytes R))
  -- a good box that has ended: a further reader with room for the book is accepted and given it; whatever the box is called with, nothing changes
  pub next : (session n t : ℕ) (g : Good ⊎ Host) (R : Result) (inbox out : List ℕ) → FourBytes session → (box_of session n t g).cause ≡ 0 → (box_of session n t g).result ≡ some R
      → length (result_bytes R) ≤ length out → (box_of session n t (further (take_relays inbox out ∷ []) g)).acts ≡ (box_of session n t g).acts ++ (ended inbox (some R) ∷ [])
  pub later : (session n t : ℕ) (g : Good ⊎ Host) (R : Result) (more : List Call) → FourBytes session → (box_of session n t g).cause ≡ 0 → (box_of session n t g).result ≡ some R
      → NothingMore n (box_of session n t g) (box_of session n t (further more g))
  -- under the premises of demand 3, unchanged: what they suppose of step 5 they suppose of the first accepted one
  pub one : (session n t : ℕ) (good : List (Good ⊎ Host)) (z : List ℕ) (bit : ℕ) → FourBytes session → Sitting n t (map (box_of session n t) good) z bit
      → EveryReaderGetsIt n t (map (box_of session n t) good) z bit
