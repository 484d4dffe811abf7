-- What request No. 4 of document 02 asks for, at SHA-256: a rebuilt book has the agreed root, or the result is nothing; every sitting still ends as it did; and no
-- book is invented, however many boxes are bad. That none is invented where the bit's rule is broken as well is not claimed. Assumes nothing.
use Rattle.std.specs.Prelude.{◌≡◌, ◌⊎◌, false, cond, not, ℕ, ◌-◌, ltb, eqb, length, take}
use mathlib.Core.List.{List, [], ◌∷◌, ◌++◌, map, Memᴰ}
use Rattle.std.proofs.Math.Option.{some}
use Rattle.buffer.specs.Bounds.{Bytes}
use Rattle.buffer.specs.Entries.{fills, bodies}
use Rattle.erasure.specs.Coding.{shares}
use Rattle.erasure.specs.Rebuild.{present, point, joined, message}
use Rattle.sha256.specs.Sha256.{sha256}
use Rattle.merkle.specs.Strings.{Collision}
use Rattle.merkle.specs.Shares.{same, coding_strings}
use Rattle.commitment.specs.Commitment.{message_root}
use Rattle.commitment.specs.Rebuild.{rebuild_with_root_of}
use Rattle.party.specs.State.{Result, nothing, settled, has_ended, happy}
use Rattle.party.specs.Steps.{open_of, recovered_by, result_of}
use Rattle.party.specs.declared.Party.{Party}
use Rattle.agreement.specs.Calls.{events}
use Rattle.agreement.specs.Agreement.{Good, join_over}
use Rattle.agreement.specs.AgreedRoot.{events_unchecked}
use Rattle.claims.specs.Terms.{when, group_then, unless, cause_joined, book_joined, rooted, sent, first, FourBytes, Box, Clean, EndsWith, Host, box_of, party}
use Rattle.claims.specs.Claims.{All, Sitting}

-- good boxes that are told one root and one bit, which is by its rule; how many are bad, and what they send, is not said
pub record Told (n t : ℕ) (good : List Box) (z : List ℕ) (bit : ℕ) : Type 0 where
  pub opened : All n t good z bit (λ A. (A.cause ≡ 0) × Bytes A.book)
  pub root : All n t good z bit (λ A. (b : ℕ) × (first 2 A.acts ≡ some (rooted z b)))
  pub same_bit : All n t good z bit (λ A. (b : ℕ) (out : List ℕ) → first 3 A.acts ≡ some (sent b out) → b ≡ bit)
  pub bit-rule : (v : ℕ) → All n t good z bit (λ A. first 2 A.acts ≡ some (rooted z v)) → bit ≡ v

-- a result of A is nothing or the book of one of these, or a string of A's second coding and one of that one's opening, two different ones, have one hash
abbrev pub Somebodys : ℕ → ℕ → ℕ → List Box → Box → Result → Type 0
Somebodys session n t good A R = (R ≡ nothing) ⊎ ((B : Box) × Memᴰ B good
    × ((R ≡ settled B.book) ⊎ Collision sha256 A.recoded (coding_strings sha256 session n (shares n (n - t) B.book))))

pub record RebuiltBooksHaveTheAgreedRoot : Type 0 where
  -- rebuilding under a root z: causes 15 and then 9 come last
  pub tool : (session n t : ℕ) (z es out : List ℕ) → let ps = present 1 (bodies n es) in let r = joined (n - t) (length (point ps 0).share) (take (n - t) ps) in
      rebuild_with_root_of sha256 session n t z es out ≡ unless (group_then n t (when 7 (not (eqb (length z) 32)) ∷ when 8 (not (fills n es)) ∷ when 11 (ltb (length ps) (n - t))
      ∷ cause_joined r ∷ when 15 (not (same (message_root sha256 session n t (book_joined r)) z)) ∷ [])) (book_joined r) out
  -- step 5 of an unhappy box that rebuilds the book m; and of any list of calls, whatever the other boxes are
  pub step5 : (x : Party) (inbox m : List ℕ) → has_ended x.stage ≡ false → happy sha256 x ≡ false → recovered_by sha256 x inbox ≡ message m
      → result_of sha256 x inbox ≡ cond (same (message_root sha256 x.seat.session x.seat.n x.seat.t m) x.root) (settled m) nothing
  pub agreed : (session n t : ℕ) (g : Good ⊎ Host) (m : List ℕ) → FourBytes session → (box_of session n t g).cause ≡ 0 → EndsWith (box_of session n t g) (settled m)
      → (z : List ℕ) × (b : ℕ) × (first 2 (box_of session n t g).acts ≡ some (rooted z b)) × (message_root sha256 session n t m ≡ z)
  -- demand 3 supposes both and more. Then every call of every good box's party gives all that it gave with step 5 as it was (`events_unchecked`), and hashes nothing else
  pub sitting : (n t : ℕ) (good : List Box) (z : List ℕ) (bit : ℕ) → Sitting n t good z bit → Told n t good z bit × Clean good
  pub as_before : (session n t : ℕ) (good : List (Good ⊎ Host)) (z : List ℕ) (bit : ℕ) → FourBytes session → let boxes = map (box_of session n t) good in Told n t boxes z bit → Clean boxes
      → (g : Good ⊎ Host) → Memᴰ g good → let A = party g in let x = (open_of sha256 session n t A.own A.message).state in
      events_unchecked sha256 x A.calls ≡ events sha256 x A.calls
  pub no-string-more : (session n t : ℕ) (good : List (Good ⊎ Host)) (z : List ℕ) (bit : ℕ) → FourBytes session → let boxes = map (box_of session n t) good in Told n t boxes z bit → Clean boxes
      → (s : List ℕ) → Memᴰ s (join_over (λ (A : Box). A.opened_and_checked ++ A.recoded) boxes) → Memᴰ s (join_over (λ (A : Box). A.opened_and_checked) boxes)
  -- a good box ends with nothing or with a good box's book, or a string of its second coding and one of a good box's opening collide
  pub not-invented : (session n t : ℕ) (good : List (Good ⊎ Host)) (z : List ℕ) (bit : ℕ) → FourBytes session → let boxes = map (box_of session n t) good in Told n t boxes z bit
      → All n t boxes z bit (λ A. (R : Result) → EndsWith A R → Somebodys session n t boxes A R)
