-- The theorems of the tree at work on three shares of one byte, under session number 7. So their premises can be met, and nobody drops a theorem unseen.
-- No hash is computed. Assumes nothing.
use mathlib.Core.Path.{◌≡◌, refl, sym, ap, ◌∙◌}
use mathlib.Core.Logic.{◌⊎◌}
use mathlib.Core.Bool.{true}
use mathlib.Core.List.{List, [], ◌∷◌, ◌++◌}
use Prim.Native.Nat.{ℕ, ◌-◌}
use native.Mathlib.Omega.{arith}
use lib.Dec.{lit≤}
use lib.ListN.{length, take, replicate}
use Rattle.limits.specs.Limits.{max_path, parties}
use Rattle.buffer.specs.Numbers.{four_bytes}
use Rattle.sha256.specs.Sha256.{sha256}
use Rattle.sha256.proofs.Laws.{sha256-length}
use Rattle.merkle.specs.Tree.{split_from, split, shape_of, shape, size, sides, root, path, folded}
use Rattle.merkle.specs.Strings.{Collision}
use Rattle.merkle.specs.Shares.{session_bytes, leaf_string, leaf_strings, front_length, blank, shares_cause, leaves_of, root_of, sides_of, path_of, passes}
use Rattle.merkle.specs.Shares.{coding_strings, strings_of, check_of}
use Rattle.merkle.specs.Answer.{checked}
use Rattle.merkle.specs.Answer.{Yes}
use Rattle.merkle.proofs.Depends.{Agree}
use Rattle.merkle.proofs.Trees.{roots-differ, path-wide, path-passes, path-checks, passes-sound}
use Rattle.merkle.proofs.Trees.{root-hashed, path-hashed, check-hashed}

abbrev abc : List ℕ
abc = 0xAA ∷ 0xBB ∷ 0xCC ∷ []

abbrev second : List ℕ
second = 0xBB ∷ []

fine : shares_cause 7 3 3 ≡ 0
unfolding shares_cause front_length session_bytes four_bytes parties
fine = refl

-- the path of share 2 has two hashes
two : length (sides_of 3 2) ≡ 2
unfolding split_from split shape_of shape size sides
two = refl

abbrev made : List (List ℕ)
made = path_of sha256 3 2 (leaves_of sha256 7 3 abc)

abbrev top : List ℕ
top = root_of sha256 3 (leaves_of sha256 7 3 abc)

pub second-passes : passes sha256 7 3 2 second made 2 top ≡ true
second-passes =
    ap (λ (count : ℕ). passes sha256 7 3 2 second made count top) (sym two) ∙ path-passes sha256 sha256-length 7 3 abc fine 2 (lit≤ tt) (lit≤ tt)

pub second-checks : check_of sha256 7 3 2 second made 2 top ≡ checked Yes
second-checks =
    ap (λ (count : ℕ). check_of sha256 7 3 2 second made count top) (sym two) ∙ path-checks sha256 sha256-length 7 3 abc fine 2 (lit≤ tt) (lit≤ tt)

-- no other share passes with that path
pub second-only : (share : List ℕ) → passes sha256 7 3 2 share made 2 top ≡ true
    → (share ≡ second) ⊎ Collision sha256 (strings_of sha256 7 3 2 share made 2) (coding_strings sha256 7 3 abc)
second-only share =
    passes-sound sha256 sha256-length 7 3 abc fine 2 (lit≤ tt) (lit≤ tt) share made 2
    (λ i h. path-wide sha256 sha256-length 7 3 abc fine 2 (lit≤ tt) (lit≤ tt) i (omega (arith, two)))

pub second-itself : (second ≡ second) ⊎ Collision sha256 (strings_of sha256 7 3 2 second made 2) (coding_strings sha256 7 3 abc)
second-itself = second-only second second-passes

-- no other three bytes have that root
pub abc-only : (others : List ℕ) → length others ≡ 3 → root_of sha256 3 (leaves_of sha256 7 3 others) ≡ top
    → (others ≡ abc) ⊎ Collision sha256 (coding_strings sha256 7 3 others) (coding_strings sha256 7 3 abc)
abc-only others e = roots-differ sha256 sha256-length 7 3 abc fine others (ap (shares_cause 7 3) e ∙ fine) e

pub abc-itself : (abc ≡ abc) ⊎ Collision sha256 (coding_strings sha256 7 3 abc) (coding_strings sha256 7 3 abc)
abc-itself = abc-only abc refl refl

-- what another hash gives that agrees with SHA-256 on the strings hashed
pub abc-root : (K : List ℕ → List ℕ) → Agree sha256 K (coding_strings sha256 7 3 abc) → top ≡ root K (shape 3) (leaf_strings 7 3 abc)
abc-root = root-hashed sha256 sha256-length 7 3 abc fine

pub second-path : (K : List ℕ → List ℕ) → Agree sha256 K (coding_strings sha256 7 3 abc)
    → made ≡ path K (shape 3) 1 (leaf_strings 7 3 abc) ++ replicate (max_path - 2) blank
second-path K f =
    path-hashed sha256 sha256-length 7 3 abc fine 2 (lit≤ tt) (lit≤ tt) K f
    ∙ ap (λ (count : ℕ). path K (shape 3) 1 (leaf_strings 7 3 abc) ++ replicate (max_path - count) blank) two

pub second-fold : (K : List ℕ → List ℕ) → Agree sha256 K (strings_of sha256 7 3 2 second made 2)
    → folded sha256 (sides_of 3 2) (take 2 made) (sha256 (leaf_string 7 2 second))
    ≡ folded K (sides_of 3 2) (take 2 made) (K (leaf_string 7 2 second))
second-fold K f = check-hashed sha256 7 3 2 second made 2 K (sym two) f
