-- Laws of the hashes in a list of bytes and of the path at a place: their number and lengths, one hash more at the end, and one
-- law for each outcome. By induction on the number of hashes. Assumes nothing.
use mathlib.Core.Path.{◌≡◌, refl, sym, ap, ap₂, ◌∙◌}
use mathlib.Core.List.{List, ◌∷◌, ◌++◌}
use Prim.Native.Nat.{ℕ, zero, suc, ◌+◌, ◌-◌, ◌*◌, ◌/◌, ◌≤◌}
use native.Mathlib.Omega.{arith}
use borrow.Author.Tests.{le-ltb}
use lib.ListN.{length, take, drop, replicate, length-drop}
use lib.Seq.{length-take-le}
use Rattle.limits.specs.Limits.{max_path}
use Rattle.merkle.specs.Shares.{blank}
use Rattle.merkle.proofs.Sound.{Wide}
use Rattle.std.proofs.lemmas.List.{drop-replicate}
use Rattle.std.specs.Simd.{first_chunks}
use Rattle.packet.specs.Format.{hashes}
use Rattle.packet.proofs.Slices.{hashes-take}
use Rattle.packet.specs.Answer.{path_at}

pub length-hashes : (k : ℕ) (s : List ℕ) → length (hashes k s) ≡ k
unfolding hashes
length-hashes zero s = refl
length-hashes (suc k) s = ap suc (length-hashes k (drop 32 s))

-- each of them has 32 bytes
pub wide-hashes : (k : ℕ) (s : List ℕ) → 32 * k ≤ length s → Wide 32 (hashes k s)
unfolding hashes
wide-hashes zero s h i j = absurd (omega arith)
wide-hashes (suc k) s h zero j = length-take-le 32 s (omega arith)
wide-hashes (suc k) s h (suc i) j = wide-hashes k (drop 32 s) (omega (arith, length-drop 32 s)) i (omega arith)

-- hashes, and blanks up to the greatest length of a path
abbrev pub padded : ℕ → List ℕ → List (List ℕ)
padded k s = hashes k s ++ replicate (max_path - k) blank

module _ (s : List ℕ) (at count : ℕ) where
  module _ (few : count ≤ max_path) where
    pub path-there : at + 32 * count ≤ length s → path_at s at count ≡ padded count (drop at s)
    unfolding path_at
    path-there h = rw (le-ltb max_path count few, le-ltb (length s) (at + 32 * count) h)

-- a path's bytes taken apart in chunks are its hashes
hashes-chunks : (k : ℕ) (s : List ℕ) → first_chunks 32 k s ≡ hashes k s
unfolding hashes
hashes-chunks zero s = refl
hashes-chunks (suc k) s = ap (λ (l : List (List ℕ)). take 32 s ∷ l) (hashes-chunks k (drop 32 s))

-- and with the blanks behind them the path at that place
pub path-copied : (s : List ℕ) (at count : ℕ) (got : List (List ℕ)) → count ≤ max_path → at + 32 * count ≤ length s
    → (let part = take (at + 32 * count - at) (drop at s) in got ≡ first_chunks 32 (length part / 32) part)
    → got ++ drop count (replicate max_path blank) ≡ path_at s at count
path-copied s at count got few inside e =
    let k : at + 32 * count - at ≡ 32 * count = omega arith in
    let long : length (take (32 * count) (drop at s)) / 32 ≡ count =
    omega (arith, length-take-le (32 * count) (drop at s) (omega (arith, length-drop at s))) in
    ap₂ {C = List (List ℕ)} (λ a b. a ++ b)
    (e ∙ ap (λ (i : ℕ). let part = take i (drop at s) in first_chunks 32 (length part / 32) part) k
    ∙ ap (λ (i : ℕ). first_chunks 32 i (take (32 * count) (drop at s))) long
    ∙ hashes-chunks count (take (32 * count) (drop at s))
    ∙ hashes-take count (32 * count) (drop at s) (omega arith))
    (drop-replicate count max_path blank)
    ∙ sym (path-there s at count few inside)
