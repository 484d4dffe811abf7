-- The leaf hashes of shares that lie one behind the other, written one after the other over blanks: after j of them, the first j
-- are there and blanks follow. Assumes nothing.
use mathlib.Core.Path.{◌≡◌, refl, sym, ap, ◌∙◌}
use mathlib.Core.List.{List, [], ◌∷◌, ◌++◌, map}
use Prim.Native.Nat.{ℕ, suc, ◌+◌, ◌-◌, ◌*◌, ◌/◌, ◌≤◌, ◌<◌}
use native.Mathlib.Numerals.{add-one}
use native.Mathlib.Omega.{arith}
use lib.ListN.{length, take, drop, set, replicate, length-drop}
use lib.Seq.{set_at, append_snoc, length-take-le}
use Rattle.std.proofs.Math.Nat.{mul-le-mul_right}
use Rattle.buffer.specs.Splice.{tabulate}
use Rattle.buffer.proofs.Tabulate.{length-tabulate, map-tabulate}
use Rattle.sha256.specs.Sha256.{sha256}
use Rattle.merkle.specs.Shares.{leaf_string, leaf_strings, blank}

-- share i (from 0) of shares of s bytes
abbrev pub share_at : ℕ → List ℕ → ℕ → List ℕ
share_at s shares i = take s (drop (i * s) shares)

-- each of n shares of s bytes lies within them
module _ (n j s : ℕ) (shares : List ℕ) (h : j < n) (whole : n * s ≡ length shares) where
  pub share-end : (j + 1) * s ≤ length shares
  share-end =
      let next : j + 1 ≤ n = omega arith in
      omega (arith, mul-le-mul_right s next, whole)

  pub share-cut : take ((j + 1) * s - j * s) (drop (j * s) shares) ≡ share_at s shares j
  share-cut =
      let long : (j + 1) * s - j * s ≡ s = omega arith in
      ap (λ (k : ℕ). take k (drop (j * s) shares)) long

  pub length-share : length (take ((j + 1) * s - j * s) (drop (j * s) shares)) ≡ s
  length-share =
      ap length share-cut ∙ length-take-le s (drop (j * s) shares) (omega (arith, length-drop (j * s) shares, share-end))

-- the hashes of the first j leaf strings
unfoldable pub leaf_hashes : ℕ → ℕ → List ℕ → ℕ → List (List ℕ)
leaf_hashes session s shares j = tabulate j (λ i. sha256 (leaf_string session (i + 1) (share_at s shares i)))

module _ (session s : ℕ) (shares : List ℕ) where
  pub hashes-none : leaf_hashes session s shares 0 ≡ []
  unfolding leaf_hashes tabulate
  hashes-none = refl

  pub hashes-all : (n : ℕ) → s ≡ length shares / n → leaf_hashes session s shares n ≡ map sha256 (leaf_strings session n shares)
  unfolding leaf_hashes leaf_strings
  hashes-all n e =
      ap (λ (k : ℕ). tabulate n (λ i. sha256 (leaf_string session (i + 1) (share_at k shares i)))) e
      ∙ sym (map-tabulate sha256 n (λ i. leaf_string session (i + 1) (share_at (length shares / n) shares i)))

  pub hashes-more : (n j : ℕ) (h : List ℕ) → j < n → h ≡ sha256 (leaf_string session (j + 1) (share_at s shares j))
      → set (leaf_hashes session s shares j ++ replicate (n - j) blank) j h
      ≡ leaf_hashes session s shares (j + 1) ++ replicate (n - (j + 1)) blank
  unfolding leaf_hashes tabulate
  hashes-more n j h l e =
      let f : ℕ → List ℕ = λ i. sha256 (leaf_string session (i + 1) (share_at s shares i)) in
      let m : ℕ = n - (j + 1) in
      let more : n - j ≡ suc m = omega arith in
      ap (λ (k : ℕ). set (tabulate j f ++ replicate k blank) j h) more
      ∙ set_at (tabulate j f) blank (replicate m blank) h j (length-tabulate j f)
      ∙ sym (append_snoc (tabulate j f) h (replicate m blank))
      ∙ ap (λ (x : List ℕ). (tabulate j f ++ (x ∷ [])) ++ replicate m blank) e
      ∙ ap (λ (k : ℕ). tabulate k f ++ replicate m blank) (sym (add-one j))
