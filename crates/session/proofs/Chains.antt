-- The numbers 1 to n, as `1..=n` gives them. Assumes nothing.
use mathlib.Core.Path.{◌≡◌, refl, sym, ap, ap₂, subst, ◌∙◌}
use mathlib.Core.Bool.{Bool, true, false}
use mathlib.Core.List.{List, [], ◌∷◌}
use Prim.Native.Nat.{ℕ, zero, suc, ◌+◌, ◌-◌}
use native.Mathlib.Omega.{arith}
use lib.ListN.{length}
use Rattle.std.specs.List.{range_with_len}
use Rattle.std.specs.Iterator.{AlwaysYields}
use Rattle.std.specs.declared.ops.RangeInclusive.{RangeInclusive}
use Rattle.std.specs.Range.{range_inclusive_len, range_inclusive_start, range_inclusive_end, range_inclusive_exhausted}
use Rattle.std.proofs.iter.Yields.{listed}
use Rattle.std.proofs.iter.runs.Sources.{nat_range_inclusive_steps}
use Rattle.std.proofs.lemmas.Iterator.{YieldsList}

abbrev span : ℕ → ℕ → Bool → ℕ
span a b e = range_inclusive_len (λ x y. y - x) a b e

abbrev left : RangeInclusive ℕ → ℕ
left s = span (range_inclusive_start s) (range_inclusive_end s) (range_inclusive_exhausted s)

alive : (a b : ℕ) (e : Bool) → (span a b e ≡ 0 → ⊥) → e ≡ false
alive a b true ne = absurd (ne refl)
alive a b false ne = refl

moves : (a n b m x : ℕ) → n ≡ suc m → x ≡ a → ((m ≡ 0 → ⊥) → b ≡ a + 1) → range_with_len a n ≡ x ∷ range_with_len b m
moves a n b zero x e f g = ap (range_with_len a) e ∙ ap {B = List ℕ} (λ w. w ∷ []) (sym f)
moves a n b (suc m) x e f g =
    ap (range_with_len a) e ∙ ap {B = List ℕ} (λ w. w ∷ range_with_len (a + 1) (suc m)) (sym f)
    ∙ ap {B = List ℕ} (λ w. x ∷ range_with_len w (suc m)) (sym (g (λ z. omega arith)))

gives : (s : RangeInclusive ℕ) → AlwaysYields nat_range_inclusive_steps (λ x. x) s (range_with_len (range_inclusive_start s) (left s))
gives = listed nat_range_inclusive_steps (λ x. x) (λ s. range_with_len (range_inclusive_start s) (left s))
    (λ s t p. ap (λ n. length (range_with_len (range_inclusive_start s) n)) p.1.0)
    (λ s x t p. moves (range_inclusive_start s) (left s) (range_inclusive_start t) (left t) x (omega (arith, p.1.1)) p.1.0
    (λ ne. p.1.2 (alive (range_inclusive_start t) (range_inclusive_end t) (range_inclusive_exhausted t) ne)))

pub up_to_n : (s : RangeInclusive ℕ) (n : ℕ) → range_inclusive_start s ≡ 1 → range_inclusive_end s ≡ n → range_inclusive_exhausted s ≡ false
    → YieldsList nat_range_inclusive_steps (λ x. x) s (range_with_len 1 n)
up_to_n s n a b e =
    let l : left s ≡ n = ap (span (range_inclusive_start s) (range_inclusive_end s)) e ∙ omega arith in
    record { runs = subst (λ ys. AlwaysYields nat_range_inclusive_steps (λ x. x) s ys) (ap₂ range_with_len a l) (gives s) }
