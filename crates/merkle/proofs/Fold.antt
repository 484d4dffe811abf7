-- A path with one more hash at its end is folded by one more step at the top. By induction on the path. Assumes nothing.
use mathlib.Core.Path.{◌≡◌, refl, ap}
use mathlib.Core.List.{List, [], ◌∷◌, ◌++◌}
use Prim.Native.Nat.{ℕ}
use native.Mathlib.Omega.{arith}
use lib.ListN.{length, length-append}
use Rattle.merkle.specs.Tree.{Side, beside, folded}
use Rattle.merkle.specs.Strings.{fold_strings, check_strings}

module _ (H : List ℕ → List ℕ) where
  pub folded-append : (a : List Side) (p : List (List ℕ)) (d : Side) (q h : List ℕ) → length a ≡ length p
      → folded H (a ++ (d ∷ [])) (p ++ (q ∷ [])) h ≡ H (beside d (folded H a p h) q)
  unfolding folded
  folded-append [] [] d q h e = refl
  folded-append [] (x ∷ p) d q h e = absurd (omega arith)
  folded-append (c ∷ a) [] d q h e = absurd (omega arith)
  folded-append (c ∷ a) (x ∷ p) d q h e = folded-append a p d q (H (beside c h x)) (omega arith)

  -- the same, by the last side and the last hash of a list
  pub folded-step : (es a : List Side) (r p : List (List ℕ)) (d : Side) (q h : List ℕ) → es ≡ a ++ (d ∷ []) → r ≡ p ++ (q ∷ [])
      → length r ≡ length es → folded H es r h ≡ H (beside d (folded H a p h) q)
  folded-step es a r p d q h e f k =
      let long : length a ≡ length p =
      omega (arith, ap length e, ap length f, length-append a (d ∷ []), length-append p (q ∷ [])) in
      rw (e, f) (folded-append a p d q h long)

  pub fold_strings-append : (a : List Side) (p : List (List ℕ)) (d : Side) (q h : List ℕ) → length a ≡ length p
      → fold_strings H (a ++ (d ∷ [])) (p ++ (q ∷ [])) h ≡ fold_strings H a p h ++ (beside d (folded H a p h) q ∷ [])
  unfolding folded fold_strings
  fold_strings-append [] [] d q h e = refl
  fold_strings-append [] (x ∷ p) d q h e = absurd (omega arith)
  fold_strings-append (c ∷ a) [] d q h e = absurd (omega arith)
  fold_strings-append (c ∷ a) (x ∷ p) d q h e =
      ap (λ (l : List (List ℕ)). beside c h x ∷ l) (fold_strings-append a p d q (H (beside c h x)) (omega arith))

  pub check_strings-append : (a : List Side) (p : List (List ℕ)) (d : Side) (q s : List ℕ) → length a ≡ length p
      → check_strings H (a ++ (d ∷ [])) (p ++ (q ∷ [])) s ≡ check_strings H a p s ++ (beside d (folded H a p (H s)) q ∷ [])
  unfolding check_strings
  check_strings-append a p d q s e = ap (λ (l : List (List ℕ)). s ∷ l) (fold_strings-append a p d q (H s) e)
