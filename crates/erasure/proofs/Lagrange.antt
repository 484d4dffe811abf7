-- Lagrange's polynomials worked out in arrays, a turn of each loop a law: coefficients are set one after the other, a row is multiplied whole, a
-- factor (X + r) looks at no coefficient past its own, and a product over the points skips a point or takes a factor more. Assumes nothing.
use mathlib.Core.Path.{◌≡◌, refl, sym, ap, ap₂, ◌∙◌}
use mathlib.Core.List.{List, map, foldl, foldl-append, [], ◌∷◌, ◌++◌}
use mathlib.Core.Logic.{◌≢◌}
use Prim.Native.Nat.{ℕ, zero, suc, ◌+◌, ◌-◌, ◌<◌, ◌≤◌}
use native.Mathlib.Numerals.{add-one}
use native.Mathlib.Omega.{arith}
use borrow.Author.Count.{below_more}
use lib.ListN.{length, get_or, set, take, drop, replicate, length-replicate, get_or-replicate, length-append, length-drop, length-map, get_or-append, get_or-map}
use lib.Seq.{get_or-set_same, get_or-set_other, get_or-take, take-suc-set, length-take-le}
use Rattle.gf256.specs.Field.{product}
use Rattle.gf256.proofs.Laws.{product-zero}
use Rattle.erasure.specs.Bytes.{bytes}
use Rattle.polynomial.specs.Polynomial.{Operations, factor, unit, numerator, denominator}
use Rattle.polynomial.proofs.Cond.{cond_same, cond-other}

-- where the first k entries are those of f, one more is set
pub set_next : (v : List ℕ) (f : ℕ → ℕ) (k y : ℕ) → k < length v
    → ((j : ℕ) → j < k → get_or v j 0 ≡ f j) → y ≡ f k → (j : ℕ) → j < k + 1 → get_or (set v k y) j 0 ≡ f j
set_next v f k y l h e =
    below_more (λ j. get_or (set v k y) j 0 ≡ f j) k
    (λ j b. get_or-set_other v k j y 0 (λ q. omega arith) ∙ h j b)
    (get_or-set_same v k y 0 l ∙ e)

-- an entry of a row that is multiplied by a
pub scaled_row : (a : ℕ) (w : List ℕ) (k : ℕ) → get_or (map (product a) w) k 0 ≡ product a (get_or w k 0)
scaled_row a w k = ap (get_or (map (product a) w) k) (sym (product-zero a)) ∙ get_or-map (product a) w k 0

-- an array whose first b entries are multiplied by a
module _ (a b : ℕ) (w x : List ℕ) (q : b ≤ length w) (e : x ≡ map (product a) (take b w)) where
  scaled-part : length x ≡ b
  scaled-part = rw e (length-map (take b w) (product a) ∙ length-take-le b w q)

  pub scaled-length : length (x ++ drop b w) ≡ length w
  scaled-length = simp (length-append, length-drop, scaled-part) (omega arith)

  pub scaled_at : (k : ℕ) → k < b → get_or (x ++ drop b w) k 0 ≡ product a (get_or w k 0)
  scaled_at k l =
      get_or-append x (drop b w) 0 k (rw scaled-part l) ∙ ap (λ (y : List ℕ). get_or y k 0) e
      ∙ scaled_row a (take b w) k ∙ ap (product a) (get_or-take b w k 0 l)

-- the product of the first c entries, and of one more that is set
pub product-more : (row : List ℕ) (c y : ℕ) → c < length row
    → foldl product 1 (take (c + 1) (set row c y)) ≡ product (foldl product 1 (take c row)) y
product-more row c y l = rw (add-one, take-suc-set row c y l) (foldl-append product 1 (take c row) (y ∷ []))

-- the polynomial 1 in an array
pub one_unit : (n k : ℕ) → k < n → get_or (set (replicate n 0) 0 1) k 0 ≡ unit bytes k
unfolding unit
one_unit n zero l = get_or-set_same (replicate n 0) 0 1 0 (rw length-replicate l)
one_unit n (suc k) l = get_or-set_other (replicate n 0) 0 (suc k) 1 0 (λ q. omega arith) ∙ get_or-replicate n (suc k) 0 0 l

module _ {A : Type 0} (F : Operations A) where
  -- the next coefficient, from the one before as it was, or nothing before the first
  pub factor_next : (r : A) (p : ℕ → A) (k : ℕ) (below : A) → ((a : A) → F.add F.nought a ≡ a)
      → (k ≡ 0 → below ≡ F.nought) → (1 ≤ k → below ≡ p (k - 1)) → F.add below (F.mul r (p k)) ≡ factor F r p k
  unfolding factor
  factor_next r p zero below unit first later = ap (λ x. F.add x (F.mul r (p zero))) (first refl) ∙ unit (F.mul r (p zero))
  factor_next r p (suc k) below unit first later = ap (λ x. F.add x (F.mul r (p (suc k)))) (later (omega arith) ∙ ap p (omega arith))

  pub factor-low : (r : A) (p : ℕ → A) (k : ℕ) → k < 1 → factor F r p k ≡ F.mul r (p k)
  unfolding factor
  factor-low r p zero l = refl
  factor-low r p (suc k) l = absurd (omega arith)

  -- coefficients that agree below n
  pub factor-below : (n : ℕ) (r : A) {p q : ℕ → A} → ((k : ℕ) → k < n → p k ≡ q k)
      → (k : ℕ) → k < n → factor F r p k ≡ factor F r q k
  unfolding factor
  factor-below n r e zero l = ap (F.mul r) (e zero l)
  factor-below n r e (suc k) l = ap₂ (λ (a b : A). F.add a (F.mul r b)) (e k (omega arith)) (e (suc k) l)

  module _ (m : ℕ) (x : ℕ → A) (i : ℕ) where
    pub numerator-skip : m ≡ i → (k : ℕ) → numerator F (m + 1) x i k ≡ numerator F m x i k
    unfolding numerator
    numerator-skip e k =
        ap (λ n. numerator F n x i k) (add-one m)
        ∙ ap (λ (p : ℕ → A). p k) (cond_same (numerator F m x i) (factor F (x m) (numerator F m x i)) e)

    pub numerator-more : m ≢ i → (k : ℕ) → numerator F (m + 1) x i k ≡ factor F (x m) (numerator F m x i) k
    unfolding numerator
    numerator-more e k =
        ap (λ n. numerator F n x i k) (add-one m)
        ∙ ap (λ (p : ℕ → A). p k) (cond-other (numerator F m x i) (factor F (x m) (numerator F m x i)) e)

    pub denominator-skip : m ≡ i → denominator F (m + 1) x i ≡ denominator F m x i
    unfolding denominator
    denominator-skip e =
        ap (λ n. denominator F n x i) (add-one m)
        ∙ cond_same (denominator F m x i) (F.mul (denominator F m x i) (F.add (x i) (x m))) e

    pub denominator-more : m ≢ i → denominator F (m + 1) x i ≡ F.mul (denominator F m x i) (F.add (x i) (x m))
    unfolding denominator
    denominator-more e =
        ap (λ n. denominator F n x i) (add-one m)
        ∙ cond-other (denominator F m x i) (F.mul (denominator F m x i) (F.add (x i) (x m))) e
