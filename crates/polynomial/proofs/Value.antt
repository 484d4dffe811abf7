-- The value of a polynomial: it is a sum, so the laws of sums give its linearity and Horner's rule; and a factor (X + r) multiplies it
-- by x + r, by induction on the number of coefficients with the term past the last one kept. Assumes nothing.
use mathlib.Core.Path.{◌≡◌, sym, ap, ap₂, ◌∙◌}
use Prim.Native.Nat.{ℕ, zero, suc, ◌<◌}
use Rattle.polynomial.specs.Polynomial.{Operations, Laws, sum, pow, value, factor}
use Rattle.polynomial.proofs.Ring.{nought-add, add_left_comm, mul_left_comm, mul-nought, nought-mul, add-mul}
use Rattle.polynomial.proofs.Sum.{sum-cong, sum-add, sum-mul, sum-swap, sum_first}

module _ {A : Type 0} (F : Operations A) where
  pub value-cong : (n : ℕ) {p q : ℕ → A} (x : A) → ((k : ℕ) → k < n → p k ≡ q k) → value F n p x ≡ value F n q x
  unfolding value
  value-cong n x e = sum-cong F n (λ k h. ap (λ (a : A). F.mul a (pow F x k)) (e k h))

  pub factor-cong : (r : A) {p q : ℕ → A} → ((k : ℕ) → p k ≡ q k) → (k : ℕ) → factor F r p k ≡ factor F r q k
  unfolding factor
  factor-cong r e zero = ap (F.mul r) (e zero)
  factor-cong r e (suc k) = ap₂ (λ (a b : A). F.add a (F.mul r b)) (e k) (e (suc k))

module _ {A : Type 0} (F : Operations A) (L : Laws F) where
  pub value-add : (n : ℕ) (p q : ℕ → A) (x : A) → value F n (λ k. F.add (p k) (q k)) x ≡ F.add (value F n p x) (value F n q x)
  unfolding value
  value-add n p q x =
      sum-cong F n (λ k h. add-mul F L (p k) (q k) (pow F x k))
      ∙ sum-add F L n (λ k. F.mul (p k) (pow F x k)) (λ k. F.mul (q k) (pow F x k))

  pub value-mul : (n : ℕ) (p : ℕ → A) (a x : A) → value F n (λ k. F.mul (p k) a) x ≡ F.mul (value F n p x) a
  unfolding value
  value-mul n p a x =
      sum-cong F n (λ k h. turn (p k) (pow F x k))
      ∙ sum-mul F L n a (λ k. F.mul (p k) (pow F x k)) ∙ L.mul_comm a (sum F n (λ k. F.mul (p k) (pow F x k)))
    where
      turn : (c u : A) → F.mul (F.mul c a) u ≡ F.mul a (F.mul c u)
      turn c u = ap (λ (t : A). F.mul t u) (L.mul_comm c a) ∙ L.mul_assoc a c u

  -- the value of a sum of m polynomials
  pub value-sum : (m n : ℕ) (p : ℕ → ℕ → A) (x : A) → value F n (λ k. sum F m (λ i. p i k)) x ≡ sum F m (λ i. value F n (p i) x)
  unfolding value
  value-sum m n p x =
      sum-cong F n (λ k h. L.mul_comm (sum F m (λ i. p i k)) (pow F x k) ∙ sym (sum-mul F L m (pow F x k) (λ i. p i k))
      ∙ sum-cong F m (λ i l. L.mul_comm (pow F x k) (p i k)))
      ∙ sum-swap F L n m (λ k i. F.mul (p i k) (pow F x k))

  pub value-horner : (n : ℕ) (c : ℕ → A) (x : A) → value F (suc n) c x ≡ F.add (c 0) (F.mul x (value F n (λ k. c (suc k)) x))
  unfolding value pow
  value-horner n c x =
      sum_first F L n (λ k. F.mul (c k) (pow F x k))
      ∙ ap₂ F.add (L.mul-one (c 0))
      (sum-cong F n (λ k h. mul_left_comm F L (c (suc k)) x (pow F x k)) ∙ sum-mul F L n x (λ k. F.mul (c (suc k)) (pow F x k)))

  -- one coefficient more, which is nought, changes nothing
  pub value-nought : (n : ℕ) (p : ℕ → A) (x : A) → p n ≡ F.nought → value F (suc n) p x ≡ value F n p x
  unfolding value sum
  value-nought n p x e =
      ap (λ (t : A). F.add (value F n p x) (F.mul t (pow F x n))) e
      ∙ ap (F.add (value F n p x)) (nought-mul F L (pow F x n)) ∙ L.add-nought (value F n p x)

  first : (x r c : A) → F.add F.nought (F.mul (F.mul r c) F.one)
      ≡ F.add (F.mul (F.add x r) F.nought) (F.mul r (F.mul c F.one))
  first x r c = simp (mul-nought F L, nought-add F L, L.mul-one)

  next : (x r v c d u : A)
      → F.add (F.add (F.mul (F.add x r) v) (F.mul r (F.mul c u))) (F.mul (F.add c (F.mul r d)) (F.mul x u))
      ≡ F.add (F.mul (F.add x r) (F.add v (F.mul c u))) (F.mul r (F.mul d (F.mul x u)))
  next x r v c d u =
      simp (L.mul-add, add-mul F L, L.add_assoc, add_left_comm F L, L.mul_assoc, mul_left_comm F L)

  -- with the term that coefficient n adds
  factor-rest : (n : ℕ) (r : A) (p : ℕ → A) (x : A)
      → value F (suc n) (factor F r p) x ≡ F.add (F.mul (F.add x r) (value F n p x)) (F.mul r (F.mul (p n) (pow F x n)))
  unfolding value sum pow factor
  factor-rest zero r p x = first x r (p zero)
  factor-rest (suc n) r p x =
      ap (λ (t : A). F.add t (F.mul (F.add (p n) (F.mul r (p (suc n)))) (F.mul x (pow F x n)))) (factor-rest n r p x)
      ∙ next x r (value F n p x) (p n) (p (suc n)) (pow F x n)

  pub value-factor : (n : ℕ) (r : A) (p : ℕ → A) (x : A) → p n ≡ F.nought
      → value F (suc n) (factor F r p) x ≡ F.mul (F.add x r) (value F n p x)
  value-factor n r p x e =
      factor-rest n r p x
      ∙ ap (F.add (F.mul (F.add x r) (value F n p x)))
      (ap (λ (t : A). F.mul r (F.mul t (pow F x n))) e ∙ ap (F.mul r) (nought-mul F L (pow F x n)) ∙ mul-nought F L r)
      ∙ L.add-nought (F.mul (F.add x r) (value F n p x))
