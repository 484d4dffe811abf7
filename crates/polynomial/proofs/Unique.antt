-- A polynomial of n coefficients is known from its values at n distinct points: division by (X + r), r a point where it is 0, leaves
-- a polynomial of one coefficient less that is 0 at the other points. By induction on n. Assumes nothing.
use mathlib.Core.Path.{◌≡◌, refl, sym, ap, ap₂, ◌∙◌}
use mathlib.Core.Logic.{◌≢◌}
use Prim.Native.Nat.{ℕ, zero, suc, ◌<◌}
use native.Mathlib.Nat.{lt-suc_self, zero-lt-suc}
use native.Mathlib.Omega.{arith}
use Rattle.polynomial.specs.Polynomial.{Operations, Laws, Distinct, sum, value}
use Rattle.polynomial.proofs.Ring.{add-cancel, add_left_comm, mul_left_comm, mul-nought, add-mul, add-eq, mul-cancel}
use Rattle.polynomial.proofs.Value.{value-add, value-horner}

-- the quotient by (X + r) of the polynomial whose coefficients past the first are the n of s
module _ {A : Type 0} (F : Operations A) where
  quotient : ℕ → A → (ℕ → A) → ℕ → A
  quotient zero r s k = F.nought
  quotient (suc n) r s zero = value F (suc n) s r
  quotient (suc n) r s (suc k) = quotient n r (λ m. s (suc m)) k

module _ {A : Type 0} (F : Operations A) (L : Laws F) where
  ring : (x r d u v : A) → F.add (F.mul x (F.add d (F.mul x u))) (F.mul r (F.add d (F.mul r v)))
      ≡ F.add (F.mul (F.add x r) (F.add d (F.mul r v))) (F.mul x (F.add (F.mul x u) (F.mul r v)))
  ring x r d u v =
      simp (L.mul-add, add-mul F L, L.add_assoc, L.add_comm, add_left_comm F L, add-cancel F L)

  step : (x r d u v q : A) → F.add (F.mul x u) (F.mul r v) ≡ F.mul (F.add x r) q
      → F.add (F.mul x (F.add d (F.mul x u))) (F.mul r (F.add d (F.mul r v)))
      ≡ F.mul (F.add x r) (F.add (F.add d (F.mul r v)) (F.mul x q))
  step x r d u v q e =
      ring x r d u v
      ∙ sym (L.mul-add (F.add x r) (F.add d (F.mul r v)) (F.mul x q)
      ∙ ap (F.add (F.mul (F.add x r) (F.add d (F.mul r v)))) (mul_left_comm F L (F.add x r) x q ∙ ap (F.mul x) (sym e)))

  -- x s(x) + r s(r) = (x + r) quotient(x)
  divides : (n : ℕ) (r x : A) (s : ℕ → A)
      → F.add (F.mul x (value F n s x)) (F.mul r (value F n s r)) ≡ F.mul (F.add x r) (value F n (quotient F n r s) x)
  unfolding quotient value sum
  divides zero r x s = simp (mul-nought F L, L.add-self)
  divides (suc n) r x s =
      ap₂ (λ (a b : A). F.add (F.mul x a) (F.mul r b)) (value-horner F L n s x) (value-horner F L n s r)
      ∙ step x r (s 0) (value F n (λ k. s (suc k)) x) (value F n (λ k. s (suc k)) r) (value F n (quotient F n r (λ k. s (suc k))) x) (divides n r x (λ k. s (suc k)))
      ∙ sym (ap (F.mul (F.add x r)) (value-horner F L n (quotient F (suc n) r s) x
      ∙ ap (λ (t : A). F.add t (F.mul x (value F n (quotient F n r (λ k. s (suc k))) x))) (value-horner F L n s r)))

  drop-first : (c u v : A) → F.add (F.add c u) (F.add c v) ≡ F.add u v
  drop-first c u v = simp (L.add_assoc, add_left_comm F L, add-cancel F L)

  -- p(x) + p(r) = (x + r) quotient(x)
  remainder : (n : ℕ) (r x : A) (p : ℕ → A)
      → F.add (value F (suc n) p x) (value F (suc n) p r) ≡ F.mul (F.add x r) (value F n (quotient F n r (λ k. p (suc k))) x)
  remainder n r x p =
      ap₂ F.add (value-horner F L n p x) (value-horner F L n p r)
      ∙ drop-first (p 0) (F.mul x (value F n (λ k. p (suc k)) x)) (F.mul r (value F n (λ k. p (suc k)) r))
      ∙ divides n r x (λ k. p (suc k))

  -- the first coefficient, where the rest has the value 0 at r
  alone : (n : ℕ) (r : A) (p : ℕ → A) → value F (suc n) p r ≡ F.nought → value F n (λ k. p (suc k)) r ≡ F.nought → p 0 ≡ F.nought
  alone n r p e z =
      sym (L.add-nought (p 0)) ∙ ap (F.add (p 0)) (sym (mul-nought F L r)) ∙ ap (λ (t : A). F.add (p 0) (F.mul r t)) (sym z)
      ∙ sym (value-horner F L n p r) ∙ e

  -- where the quotient is 0 and r is a root, the polynomial is 0
  back : (n : ℕ) (r : A) (p : ℕ → A) → value F (suc n) p r ≡ F.nought
      → ((k : ℕ) → k < n → quotient F n r (λ m. p (suc m)) k ≡ F.nought) → (k : ℕ) → k < suc n → p k ≡ F.nought
  unfolding quotient value sum
  back zero r p e q zero h = alone zero r p e refl
  back zero r p e q (suc k) h = absurd (omega arith)
  back (suc n) r p e q zero h = alone (suc n) r p e (q 0 (zero-lt-suc n))
  back (suc n) r p e q (suc k) h = back n r (λ m. p (suc m)) (q 0 (zero-lt-suc n)) (λ m l. q (suc m) (omega arith)) k (omega arith)

  -- n coefficients and n distinct roots: all coefficients are 0
  pub roots : (n : ℕ) (x : ℕ → A) (p : ℕ → A) → Distinct n x → ((j : ℕ) → j < n → value F n p (x j) ≡ F.nought)
      → (k : ℕ) → k < n → p k ≡ F.nought
  roots zero x p d z k h = absurd (omega arith)
  roots (suc n) x p d z k h =
      back n (x n) p (z n (lt-suc_self n))
      (roots n x (quotient F n (x n) (λ m. p (suc m))) (λ i j a b. d i j (omega arith) (omega arith)) (λ j l.
      mul-cancel F L (F.add (x j) (x n)) (value F n (quotient F n (x n) (λ m. p (suc m))) (x j))
      (apart j l)
      (sym (remainder n (x n) (x j) p) ∙ ap₂ F.add (z j (omega arith)) (z n (lt-suc_self n)) ∙ L.add-nought F.nought)))
      k h
    where
      apart : (j : ℕ) → j < n → F.add (x j) (x n) ≢ F.nought
      apart j l q = let e : j ≡ n = d j n (omega arith) (lt-suc_self n) (add-eq F L (x j) (x n) q) in absurd (omega arith)

  -- equal values at n distinct points: equal coefficients
  pub unique : (n : ℕ) (x : ℕ → A) (p q : ℕ → A) → Distinct n x → ((j : ℕ) → j < n → value F n p (x j) ≡ value F n q (x j))
      → (k : ℕ) → k < n → p k ≡ q k
  unique n x p q d e k h =
      add-eq F L (p k) (q k)
      (roots n x (λ k. F.add (p k) (q k)) d
      (λ j l. value-add F L n p q (x j) ∙ ap (λ (t : A). F.add t (value F n q (x j))) (e j l) ∙ L.add-self (value F n q (x j)))
      k h)
