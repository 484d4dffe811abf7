-- Lagrange's polynomial has the value y j at each point x j, and no other polynomial of as many coefficients has: its numerator for
-- point i has the value of a product of differences, which is 0 at every other point and its denominator at point i. Assumes nothing.
use mathlib.Core.Bool.{cond}
use mathlib.Core.Path.{◌≡◌, refl, sym, ap, ap₂, ◌∙◌}
use mathlib.Core.Logic.{◌≢◌}
use Prim.Native.Nat.{ℕ, zero, suc, ◌≤◌, ◌<◌}
use native.Mathlib.Nat.{lt-suc_self, le_refl}
use native.Mathlib.Decide.{ℕ_discrete}
use native.Mathlib.Omega.{arith}
use lib.Dec.{eqb}
use Rattle.polynomial.specs.Polynomial.{Operations, Laws, Distinct, sum, pow, value, factor, unit, numerator, denominator, basis, through}
use Rattle.polynomial.proofs.Ring.{nought-add, mul-nought, nought-mul, add-eq, mul-cancel}
use Rattle.polynomial.proofs.Sum.{sum-cong, sum-only}
use Rattle.polynomial.proofs.Value.{factor-cong, value-mul, value-sum, value-nought, value-factor}
use Rattle.polynomial.proofs.Cond.{cond_same, cond-other, cond-at}
pub use Rattle.polynomial.proofs.Unique.{unique}

module _ {A : Type 0} (F : Operations A) where
  -- the product of (u + x m) over the points m below n other than i
  spread : ℕ → (ℕ → A) → ℕ → A → A
  spread zero x i u = F.one
  spread (suc m) x i u = cond (eqb m i) (spread m x i u) (F.mul (spread m x i u) (F.add u (x m)))

  spread_same : (m : ℕ) (x : ℕ → A) (i : ℕ) (u : A) → m ≡ i → spread (suc m) x i u ≡ spread m x i u
  unfolding spread
  spread_same m x i u e = cond_same (spread m x i u) (F.mul (spread m x i u) (F.add u (x m))) e

  spread-other : (m : ℕ) (x : ℕ → A) (i : ℕ) (u : A) → m ≢ i → spread (suc m) x i u ≡ F.mul (spread m x i u) (F.add u (x m))
  unfolding spread
  spread-other m x i u e = cond-other (spread m x i u) (F.mul (spread m x i u) (F.add u (x m))) e

  spread-own : (n : ℕ) (x : ℕ → A) (i : ℕ) → spread n x i (x i) ≡ denominator F n x i
  unfolding spread denominator
  spread-own zero x i = refl
  spread-own (suc m) x i = simp (spread-own m x i)

  numerator-same : (m : ℕ) (x : ℕ → A) (i : ℕ) → m ≡ i → numerator F (suc m) x i ≡ numerator F m x i
  unfolding numerator
  numerator-same m x i e = cond_same (numerator F m x i) (factor F (x m) (numerator F m x i)) e

  numerator-other : (m : ℕ) (x : ℕ → A) (i : ℕ) → m ≢ i → numerator F (suc m) x i ≡ factor F (x m) (numerator F m x i)
  unfolding numerator
  numerator-other m x i e = cond-other (numerator F m x i) (factor F (x m) (numerator F m x i)) e

module _ {A : Type 0} (F : Operations A) (L : Laws F) where
  -- a factor adds one coefficient at most
  factor-past : (n : ℕ) (r : A) (p : ℕ → A) → ((k : ℕ) → n ≤ k → p k ≡ F.nought) → (k : ℕ) → suc n ≤ k → factor F r p k ≡ F.nought
  unfolding factor
  factor-past n r p e zero h = absurd (omega arith)
  factor-past n r p e (suc k) h =
      ap₂ (λ (a b : A). F.add a (F.mul r b)) (e k (omega arith)) (e (suc k) (omega arith))
      ∙ ap (F.add F.nought) (mul-nought F L r) ∙ L.add-nought F.nought

  unit-past : (k : ℕ) → 1 ≤ k → unit F k ≡ F.nought
  unfolding unit
  unit-past zero h = absurd (omega arith)
  unit-past (suc k) h = refl

  -- the numerator has n + 1 coefficients
  numerator-past : (n : ℕ) (x : ℕ → A) (i k : ℕ) → suc n ≤ k → numerator F n x i k ≡ F.nought
  unfolding numerator
  numerator-past zero x i k h = unit-past k h
  numerator-past (suc m) x i k h = elim (ℕ_discrete m i) [
    | yes e ↦ ap (λ (p : ℕ → A). p k) (numerator-same F m x i e) ∙ numerator-past m x i k (omega arith)
    | no ne ↦
        ap (λ (p : ℕ → A). p k) (numerator-other F m x i ne) ∙ factor-past (suc m) (x m) (numerator F m x i) (numerator-past m x i) k h
  ]

  -- and n, where it leaves one of the n points out
  numerator-short : (n : ℕ) (x : ℕ → A) (i k : ℕ) → i < n → n ≤ k → numerator F n x i k ≡ F.nought
  numerator-short zero x i k l h = absurd (omega arith)
  numerator-short (suc m) x i k l h = elim (ℕ_discrete m i) [
    | yes e ↦ ap (λ (p : ℕ → A). p k) (numerator-same F m x i e) ∙ numerator-past m x i k h
    | no ne ↦
        ap (λ (p : ℕ → A). p k) (numerator-other F m x i ne)
        ∙ factor-past m (x m) (numerator F m x i) (λ j a. numerator-short m x i j (omega arith) a) k h
  ]

  numerator-spread : (n : ℕ) (x : ℕ → A) (i : ℕ) (u : A) → value F (suc n) (numerator F n x i) u ≡ spread F n x i u
  unfolding numerator spread value sum pow unit
  numerator-spread zero x i u = nought-add F L (F.mul F.one F.one) ∙ L.mul-one F.one
  numerator-spread (suc m) x i u = elim (ℕ_discrete m i) [
    | yes e ↦
        ap (λ (p : ℕ → A). value F (suc (suc m)) p u) (numerator-same F m x i e)
        ∙ value-nought F L (suc m) (numerator F m x i) u (numerator-past m x i (suc m) (le_refl (suc m)))
        ∙ numerator-spread m x i u ∙ sym (spread_same F m x i u e)
    | no ne ↦
        ap (λ (p : ℕ → A). value F (suc (suc m)) p u) (numerator-other F m x i ne)
        ∙ value-factor F L (suc m) (x m) (numerator F m x i) u (numerator-past m x i (suc m) (le_refl (suc m)))
        ∙ L.mul_comm (F.add u (x m)) (value F (suc m) (numerator F m x i) u)
        ∙ ap (λ (t : A). F.mul t (F.add u (x m))) (numerator-spread m x i u) ∙ sym (spread-other F m x i u ne)
  ]

  numerator-value : (n : ℕ) (x : ℕ → A) (i : ℕ) (u : A) → i < n → value F n (numerator F n x i) u ≡ spread F n x i u
  numerator-value n x i u h =
      sym (value-nought F L n (numerator F n x i) u (numerator-short n x i n h (le_refl n))) ∙ numerator-spread n x i u

  -- the product is 0 at every other point
  spread-root : (n : ℕ) (x : ℕ → A) (i j : ℕ) → j < n → i ≢ j → spread F n x i (x j) ≡ F.nought
  spread-root zero x i j h d = absurd (omega arith)
  spread-root (suc m) x i j h d = elim (ℕ_discrete m i) [
    | yes e ↦ spread_same F m x i (x j) e ∙ spread-root m x i j (omega arith) d
    | no ne ↦ spread-other F m x i (x j) ne ∙ elim (ℕ_discrete m j) [
      | yes q ↦
          ap (λ (k : ℕ). F.mul (spread F m x i (x j)) (F.add (x j) (x k))) q
          ∙ ap (F.mul (spread F m x i (x j))) (L.add-self (x j)) ∙ mul-nought F L (spread F m x i (x j))
      | no nq ↦
          ap (λ (t : A). F.mul t (F.add (x j) (x m))) (spread-root m x i j (omega arith) d)
          ∙ nought-mul F L (F.add (x j) (x m))
    ]
  ]

  -- and not at u, where u is no other point
  spread-not : (n : ℕ) (x : ℕ → A) (i : ℕ) (u : A) → ((m : ℕ) → m < n → m ≢ i → u ≢ x m) → spread F n x i u ≢ F.nought
  unfolding spread
  spread-not zero x i u d e = L.one-not e
  spread-not (suc m) x i u d e = elim (ℕ_discrete m i) [
    | yes q ↦ spread-not m x i u (λ j h. d j (omega arith)) (sym (spread_same F m x i u q) ∙ e)
    | no ne ↦
        spread-not m x i u (λ j h. d j (omega arith))
        (mul-cancel F L (F.add u (x m)) (spread F m x i u) (λ (z : F.add u (x m) ≡ F.nought). d m (lt-suc_self m) ne (add-eq F L u (x m) z))
        (L.mul_comm (F.add u (x m)) (spread F m x i u) ∙ sym (spread-other F m x i u ne) ∙ e))
  ]

  -- the denominator is not 0
  pub denominator-not : (n : ℕ) (x : ℕ → A) (i : ℕ) → Distinct n x → i < n → denominator F n x i ≢ F.nought
  denominator-not n x i d h e =
      spread-not n x i (x i) (λ m l ne z. ne (sym (d i m h l z))) (spread-own F n x i ∙ e)

  basis-value : (n : ℕ) (x : ℕ → A) (i : ℕ) (u : A) → i < n → value F n (basis F n x i) u ≡ F.mul (spread F n x i u) (F.inv (denominator F n x i))
  unfolding basis
  basis-value n x i u h =
      value-mul F L n (numerator F n x i) (F.inv (denominator F n x i)) u
      ∙ ap (λ (t : A). F.mul t (F.inv (denominator F n x i))) (numerator-value n x i u h)

  -- 1 at its own point
  pub basis-own : (n : ℕ) (x : ℕ → A) (i : ℕ) → Distinct n x → i < n → value F n (basis F n x i) (x i) ≡ F.one
  basis-own n x i d h =
      basis-value n x i (x i) h ∙ ap (λ (t : A). F.mul t (F.inv (denominator F n x i))) (spread-own F n x i)
      ∙ L.mul-inv (denominator F n x i) (denominator-not n x i d h)

  -- and 0 at the others
  pub basis-other : (n : ℕ) (x : ℕ → A) (i j : ℕ) → i < n → j < n → i ≢ j → value F n (basis F n x i) (x j) ≡ F.nought
  basis-other n x i j h l d =
      basis-value n x i (x j) h ∙ ap (λ (t : A). F.mul t (F.inv (denominator F n x i))) (spread-root n x i j l d)
      ∙ nought-mul F L (F.inv (denominator F n x i))

  pub through-value : (n : ℕ) (x y : ℕ → A) → Distinct n x → (j : ℕ) → j < n → value F n (through F n x y) (x j) ≡ y j
  unfolding through
  through-value n x y d j h =
      value-sum F L n n (λ i k. F.mul (basis F n x i k) (y i)) (x j)
      ∙ sum-cong F n (λ i l. value-mul F L n (basis F n x i) (y i) (x j))
      ∙ sum-only F L n j (λ i. F.mul (value F n (basis F n x i) (x j)) (y i)) h
      (λ i l ne. ap (λ (t : A). F.mul t (y i)) (basis-other n x i j l h ne) ∙ nought-mul F L (y i))
      ∙ ap (λ (t : A). F.mul t (y j)) (basis-own n x j d h) ∙ L.mul_comm F.one (y j) ∙ L.mul-one (y j)

-- ---- equal points and values give equal polynomials

module _ {A : Type 0} (F : Operations A) where
  pub numerator-cong : (n : ℕ) {x y : ℕ → A} → ((i : ℕ) → i < n → x i ≡ y i) → (i k : ℕ) → numerator F n x i k ≡ numerator F n y i k
  unfolding numerator
  numerator-cong zero e i k = refl
  numerator-cong (suc m) {x} {y} e i k =
      let h : (l : ℕ) → numerator F m x i l ≡ numerator F m y i l = numerator-cong m (λ j l. e j (omega arith)) i in
      cond-at (eqb m i) (numerator F m x i) (factor F (x m) (numerator F m x i)) k
      ∙ ap₂ {C = A} (λ a b. cond (eqb m i) a b) (h k) (factor-cong F (x m) h k ∙ ap (λ (r : A). factor F r (numerator F m y i) k) (e m (lt-suc_self m)))
      ∙ sym (cond-at (eqb m i) (numerator F m y i) (factor F (y m) (numerator F m y i)) k)

  -- x i is taken besides, so that i need not be below n
  denominator-from : (n : ℕ) {x y : ℕ → A} (i : ℕ) → x i ≡ y i → ((j : ℕ) → j < n → x j ≡ y j) → denominator F n x i ≡ denominator F n y i
  unfolding denominator
  denominator-from zero i q e = refl
  denominator-from (suc m) {x} {y} i q e =
      let h : denominator F m x i ≡ denominator F m y i = denominator-from m i q (λ j l. e j (omega arith)) in
      simp (h, q, e m (lt-suc_self m))

  pub denominator-cong : (n : ℕ) {x y : ℕ → A} → ((i : ℕ) → i < n → x i ≡ y i) → (i : ℕ) → i < n → denominator F n x i ≡ denominator F n y i
  denominator-cong n e i h = denominator-from n i (e i h) e

  pub basis-cong : (n : ℕ) {x y : ℕ → A} → ((i : ℕ) → i < n → x i ≡ y i) → (i k : ℕ) → i < n → basis F n x i k ≡ basis F n y i k
  unfolding basis
  basis-cong n e i k h = ap₂ (λ (a b : A). F.mul a (F.inv b)) (numerator-cong n e i k) (denominator-cong n e i h)

  pub through-cong : (n : ℕ) {x x' y y' : ℕ → A} → ((i : ℕ) → i < n → x i ≡ x' i) → ((i : ℕ) → i < n → y i ≡ y' i) → (k : ℕ)
      → through F n x y k ≡ through F n x' y' k
  unfolding through
  through-cong n ex ey k = sum-cong F n (λ i h. ap₂ F.mul (basis-cong n ex i k h) (ey i h))
