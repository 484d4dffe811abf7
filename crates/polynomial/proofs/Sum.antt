-- Sums of n terms: equal terms give equal sums, and sums may be split, scaled, exchanged and begun at the other end. By induction on
-- the number of terms. Assumes nothing.
use mathlib.Core.Path.{◌≡◌, refl, sym, ap, ap₂, ◌∙◌}
use mathlib.Core.Logic.{◌≢◌}
use Prim.Native.Nat.{ℕ, zero, suc, ◌<◌}
use native.Mathlib.Nat.{lt-suc_self}
use native.Mathlib.Decide.{ℕ_discrete}
use native.Mathlib.Omega.{arith}
use Rattle.polynomial.specs.Polynomial.{Operations, Laws, sum}
use Rattle.polynomial.proofs.Ring.{nought-add, add_left_comm, mul-nought}

module _ {A : Type 0} (F : Operations A) where
  pub sum-cong : (n : ℕ) {f g : ℕ → A} → ((k : ℕ) → k < n → f k ≡ g k) → sum F n f ≡ sum F n g
  unfolding sum
  sum-cong zero e = refl
  sum-cong (suc n) e = ap₂ F.add (sum-cong n (λ k h. e k (omega arith))) (e n (lt-suc_self n))

module _ {A : Type 0} (F : Operations A) (L : Laws F) where
  -- a sum of noughts is nought
  pub sum-nought : (n : ℕ) {f : ℕ → A} → ((k : ℕ) → k < n → f k ≡ F.nought) → sum F n f ≡ F.nought
  unfolding sum
  sum-nought zero e = refl
  sum-nought (suc n) e = ap₂ F.add (sum-nought n (λ k h. e k (omega arith))) (e n (lt-suc_self n)) ∙ L.add-nought F.nought

  cross : (a b c d : A) → F.add (F.add a b) (F.add c d) ≡ F.add (F.add a c) (F.add b d)
  cross a b c d = simp (L.add_assoc, add_left_comm F L)

  pub sum-add : (n : ℕ) (f g : ℕ → A) → sum F n (λ k. F.add (f k) (g k)) ≡ F.add (sum F n f) (sum F n g)
  unfolding sum
  sum-add zero f g = sym (L.add-nought F.nought)
  sum-add (suc n) f g =
      ap (λ (t : A). F.add t (F.add (f n) (g n))) (sum-add n f g) ∙ cross (sum F n f) (sum F n g) (f n) (g n)

  pub sum-mul : (n : ℕ) (a : A) (f : ℕ → A) → sum F n (λ k. F.mul a (f k)) ≡ F.mul a (sum F n f)
  unfolding sum
  sum-mul zero a f = sym (mul-nought F L a)
  sum-mul (suc n) a f = ap (λ (t : A). F.add t (F.mul a (f n))) (sum-mul n a f) ∙ sym (L.mul-add a (sum F n f) (f n))

  -- two sums may be exchanged
  pub sum-swap : (m n : ℕ) (f : ℕ → ℕ → A) → sum F m (λ i. sum F n (λ k. f i k)) ≡ sum F n (λ k. sum F m (λ i. f i k))
  unfolding sum
  sum-swap zero n f = sym (sum-nought n (λ k h. refl))
  sum-swap (suc m) n f =
      ap (λ (t : A). F.add t (sum F n (f m))) (sum-swap m n f) ∙ sym (sum-add n (λ k. sum F m (λ i. f i k)) (f m))

  -- the first term apart
  pub sum_first : (n : ℕ) (f : ℕ → A) → sum F (suc n) f ≡ F.add (f 0) (sum F n (λ k. f (suc k)))
  unfolding sum
  sum_first zero f = L.add_comm F.nought (f 0)
  sum_first (suc n) f =
      ap (λ (t : A). F.add t (f (suc n))) (sum_first n f) ∙ L.add_assoc (f 0) (sum F n (λ k. f (suc k))) (f (suc n))

  -- where only term j is not nought, the sum is that term
  pub sum-only : (n j : ℕ) (f : ℕ → A) → j < n → ((i : ℕ) → i < n → i ≢ j → f i ≡ F.nought) → sum F n f ≡ f j
  unfolding sum
  sum-only zero j f h e = absurd (omega arith)
  sum-only (suc n) j f h e = elim (ℕ_discrete n j) [
    | yes q ↦
        ap₂ F.add (sum-nought n (λ k l. e k (omega arith) (λ (z : k ≡ j). absurd (omega arith)))) (ap f q)
        ∙ nought-add F L (f j)
    | no ne ↦
        ap₂ F.add (sum-only n j f (omega arith) (λ i l. e i (omega arith))) (e n (lt-suc_self n) ne)
        ∙ L.add-nought (f j)
  ]
