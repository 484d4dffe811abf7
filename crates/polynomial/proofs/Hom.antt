-- A map that commutes with the operations commutes with every definition of polynomials, by induction along each definition. It carries
-- what is known over a field to the images of its elements. Assumes nothing.
use mathlib.Core.Path.{◌≡◌, ap, ◌∙◌}
use Prim.Native.Nat.{ℕ, zero, suc}
use lib.Dec.{eqb}
use Rattle.polynomial.specs.Polynomial.{Operations, sum, pow, value, factor, unit, numerator, denominator, basis, through}
use Rattle.polynomial.proofs.Sum.{sum-cong}
use Rattle.polynomial.proofs.Cond.{cond-at, cond-out}

pub record Hom {A B : Type 0} (F : Operations A) (G : Operations B) (f : A → B) : Type 0 where
  pub on-add : (a b : A) → f (F.add a b) ≡ G.add (f a) (f b)
  pub on-mul : (a b : A) → f (F.mul a b) ≡ G.mul (f a) (f b)
  pub on-nought : f F.nought ≡ G.nought
  pub on_one : f F.one ≡ G.one
  pub on-inv : (a : A) → f (F.inv a) ≡ G.inv (f a)

module _ {A B : Type 0} {F : Operations A} {G : Operations B} {f : A → B} (H : Hom F G f) where
  pub hom-sum : (n : ℕ) (c : ℕ → A) → f (sum F n c) ≡ sum G n (λ k. f (c k))
  unfolding sum
  hom-sum zero c = H.on-nought
  hom-sum (suc n) c = H.on-add (sum F n c) (c n) ∙ ap (λ (t : B). G.add t (f (c n))) (hom-sum n c)

  pub hom-pow : (x : A) (k : ℕ) → f (pow F x k) ≡ pow G (f x) k
  unfolding pow
  hom-pow x zero = H.on_one
  hom-pow x (suc k) = H.on-mul x (pow F x k) ∙ ap (G.mul (f x)) (hom-pow x k)

  pub hom-value : (n : ℕ) (c : ℕ → A) (x : A) → f (value F n c x) ≡ value G n (λ k. f (c k)) (f x)
  unfolding value
  hom-value n c x =
      hom-sum n (λ k. F.mul (c k) (pow F x k))
      ∙ sum-cong G n (λ k h. H.on-mul (c k) (pow F x k) ∙ ap (G.mul (f (c k))) (hom-pow x k))

  pub hom-factor : (r : A) (p : ℕ → A) (k : ℕ) → f (factor F r p k) ≡ factor G (f r) (λ m. f (p m)) k
  unfolding factor
  hom-factor r p zero = H.on-mul r (p zero)
  hom-factor r p (suc k) = H.on-add (p k) (F.mul r (p (suc k))) ∙ ap (G.add (f (p k))) (H.on-mul r (p (suc k)))

  pub hom-unit : (k : ℕ) → f (unit F k) ≡ unit G k
  unfolding unit
  hom-unit zero = H.on_one
  hom-unit (suc k) = H.on-nought

  pub hom-numerator : (n : ℕ) (x : ℕ → A) (i k : ℕ) → f (numerator F n x i k) ≡ numerator G n (λ j. f (x j)) i k
  unfolding numerator
  hom-numerator zero x i k = hom-unit k
  hom-numerator (suc m) x i k = simp (cond-at {A = A} (eqb m i), cond-at {A = B} (eqb m i), cond-out f (eqb m i), hom-factor, hom-numerator m x i)

  pub hom-denominator : (n : ℕ) (x : ℕ → A) (i : ℕ) → f (denominator F n x i) ≡ denominator G n (λ j. f (x j)) i
  unfolding denominator
  hom-denominator zero x i = H.on_one
  hom-denominator (suc m) x i = simp (cond-out f (eqb m i), H.on-mul, H.on-add, hom-denominator m x i)

  pub hom-basis : (n : ℕ) (x : ℕ → A) (i k : ℕ) → f (basis F n x i k) ≡ basis G n (λ j. f (x j)) i k
  unfolding basis
  hom-basis n x i k = simp (H.on-mul, H.on-inv, hom-numerator, hom-denominator)

  pub hom-through : (n : ℕ) (x y : ℕ → A) (k : ℕ) → f (through F n x y k) ≡ through G n (λ j. f (x j)) (λ j. f (y j)) k
  unfolding through
  hom-through n x y k =
      hom-sum n (λ i. F.mul (basis F n x i k) (y i))
      ∙ sum-cong G n (λ i h. H.on-mul (basis F n x i k) (y i) ∙ ap (λ (t : B). G.mul t (f (y i))) (hom-basis n x i k))
