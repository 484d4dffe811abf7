-- Polynomials over a field, as the function from a power to its coefficient: their value, and Lagrange's polynomial through
-- given points. The field is one in which a + a = 0, so that the difference of two elements is their sum. Assumes nothing.
use Rattle.std.specs.Prelude.{cond, ℕ, zero, suc, ◌<◌, ◌≡◌, ◌≢◌, eqb}

-- the operations of a field
pub record Operations (A : Type 0) : Type 0 where
  pub add : A → A → A
  pub mul : A → A → A
  pub nought : A
  pub one : A
  pub inv : A → A

-- the laws of a field in which a + a = 0
pub record Laws {A : Type 0} (F : Operations A) : Type 0 where
  pub add_assoc : (a b c : A) → F.add (F.add a b) c ≡ F.add a (F.add b c)
  pub add_comm : (a b : A) → F.add a b ≡ F.add b a
  pub add-nought : (a : A) → F.add a F.nought ≡ a
  pub add-self : (a : A) → F.add a a ≡ F.nought
  pub mul_assoc : (a b c : A) → F.mul (F.mul a b) c ≡ F.mul a (F.mul b c)
  pub mul_comm : (a b : A) → F.mul a b ≡ F.mul b a
  pub mul-add : (a b c : A) → F.mul a (F.add b c) ≡ F.add (F.mul a b) (F.mul a c)
  pub mul-one : (a : A) → F.mul a F.one ≡ a
  pub one-not : F.one ≢ F.nought
  pub mul-inv : (a : A) → a ≢ F.nought → F.mul a (F.inv a) ≡ F.one

-- the first n of the points x 0, x 1, .. differ from each other
abbrev pub Distinct : {A : Type 0} → ℕ → (ℕ → A) → Type 0
Distinct n x = (i j : ℕ) → i < n → j < n → x i ≡ x j → i ≡ j

module _ {A : Type 0} (F : Operations A) where
  -- f 0 + f 1 + .. + f (n - 1)
  unfoldable pub sum : ℕ → (ℕ → A) → A
  sum zero f = F.nought
  sum (suc n) f = F.add (sum n f) (f n)

  unfoldable pub pow : A → ℕ → A
  pow x zero = F.one
  pow x (suc k) = F.mul x (pow x k)

  -- the value at x of the polynomial with n coefficients c: the sum over k of c k times x to the power k
  unfoldable pub value : ℕ → (ℕ → A) → A → A
  value n c x = sum n (λ k. F.mul (c k) (pow x k))

  -- (X + r) times the polynomial p
  unfoldable pub factor : A → (ℕ → A) → ℕ → A
  factor r p zero = F.mul r (p zero)
  factor r p (suc k) = F.add (p k) (F.mul r (p (suc k)))

  -- the polynomial 1
  unfoldable pub unit : ℕ → A
  unit zero = F.one
  unit (suc k) = F.nought

  -- the product of (X + x m) over the points m below n other than i
  unfoldable pub numerator : ℕ → (ℕ → A) → ℕ → ℕ → A
  numerator zero x i = unit
  numerator (suc m) x i = cond (eqb m i) (numerator m x i) (factor (x m) (numerator m x i))

  -- its value at x i: the product of (x i + x m) over the same points
  unfoldable pub denominator : ℕ → (ℕ → A) → ℕ → A
  denominator zero x i = F.one
  denominator (suc m) x i = cond (eqb m i) (denominator m x i) (F.mul (denominator m x i) (F.add (x i) (x m)))

  -- Lagrange's polynomial for point i of n: 1 at that point and 0 at the others
  unfoldable pub basis : ℕ → (ℕ → A) → ℕ → ℕ → A
  basis n x i k = F.mul (numerator n x i k) (F.inv (denominator n x i))

  -- the polynomial through the n points (x i, y i)
  unfoldable pub through : ℕ → (ℕ → A) → (ℕ → A) → ℕ → A
  through n x y k = sum n (λ i. F.mul (basis n x i k) (y i))
