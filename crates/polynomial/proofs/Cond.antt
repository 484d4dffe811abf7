-- The choice between two things by a test: what it is where the test is known, and that an argument and a function go through it, by
-- cases of the test. Assumes nothing.
use mathlib.Core.Bool.{cond, Bool, true, false}
use mathlib.Core.Path.{◌≡◌, refl, ap}
use mathlib.Core.Logic.{◌≢◌}
use Prim.Native.Nat.{ℕ}
use lib.Dec.{eqb}
use borrow.Author.Tests.{eq-eqb, ne_eqb}

pub cond_same : {A : Type 0} {m i : ℕ} (a b : A) → m ≡ i → cond (eqb m i) a b ≡ a
cond_same {A} {m} {i} a b e = ap {B = A} (λ t. cond t a b) (eq-eqb m i e)

pub cond-other : {A : Type 0} {m i : ℕ} (a b : A) → m ≢ i → cond (eqb m i) a b ≡ b
cond-other {A} {m} {i} a b e = ap {B = A} (λ t. cond t a b) (ne_eqb m i e)

pub cond-at : {A : Type 0} (t : Bool) (a b : ℕ → A) (k : ℕ) → cond t a b k ≡ cond t (a k) (b k)
cond-at true a b k = refl
cond-at false a b k = refl

pub cond-out : {A B : Type 0} (f : A → B) (t : Bool) (a b : A) → f (cond t a b) ≡ cond t (f a) (f b)
cond-out f true a b = refl
cond-out f false a b = refl
