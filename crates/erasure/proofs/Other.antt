-- Whether a number other than x stands in a list: it does not exactly where every element is x. Assumes nothing.
use mathlib.Core.Path.{◌≡◌, refl, ap}
use mathlib.Core.Bool.{Bool, true, false, not, ◌||◌}
use mathlib.Core.List.{List, [], ◌∷◌, map}
use Prim.Native.Nat.{ℕ, zero, suc, ◌<◌}
use native.Mathlib.Omega.{arith}
use borrow.Author.Tests.{eq-eqb, eqb-true}
use lib.Dec.{eqb}
use lib.ListN.{length, get_or}
use Rattle.std.specs.List.{list_any}
use Rattle.std.proofs.Common.{nat_eq}
use Rattle.erasure.specs.Rebuild.{other}

pub other_none : (x : ℕ) (l : List ℕ) → ((i : ℕ) → i < length l → get_or l i 0 ≡ x) → other x l ≡ false
unfolding other
other_none x [] h = refl
other_none x (y ∷ l) h =
    let e : eqb y x ≡ true = eq-eqb y x (h 0 (omega arith)) in
    rw e (other_none x l (λ i k. h (suc i) (omega arith)))

neither : (a b : Bool) → not a || b ≡ false → (a ≡ true) × (b ≡ false)
neither true b e = (refl, e)
neither false b e = let z : ◌≡◌ {A = ℕ} 0 1 = cc in absurd (omega arith)

pub none_other : (x : ℕ) (l : List ℕ) → other x l ≡ false → (i : ℕ) → i < length l → get_or l i 0 ≡ x
unfolding other
none_other x [] h i k = absurd (omega arith)
none_other x (y ∷ l) h zero k = eqb-true y x (neither (eqb y x) (other x l) h).0
none_other x (y ∷ l) h (suc i) k = none_other x l (neither (eqb y x) (other x l) h).1 i (omega arith)

-- the same as whether an element passes the test
pub other_any : (x : ℕ) (l : List ℕ) → list_any (λ y. not (nat_eq y x)) l ≡ other x l
unfolding other
other_any x [] = refl
other_any x (y ∷ l) = ap (λ (t : Bool). not (eqb y x) || t) (other_any x l)

pub other_any_of : {A : Type 0} (x : ℕ) (f : A → ℕ) (l : List A) → list_any (λ y. not (nat_eq (f y) x)) l ≡ other x (map f l)
unfolding other
other_any_of x f [] = refl
other_any_of x f (y ∷ l) = ap (λ (t : Bool). not (eqb (f y) x) || t) (other_any_of x f l)
