-- The powers of 0x03 and their exponents, as lists that antt computes by multiplication with 0x03: the code's tables are these
-- lists, and each byte but 0 is in the first. Assumes nothing.
use mathlib.Core.Path.{◌≡◌, refl, sym, ap, ◌∙◌, subst}
use mathlib.Core.Bool.{Bool, true, false}
use mathlib.Core.List.{List, [], ◌∷◌}
use Prim.Native.Nat.{ℕ, zero, suc, ◌+◌, ◌<◌}
use native.Mathlib.Nat.{add-zero, zero-add, le_of_suc-le-suc, not-suc-le-zero}
use native.Mathlib.Omega.{arith}
use lib.Dec.{eqb, eqb→eq, ltb, ltb→lt}
use lib.ListN.{get_or}
use Rattle.gf256.specs.Field.{times_x, product, power}
use Rattle.gf256.proofs.Test.{below}

-- n powers of 0x03, x the first
unfoldable pub from : ℕ → ℕ → List ℕ
from zero x = []
from (suc n) x = x ∷ from n (product 0x03 x)

from_at : (n i k : ℕ) → i < n → get_or (from n (power 0x03 k)) i 0 ≡ power 0x03 (k + i)
unfolding from power
from_at zero i k h = absurd (not-suc-le-zero h)
from_at (suc n) zero k h = rw add-zero
from_at (suc n) (suc i) k h =
    let e : suc k + i ≡ k + suc i = omega arith in
    from_at n i (suc k) (le_of_suc-le-suc h) ∙ ap (power 0x03) e

unfoldable pub powers : List ℕ
powers = from 510 1

pub powers-at : (i : ℕ) → i < 510 → get_or powers i 0 ≡ power 0x03 i
unfolding powers power
powers-at i h = from_at 510 i 0 h ∙ ap (power 0x03) (zero-add i)

abbrev past : Bool → ℕ → ℕ
past true n = 0
past false n = suc n

-- the place of b in a list, or the list's length where b is not in it
unfoldable pub place : ℕ → List ℕ → ℕ
place b [] = 0
place b (x ∷ xs) = past (eqb x b) (place b xs)

-- the places of n numbers, b the first
unfoldable pub places : ℕ → ℕ → List ℕ → List ℕ
places zero b xs = []
places (suc n) b xs = place b xs ∷ places n (suc b) xs

places-at : (n b k : ℕ) (xs : List ℕ) → k < n → get_or (places n b xs) k 0 ≡ place (b + k) xs
unfolding places
places-at zero b k xs h = absurd (not-suc-le-zero h)
places-at (suc n) b zero xs h = rw add-zero
places-at (suc n) b (suc k) xs h =
    let e : suc b + k ≡ b + suc k = omega arith in
    places-at n (suc b) k xs (le_of_suc-le-suc h) ∙ ap (λ (m : ℕ). place m xs) e

-- the exponent of each byte but 0 at the byte's place, and a 0 at place 0
unfoldable pub exponents : List ℕ
exponents = 0 ∷ places 255 1 powers

-- each byte but 0 is a power of 0x03: one test of each byte
place-lt : (a : ℕ) → a < 255 → place (suc a) powers < 255
unfolding place powers from product times_x
place-lt a h = ltb→lt (place (suc a) powers) 255 (below (λ (n : ℕ). ltb (place (suc n) powers) 255) 255 tt a h)

place_at : (a : ℕ) → a < 255 → get_or powers (place (suc a) powers) 0 ≡ suc a
unfolding place powers from product times_x
place_at a h =
    eqb→eq (get_or powers (place (suc a) powers) 0) (suc a)
    (below (λ (n : ℕ). eqb (get_or powers (place (suc n) powers) 0) (suc n)) 255 tt a h)

pub exponent-at : (a : ℕ) → 0 < a → a < 256 → (get_or exponents a 0 < 255) × (power 0x03 (get_or exponents a 0) ≡ a)
unfolding exponents
exponent-at zero p h = absurd (omega arith)
exponent-at (suc a) p h =
    let l : a < 255 = omega arith in
    let e : get_or (places 255 1 powers) a 0 ≡ place (suc a) powers = places-at 255 1 a powers l ∙ ap (λ (m : ℕ). place m powers) (omega arith) in
    rw e (place-lt a l, sym (powers-at (place (suc a) powers) (omega (arith, place-lt a l))) ∙ place_at a l)

-- a byte is 0 or a power of 0x03
pub data Element : ℕ → Type 0 where
  none : Element 0
  some : (i : ℕ) → Element (power 0x03 i)

pub element : (a : ℕ) → a < 256 → Element a
element zero h = none
element (suc a) h = subst Element (exponent-at (suc a) (omega arith) h).1 (some (get_or exponents (suc a) 0))

pub power-255 : power 0x03 255 ≡ 1
unfolding power product times_x
power-255 = refl
