-- The map of those parties that pass a test: it names just these, and none beyond the last one tried. By induction on how many are tried. Assumes nothing.
use mathlib.Core.Path.{◌≡◌, refl, sym, ap, ◌∙◌}
use mathlib.Core.Bool.{Bool, true, false, cond}
use Prim.Native.Nat.{ℕ, zero, suc, ◌+◌, ◌-◌, ◌*◌, ◌/◌, ◌%◌, ◌^◌, ◌≤◌, ◌<◌}
use native.Mathlib.Decide.{dec_lt}
use native.Mathlib.Nat.{add-mul-div_right, add-mul-mod_self_right, div-eq_of_lt, pow-suc, one-le-pow}
use native.Mathlib.Omega.{arith}
use lib.Dec.{eqb}
use lib.Pow.{pow-add, pow_mono}
use Rattle.bitmap.specs.Bitmap.{names, map_of}

some-power : (k : ℕ) → 1 ≤ 2 ^ k
some-power k = one-le-pow k 2 (omega arith)

-- a map of the first k parties
pub map-small : (f : ℕ → Bool) (k : ℕ) → map_of f k < 2 ^ k
unfolding map_of
map-small f zero = omega arith
map-small f (suc k) = go (f (k + 1)) (map-small f k)
  where
    go : (t : Bool) → map_of f k < 2 ^ k → map_of f k + cond t (2 ^ k) 0 < 2 ^ suc k
    go true h = omega (arith, h, pow-suc 2 k)
    go false h = omega (arith, h, pow-suc 2 k, some-power k)

-- a map that names none beyond k does not name a later party
pub beyond : (map k p : ℕ) → map < 2 ^ k → k < p → names map p ≡ false
beyond map k p h l =
    let e : map / 2 ^ (p - 1) ≡ 0 = div-eq_of_lt (omega (arith, h, pow_mono {i = k} {j = p - 1} (omega arith))) in
    ap (λ (q : ℕ). eqb (q % 2) 1) e

-- whether a bit higher up is added makes no difference to a lower one
lower : (m k p : ℕ) (t : Bool) → 1 ≤ p → p ≤ k → names (m + cond t (2 ^ k) 0) p ≡ names m p
lower m k p false a b = ap (λ (q : ℕ). names q p) (let e : m + 0 ≡ m = omega arith in e)
lower m k p true a b =
    let i : ℕ = k - p in
    let e : k ≡ i + (1 + (p - 1)) = omega arith in
    let twice : 2 ^ k ≡ 2 ^ i * 2 * 2 ^ (p - 1) = ap (λ (q : ℕ). 2 ^ q) e ∙ split i in
    ap (λ (q : ℕ). eqb (q % 2) 1)
    (ap (λ (q : ℕ). (m + q) / 2 ^ (p - 1)) twice ∙ add-mul-div_right m (2 ^ i * 2) {z = 2 ^ (p - 1)} (some-power (p - 1)))
    ∙ ap (λ (q : ℕ). eqb q 1) (add-mul-mod_self_right (m / 2 ^ (p - 1)) (2 ^ i) 2)
  where
    split : (i : ℕ) → 2 ^ (i + (1 + (p - 1))) ≡ 2 ^ i * 2 * 2 ^ (p - 1)
    split i =
        let one : 2 ^ 1 ≡ 2 = refl in
        pow-add 2 i (1 + (p - 1)) ∙ rw (pow-add 2 1 (p - 1), one) (omega arith)

-- the bit of the party behind those tried
upper : (m k : ℕ) (t : Bool) → m < 2 ^ k → names (m + cond t (2 ^ k) 0) (k + 1) ≡ t
upper m k t h =
    let e : k + 1 - 1 ≡ k = omega arith in
    ap (λ (q : ℕ). eqb ((m + cond t (2 ^ k) 0) / 2 ^ q % 2) 1) e ∙ go t
  where
    none : m / 2 ^ k ≡ 0
    none = div-eq_of_lt h

    go : (t : Bool) → eqb ((m + cond t (2 ^ k) 0) / 2 ^ k % 2) 1 ≡ t
    go true =
        let one : 2 ^ k ≡ 1 * 2 ^ k = omega arith in
        ap (λ (q : ℕ). eqb (q % 2) 1)
        (ap (λ (q : ℕ). (m + q) / 2 ^ k) one ∙ add-mul-div_right m 1 {z = 2 ^ k} (some-power k) ∙ ap (λ (q : ℕ). q + 1) none)
    go false = ap (λ (q : ℕ). eqb (q / 2 ^ k % 2) 1) (let z : m + 0 ≡ m = omega arith in z) ∙ ap (λ (q : ℕ). eqb (q % 2) 1) none

-- a party among those tried stands in the map exactly if it passes
pub map-names : (f : ℕ → Bool) (k p : ℕ) → 1 ≤ p → p ≤ k → names (map_of f k) p ≡ f p
unfolding map_of
map-names f zero p a b = absurd (omega arith)
map-names f (suc k) p a b = elim (dec_lt k p) [
  | no h ↦ lower (map_of f k) k p (f (k + 1)) a (omega arith) ∙ map-names f k p a (omega arith)
  | yes h ↦ let e : p ≡ k + 1 = omega arith in
      ap (names (map_of f (suc k))) e ∙ upper (map_of f k) k (f (k + 1)) (map-small f k) ∙ ap f (sym e)
]

-- and no other one
pub map-others : (f : ℕ → Bool) (k p : ℕ) → k < p → names (map_of f k) p ≡ false
map-others f k p h = beyond (map_of f k) k p (map-small f k) h

-- tests that give the same for those tried give the same map
pub map_same : (f g : ℕ → Bool) (k : ℕ) → ((p : ℕ) → 1 ≤ p → p ≤ k → f p ≡ g p) → map_of f k ≡ map_of g k
unfolding map_of
map_same f g zero h = refl
map_same f g (suc k) h =
    ap (λ (m : ℕ). m + cond (f (k + 1)) (2 ^ k) 0) (map_same f g k (λ p a b. h p a (omega arith)))
    ∙ ap (λ (t : Bool). map_of g k + cond t (2 ^ k) 0) (h (k + 1) (omega arith) (omega arith))
