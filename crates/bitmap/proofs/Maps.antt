-- Maps of parties: the bit of party p + 1 is the lowest one of the map halved p times. Assumes nothing.
use mathlib.Core.Path.{◌≡◌, sym, ◌∙◌}
use mathlib.Core.Bool.{true, false}
use Prim.Native.Nat.{ℕ, ◌+◌, ◌-◌, ◌*◌, ◌/◌, ◌%◌, ◌^◌, ◌≤◌, ◌<◌}
use native.Mathlib.Nat.{div-div-eq-div-mul, pow-suc, div-eq_of_lt, one-le-pow, div-one}
use native.Mathlib.Numerals.{add-one}
use native.Mathlib.Omega.{arith}
use native.Mathlib.Decide.{dec_lt}
use Rattle.std.proofs.lemmas.Nat.{le-div}
use borrow.Author.Tests.{eq-eqb, ne_eqb, le-leb, le-ltb, lt-ltb}
use lib.Dec.{leb, ltb, eqb}
use lib.Pow.{pow_mono}
use Rattle.limits.specs.Limits.{max_parties}
use Rattle.bitmap.specs.Bitmap.{names, up_to, only}

-- a map of 64 places names no party beyond them
module _ (map : ℕ) (fits : map < 2 ^ 64) where
  small : (k : ℕ) → 64 ≤ k → map < 2 ^ k
  small k h = omega (arith, fits, pow_mono {i = 64} {j = k} h)

  pub unnamed_past : (k p : ℕ) → k ≡ p - 1 → 64 ≤ k → ltb k 64 ≡ names map p
  unnamed_past k p e h =
      let none : map / 2 ^ (p - 1) ≡ 0 = div-eq_of_lt (small (p - 1) (omega arith)) in
      rw (le-ltb k 64 h, none)

  pub none_past : (n : ℕ) → 64 ≤ n → leb 64 n ≡ up_to n map
  none_past n h = le-leb 64 n h ∙ sym (lt-ltb map (2 ^ n) (small n h))

-- nothing is left of a map that is shifted past party n exactly if it names no party beyond n
pub none_left : (map n : ℕ) → eqb (map / 2 ^ n) 0 ≡ up_to n map
none_left map n = elim (dec_lt map (2 ^ n)) [
  | yes h ↦ eq-eqb _ 0 (div-eq_of_lt h) ∙ sym (lt-ltb map (2 ^ n) h)
  | no h ↦
      let some : 1 ≤ map / 2 ^ n = le-div 1 map (2 ^ n) (one-le-pow n 2 (omega arith)) (omega arith) in
      ne_eqb _ 0 (λ z. omega arith) ∙ sym (le-ltb map (2 ^ n) (omega arith))
]

pub ruleset shifted = (unnamed_past, none_past, none_left)

-- a map as it is given, halved no times
pub unhalved : (map : ℕ) → map ≡ map / 2 ^ 0
unhalved map = sym (div-one map)

-- a map halved p times
module _ (map p m : ℕ) (e : m ≡ map / 2 ^ p) where
  bit-of : map / 2 ^ (p + 1 - 1) % 2 ≡ m % 2
  bit-of = let q : p + 1 - 1 ≡ p = omega arith in rw (q, e)

  pub named : m % 2 ≡ 1 → names map (p + 1) ≡ true
  named h = eq-eqb (map / 2 ^ (p + 1 - 1) % 2) 1 (bit-of ∙ h)

  pub unnamed : m % 2 ≡ 0 → names map (p + 1) ≡ false
  unnamed h = ne_eqb (map / 2 ^ (p + 1 - 1) % 2) 1 (λ k. omega (arith, bit-of))

  pub halved : m / 2 ≡ map / 2 ^ (p + 1)
  halved = rw (e, add-one, pow-suc) (div-div-eq-div-mul map (2 ^ p) 2)

-- a map that names one party: the next one's is its double, and it is small where the party is among the greatest number of them
pub doubled : (p : ℕ) → 1 ≤ p → 2 * only p ≡ only (p + 1)
doubled p h = let e : p + 1 - 1 ≡ p - 1 + 1 = omega arith in rw (e, add-one, pow-suc) (omega arith)

pub only-small : (p : ℕ) → p ≤ max_parties → only p ≤ only max_parties
only-small p h = pow_mono {i = p - 1} {j = max_parties - 1} (omega arith)
