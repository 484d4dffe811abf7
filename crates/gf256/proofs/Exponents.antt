-- The product, the inverse and the power by exponents of 0x03, as the code works them out. Assumes nothing.
use mathlib.Core.Path.{◌≡◌, refl, sym, ap, ap₂, ◌∙◌}
use Prim.Native.Nat.{ℕ, ◌+◌, ◌-◌, ◌*◌, ◌%◌, ◌<◌}
use native.Mathlib.Omega.{arith}
use lib.Dec.{lit<}
use Rattle.gf256.specs.Field.{product, power, inverse}
use Rattle.gf256.proofs.Laws.{power-add, power-power, power-mod, zero-product, product-zero, inverse-zero, zero-power}

reduced : (n : ℕ) → power 0x03 (n % 255) ≡ power 0x03 n
reduced n = power-mod 0x03 n (lit< tt) (lit< tt)

pub product-by : {a b : ℕ} (i j : ℕ) → power 0x03 i ≡ a → power 0x03 j ≡ b → power 0x03 (i + j) ≡ product a b
product-by i j p q = power-add 0x03 i j (lit< tt) ∙ ap₂ product p q

-- k is reduced before the product, which then is no overflow
pub power-by : {a : ℕ} (i k : ℕ) → 0 < a → a < 256 → power 0x03 i ≡ a → power 0x03 (i * (k % 255) % 255) ≡ power a k
power-by {a} i k p h e =
    reduced (i * (k % 255)) ∙ sym (power-power 0x03 i (k % 255) (lit< tt)) ∙ ap (λ (x : ℕ). power x (k % 255)) e ∙ power-mod a k p h

pub inverse-by : {a : ℕ} (i : ℕ) → i < 255 → power 0x03 i ≡ a → power 0x03 (255 - i) ≡ inverse a
unfolding inverse
inverse-by i h e =
    let same : (255 - i) % 255 ≡ i * 254 % 255 = omega arith in
    sym (reduced (255 - i)) ∙ ap (power 0x03) same ∙ reduced (i * 254)
    ∙ sym (power-power 0x03 i 254 (lit< tt)) ∙ ap (λ (x : ℕ). power x 254) e

pub power-none : (a : ℕ) → power a 0 ≡ 1
unfolding power
power-none a = refl

pub ruleset products = (product-by, zero-product, product-zero)

pub ruleset inverses = (inverse-by, inverse-zero)

pub ruleset powers = (power-by, power-none, zero-power)
