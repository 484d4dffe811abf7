-- The laws of the field, for bytes: every byte but 0 is a power of 0x03, and powers multiply by adding exponents. Assumes nothing.
use mathlib.Core.Path.{◌≡◌, refl, sym, ap, ap₂, ◌∙◌}
use Prim.Native.Nat.{ℕ, zero, suc, ◌+◌, ◌*◌, ◌/◌, ◌%◌, ◌<◌}
use native.Mathlib.Nat.{zero-add, suc-add, add_comm, mul-zero, mul-suc, mul_comm}
use native.Mathlib.Omega.{arith}
use lib.Bits.{bit_xor, xor_lt}
use lib.Dec.{eqb, eqb→eq, lit<}
use Rattle.gf256.specs.Field.{times_x, product, power, inverse}
use Rattle.gf256.proofs.Test.{below}
use Rattle.gf256.proofs.Linear.{times_x-lt, product_of-lt, add-product_of, times_x-product_of, zero-product_of, product_of-zero}
use Rattle.gf256.proofs.Tables.{Element, none, some, element, power-255}

-- zero, one, bounds, and sums in the first factor

pub product_lt : (a b : ℕ) → a < 256 → product a b < 256
unfolding product
product_lt a b h = product_of-lt 8 a b h

pub power-lt : (a k : ℕ) → a < 256 → power a k < 256
unfolding power
power-lt a zero h = lit< tt
power-lt a (suc k) h = product_lt a (power a k) h

pub inverse-lt : (a : ℕ) → a < 256 → inverse a < 256
unfolding inverse
inverse-lt a h = power-lt a 254 h

pub zero-product : (b : ℕ) → product 0 b ≡ 0
unfolding product
zero-product b = zero-product_of 8 b

pub product-zero : (a : ℕ) → product a 0 ≡ 0
unfolding product
product-zero a = product_of-zero 8 a

pub inverse-zero : inverse 0 ≡ 0
unfolding inverse power
inverse-zero = zero-product (power 0 253)

pub one_product : (b : ℕ) → b < 256 → product 1 b ≡ b
unfolding product times_x
one_product b h = eqb→eq (product 1 b) b (below (λ (n : ℕ). eqb (product 1 n) n) 256 tt b h)

pub zero-power : (k : ℕ) → 0 < k → power 0 k ≡ 0
unfolding power
zero-power zero h = absurd (omega arith)
zero-power (suc k) h = zero-product (power 0 k)

pub one_power : (k : ℕ) → power 1 k ≡ 1
unfolding power
one_power zero = refl
one_power (suc k) = ap (product 1) (one_power k) ∙ one_product 1 (lit< tt)

pub add-product : (a b c : ℕ) → a < 256 → b < 256 → product (bit_xor a b) c ≡ bit_xor (product a c) (product b c)
unfolding product
add-product a b c ha hb = add-product_of 8 a b c ha hb

-- associativity: 0x03 * a = a + x * a, so a factor 0x03 moves out of a product, and with it every power of 0x03

three : (a : ℕ) → a < 256 → product 0x03 a ≡ bit_xor a (times_x a)
unfolding product times_x
three a h = eqb→eq (product 0x03 a) (bit_xor a (times_x a)) (below (λ (n : ℕ). eqb (product 0x03 n) (bit_xor n (times_x n))) 256 tt a h)

times_x-product : (a b : ℕ) → a < 256 → product (times_x a) b ≡ times_x (product a b)
unfolding product
times_x-product a b h = times_x-product_of 8 a b h

three-product : (a b : ℕ) → a < 256 → product (product 0x03 a) b ≡ product 0x03 (product a b)
three-product a b h =
    ap (λ (x : ℕ). product x b) (three a h) ∙ add-product a (times_x a) b h (times_x-lt a h)
    ∙ ap (bit_xor (product a b)) (times_x-product a b h) ∙ sym (three (product a b) (product_lt a b h))

power-product : (i b c : ℕ) → b < 256 → product (product (power 0x03 i) b) c ≡ product (power 0x03 i) (product b c)
unfolding power
power-product zero b c h = ap (λ (x : ℕ). product x c) (one_product b h) ∙ sym (one_product (product b c) (product_lt b c h))
power-product (suc i) b c h =
    let p : ℕ = power 0x03 i in
    let l : p < 256 = power-lt 0x03 i (lit< tt) in
    ap (λ (x : ℕ). product x c) (three-product p b l) ∙ three-product (product p b) c (product_lt p b l)
    ∙ ap (product 0x03) (power-product i b c h) ∙ sym (three-product p (product b c) l)

assoc : {a : ℕ} (b c : ℕ) → Element a → b < 256 → product (product a b) c ≡ product a (product b c)
assoc b c none h = ap (λ (x : ℕ). product x c) (zero-product b) ∙ zero-product c ∙ sym (zero-product (product b c))
assoc b c (some i) h = power-product i b c h

pub product-assoc : (a b c : ℕ) → a < 256 → b < 256 → product (product a b) c ≡ product a (product b c)
product-assoc a b c ha hb = assoc b c (element a ha) hb

-- powers

pub power-add : (a i j : ℕ) → a < 256 → power a (i + j) ≡ product (power a i) (power a j)
unfolding power
power-add a zero j h = ap (power a) (zero-add j) ∙ sym (one_product (power a j) (power-lt a j h))
power-add a (suc i) j h =
    ap (power a) (suc-add i j) ∙ ap (product a) (power-add a i j h) ∙ sym (product-assoc a (power a i) (power a j) h (power-lt a i h))

pub power-power : (a i k : ℕ) → a < 256 → power (power a i) k ≡ power a (i * k)
unfolding power
power-power a i zero h = ap (power a) (sym (mul-zero i))
power-power a i (suc k) h =
    ap (product (power a i)) (power-power a i k h) ∙ sym (power-add a i (i * k) h) ∙ ap (power a) (add_comm i (i * k) ∙ sym (mul-suc i k))

-- commutativity, and what it gives in the second factor

comm : {a b : ℕ} → Element a → Element b → product a b ≡ product b a
comm none none = refl
comm none (some j) = zero-product (power 0x03 j) ∙ sym (product-zero (power 0x03 j))
comm (some i) none = product-zero (power 0x03 i) ∙ sym (zero-product (power 0x03 i))
comm (some i) (some j) = sym (power-add 0x03 i j (lit< tt)) ∙ ap (power 0x03) (add_comm i j) ∙ power-add 0x03 j i (lit< tt)

pub product-comm : (a b : ℕ) → a < 256 → b < 256 → product a b ≡ product b a
product-comm a b ha hb = comm (element a ha) (element b hb)

pub product-one : (a : ℕ) → a < 256 → product a 1 ≡ a
product-one a h = product-comm a 1 h (lit< tt) ∙ one_product a h

pub product-add : (a b c : ℕ) → a < 256 → b < 256 → c < 256 → product a (bit_xor b c) ≡ bit_xor (product a b) (product a c)
product-add a b c ha hb hc =
    product-comm a (bit_xor b c) ha (xor_lt 8 b c hb hc) ∙ add-product b c a hb hc
    ∙ ap₂ bit_xor (product-comm b a hb ha) (product-comm c a hc ha)

-- inverses: each byte but 0 to the power 255 is 1

full : {a : ℕ} → Element a → 0 < a → power a 255 ≡ 1
full none p = absurd (omega arith)
full (some i) p =
    power-power 0x03 i 255 (lit< tt) ∙ ap (power 0x03) (mul_comm i 255) ∙ sym (power-power 0x03 255 i (lit< tt))
    ∙ ap (λ (x : ℕ). power x i) power-255 ∙ one_power i

pub product-inverse : (a : ℕ) → 0 < a → a < 256 → product a (inverse a) ≡ 1
unfolding inverse power
product-inverse a p h = full (element a h) p

-- exponents count modulo 255
pub power-mod : (a k : ℕ) → 0 < a → a < 256 → power a (k % 255) ≡ power a k
power-mod a k p h =
    let q : ℕ = k / 255 in
    let e : 255 * q + k % 255 ≡ k = omega arith in
    let whole : power a (255 * q) ≡ 1 = sym (power-power a 255 q h) ∙ ap (λ (x : ℕ). power x q) (full (element a h) p) ∙ one_power q in
    sym (ap (power a) (sym e) ∙ power-add a (255 * q) (k % 255) h ∙ ap (λ (x : ℕ). product x (power a (k % 255))) whole
    ∙ one_product (power a (k % 255)) (power-lt a (k % 255) h))
