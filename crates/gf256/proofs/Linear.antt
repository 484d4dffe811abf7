-- The product is linear in its first factor, and commutes with `times_x` there. Assumes nothing.
use mathlib.Core.Path.{◌≡◌, refl, sym, ap, ap₂, ◌∙◌}
use Prim.Native.Nat.{ℕ, zero, suc, ◌*◌, ◌/◌, ◌%◌, ◌<◌}
use native.Mathlib.Nat.{add-zero, zero-mul, mul-zero, one-mul}
use native.Mathlib.Omega.{arith}
use lib.Bits.{bit_xor, xor_shr, xor_block, xor_lt, xor_self, xor_zero_r}
use lib.Dec.{ltb, ltb→lt, lit<}
use Rattle.gf256.specs.Field.{times_x, product_of}
use Rattle.gf256.proofs.Xor.{Digit, off, on, digit, low, xor-swap}
use Rattle.gf256.proofs.Test.{below}

digit-add : {c : ℕ} (x y : ℕ) → Digit c → c * bit_xor x y ≡ bit_xor (c * x) (c * y)
digit-add x y off = simp zero-mul
digit-add x y on = simp one-mul

digits-add : {c d : ℕ} (m : ℕ) → Digit c → Digit d → bit_xor c d * m ≡ bit_xor (c * m) (d * m)
digits-add m off off = simp zero-mul
digits-add m off on = simp (zero-mul, one-mul)
digits-add m on off = simp (zero-mul, one-mul) (sym (xor_zero_r m))
digits-add m on on = simp (zero-mul, one-mul) (sym (xor_self m))

pub digit_lt : {c : ℕ} (x : ℕ) → Digit c → x < 256 → c * x < 256
digit_lt x off h = simp zero-mul (lit< tt)
digit_lt x on h = simp one-mul h

double-add : (a b : ℕ) → bit_xor a b * 2 ≡ bit_xor (a * 2) (b * 2)
double-add a b =
    sym (ap₂ bit_xor (sym (add-zero (a * 2))) (sym (add-zero (b * 2)))
    ∙ xor_block 1 a b 0 0 (lit< tt) (lit< tt) ∙ add-zero (bit_xor a b * 2))

-- the coefficient that leaves the byte
top : (a : ℕ) → a < 256 → Digit (a / 128)
top a h = digit (a / 128) (omega arith)

-- the modulus is m here: that `times_x` is linear holds for any
reduced-add : (m a b : ℕ) → a < 256 → b < 256
    → bit_xor (bit_xor a b * 2) (bit_xor a b / 128 * m) ≡ bit_xor (bit_xor (a * 2) (a / 128 * m)) (bit_xor (b * 2) (b / 128 * m))
reduced-add m a b ha hb =
    ap₂ bit_xor (double-add a b) (ap (λ (x : ℕ). x * m) (xor_shr a b 7) ∙ digits-add m (top a ha) (top b hb))
    ∙ xor-swap (a * 2) (b * 2) (a / 128 * m) (b / 128 * m)

pub times_x-add : (a b : ℕ) → a < 256 → b < 256 → times_x (bit_xor a b) ≡ bit_xor (times_x a) (times_x b)
unfolding times_x
times_x-add a b ha hb = reduced-add _ a b ha hb

pub times_x-lt : (a : ℕ) → a < 256 → times_x a < 256
unfolding times_x
times_x-lt a h = ltb→lt (times_x a) 256 (below (λ (n : ℕ). ltb (times_x n) 256) 256 tt a h)

times_x-zero : times_x 0 ≡ 0
unfolding times_x
times_x-zero = refl

digit-times_x : {c : ℕ} (x : ℕ) → Digit c → c * times_x x ≡ times_x (c * x)
digit-times_x x off = simp (zero-mul, times_x-zero)
digit-times_x x on = simp one-mul

pub product_of-lt : (k a b : ℕ) → a < 256 → product_of k a b < 256
unfolding product_of
product_of-lt zero a b h = lit< tt
product_of-lt (suc k) a b h = xor_lt 8 _ _ (digit_lt a (low b) h) (times_x-lt _ (product_of-lt k a (b / 2) h))

pub add-product_of : (k x y b : ℕ) → x < 256 → y < 256 → product_of k (bit_xor x y) b ≡ bit_xor (product_of k x b) (product_of k y b)
unfolding product_of
add-product_of zero x y b hx hy = refl
add-product_of (suc k) x y b hx hy =
    ap₂ bit_xor (digit-add x y (low b))
    (ap times_x (add-product_of k x y (b / 2) hx hy) ∙ times_x-add _ _ (product_of-lt k x (b / 2) hx) (product_of-lt k y (b / 2) hy))
    ∙ xor-swap (b % 2 * x) (b % 2 * y) (times_x (product_of k x (b / 2))) (times_x (product_of k y (b / 2)))

pub times_x-product_of : (k a b : ℕ) → a < 256 → product_of k (times_x a) b ≡ times_x (product_of k a b)
unfolding product_of
times_x-product_of zero a b h = sym times_x-zero
times_x-product_of (suc k) a b h =
    ap₂ bit_xor (digit-times_x a (low b)) (ap times_x (times_x-product_of k a (b / 2) h))
    ∙ sym (times_x-add _ _ (digit_lt a (low b) h) (times_x-lt _ (product_of-lt k a (b / 2) h)))

pub zero-product_of : (k b : ℕ) → product_of k 0 b ≡ 0
unfolding product_of
zero-product_of zero b = refl
zero-product_of (suc k) b = ap₂ bit_xor (mul-zero (b % 2)) (ap times_x (zero-product_of k (b / 2)) ∙ times_x-zero)

pub product_of-zero : (k a : ℕ) → product_of k a 0 ≡ 0
unfolding product_of
product_of-zero zero a = refl
product_of-zero (suc k) a = ap₂ bit_xor (zero-mul a) (ap times_x (product_of-zero k a) ∙ times_x-zero)
