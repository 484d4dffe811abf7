-- The field of 256 elements: bytes as polynomials over two elements, modulo 0x11B (FIPS 197, 4.2). Bit k of a byte is the
-- coefficient of x to the power k, and the sum of two bytes is `bit_xor`. Assumes nothing.
use Rattle.std.specs.Prelude.{ℕ, zero, suc, ◌*◌, ◌/◌, ◌%◌}
use Rattle.std.specs.Int.Bits.{bit_xor}

-- x times a: each coefficient one place up, and 0x11B taken off where one then stands at x to the power 8 (xtime of FIPS 197, 4.2.1)
unfoldable pub times_x : ℕ → ℕ
times_x a = bit_xor (a * 2) ((a / 128) * 0x11B)

-- a times the k lowest coefficients of b: a * (b0 + x * b') = b0 * a + x * (a * b')
unfoldable pub product_of : ℕ → ℕ → ℕ → ℕ
product_of zero a b = 0
product_of (suc k) a b = bit_xor ((b % 2) * a) (times_x (product_of k a (b / 2)))

-- the product of two bytes
unfoldable pub product : ℕ → ℕ → ℕ
unfolding product_of
product a b = product_of 8 a b

-- a to the power k
unfoldable pub power : ℕ → ℕ → ℕ
power a zero = 1
power a (suc k) = product a (power a k)

-- the inverse of a byte: a to the power 254, since a to the power 255 is 1 for each a but 0; 0 for 0
unfoldable pub inverse : ℕ → ℕ
inverse a = power a 254
