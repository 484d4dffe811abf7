-- The operations on bytes, for the polynomials of the coder. The laws of a field hold of them for numbers below 256.
-- Assumes nothing.
use Rattle.std.specs.Prelude.{ℕ}
use Rattle.std.specs.Int.Bits.{bit_xor}
use Rattle.gf256.specs.Field.{product, inverse}
use Rattle.polynomial.specs.Polynomial.{Operations}

abbrev pub bytes : Operations ℕ
bytes = record { add = bit_xor; mul = product; nought = 0; one = 1; inv = inverse }
