-- Binary digits, and sums in any order. Assumes nothing.
use mathlib.Core.Path.{◌≡◌, sym, ap, ◌∙◌}
use Prim.Native.Nat.{ℕ, zero, suc, ◌%◌, ◌<◌}
use native.Mathlib.Omega.{arith}
use Rattle.std.specs.Int.Bits as bits
use lib.Bits.{bit_xor, xor_step, xor_shr, xor_mod, xor_comm, differ}

-- a binary digit
pub data Digit : ℕ → Type 0 where
  off : Digit 0
  on : Digit 1

pub digit : (n : ℕ) → n < 2 → Digit n
digit zero h = off
digit (suc zero) h = on
digit (suc (suc n)) h = absurd (omega arith)

-- the lowest digit of a number
pub low : (n : ℕ) → Digit (n % 2)
low n = digit (n % 2) (omega arith)

pub xor_assoc : (a b c : ℕ) → bit_xor (bit_xor a b) c ≡ bit_xor a (bit_xor b c)
xor_assoc a b c = bits.xor_assoc a b c

-- (a + b) + (c + d) = (a + c) + (b + d)
pub xor-swap : (a b c d : ℕ) → bit_xor (bit_xor a b) (bit_xor c d) ≡ bit_xor (bit_xor a c) (bit_xor b d)
xor-swap a b c d =
    xor_assoc a b (bit_xor c d)
    ∙ ap (bit_xor a) (sym (xor_assoc b c d) ∙ ap (λ (x : ℕ). bit_xor x d) (xor_comm b c) ∙ xor_assoc c b d)
    ∙ sym (xor_assoc a c (bit_xor b d))
