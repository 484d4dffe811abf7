-- `gf256::times_x` meets its contract: one test of each byte. Assumes nothing.
use mathlib.Core.Path.{◌≡◌}
use Prim.Native.Nat.{ℕ, ◌*◌, ◌/◌, ◌%◌, ◌<◌}
use lib.Bits.{bit_xor}
use lib.Dec.{T, eqb, eqb→eq}
use Rattle.gf256.specs.Field.{times_x}
use Rattle.gf256.proofs.Test.{all, below}
use Rattle.gf256.proofs.times_x.Goals as goal

-- what is added where the highest bit stood is m here, so that the test is of the code's own number
within-byte : (m a : ℕ) → a < 256 → T (all (λ (n : ℕ). eqb (bit_xor (n % 128 * 2) (n / 128 * m)) (times_x n)) 256)
    → bit_xor (a % 128 * 2) (a / 128 * m) ≡ times_x a
within-byte m a h t =
    eqb→eq (bit_xor (a % 128 * 2) (a / 128 * m)) (times_x a) (below (λ (n : ℕ). eqb (bit_xor (n % 128 * 2) (n / 128 * m)) (times_x n)) 256 t a h)

pub returns : goal.returns
unfolding times_x
returns c = within-byte _ c.args.a c.ranges.a.fits tt
