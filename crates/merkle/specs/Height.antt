-- The height of the tree over n leaves: the logarithm of n to base 2, rounded up. Assumes nothing.
use Rattle.std.specs.Prelude.{cond, ℕ, zero, suc, ◌^◌, leb}

-- the least e, from the given one upward, with n at most 2 ^ e
unfoldable pub height_from : ℕ → ℕ → ℕ → ℕ
height_from zero e n = e
height_from (suc fuel) e n = cond (leb n (2 ^ e)) e (height_from fuel (suc e) n)

unfoldable pub height : ℕ → ℕ
height n = height_from n 0 n
