-- A number below two to the 32 is told by its four bytes, and four bytes say no greater one. Assumes nothing.
use mathlib.Core.Path.{◌≡◌}
use mathlib.Core.List.{List, ◌++◌}
use Prim.Native.Nat.{ℕ, ◌+◌, ◌*◌, ◌/◌, ◌%◌, ◌^◌, ◌<◌}
use native.Mathlib.Omega.{arith}
use Rattle.buffer.specs.Bounds.{Bytes}
use Rattle.buffer.specs.Numbers.{four_bytes, number}

-- what was written is read back, whatever stands behind it
pub number-back : (k : ℕ) (s : List ℕ) → k < 2 ^ 32 → number (four_bytes k ++ s) ≡ k
unfolding number four_bytes
number-back k s h =
    let third : k / 2 ^ 16 ≡ k / 2 ^ 8 / 256 = omega arith in
    let last : k / 2 ^ 24 ≡ k / 2 ^ 16 / 256 = omega arith in
    let high : k / 2 ^ 24 % 256 ≡ k / 2 ^ 24 = omega arith in
    let byte : k / 2 ^ 16 ≡ k / 2 ^ 24 * 256 + k / 2 ^ 16 % 256 = omega arith in
    let two : k / 2 ^ 8 ≡ k / 2 ^ 16 * 256 + k / 2 ^ 8 % 256 = omega arith in
    omega arith

pub number-bytes : (s : List ℕ) → Bytes s → number s < 2 ^ 32
unfolding number
number-bytes s h = omega (arith, h 0, h 1, h 2, h 3)
