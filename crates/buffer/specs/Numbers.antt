-- Numbers below two to the 32 in four bytes, the highest first. Assumes nothing.
use Rattle.std.specs.Prelude.{List, [], ◌∷◌, ℕ, ◌+◌, ◌*◌, ◌/◌, ◌%◌, ◌^◌, get_or}

-- the four bytes of a number
unfoldable pub four_bytes : ℕ → List ℕ
four_bytes k = k / 2 ^ 24 % 256 ∷ k / 2 ^ 16 % 256 ∷ k / 2 ^ 8 % 256 ∷ k % 256 ∷ []

-- the number that the first four bytes of a list say; past its end 0 is read
unfoldable pub number : List ℕ → ℕ
number s = get_or s 0 0 * 2 ^ 24 + get_or s 1 0 * 2 ^ 16 + get_or s 2 0 * 2 ^ 8 + get_or s 3 0
