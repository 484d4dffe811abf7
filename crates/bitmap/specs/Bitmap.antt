-- Sets of parties as numbers (documents 01 and 02: maps of parties). Assumes nothing.
use Rattle.std.specs.Prelude.{Bool, cond, ℕ, zero, suc, ◌+◌, ◌-◌, ◌/◌, ◌%◌, ◌^◌, ltb, eqb}

-- a map names party p by the value two to the p - 1
abbrev pub names : ℕ → ℕ → Bool
names map p = eqb (map / 2 ^ (p - 1) % 2) 1

-- it names none beyond n
abbrev pub up_to : ℕ → ℕ → Bool
up_to n map = ltb map (2 ^ n)

-- the map that names party q alone
abbrev pub only : ℕ → ℕ
only q = 2 ^ (q - 1)

-- the map of those of the first k parties that pass a test
unfoldable pub map_of : (ℕ → Bool) → ℕ → ℕ
map_of test zero = 0
map_of test (suc k) = map_of test k + cond (test (k + 1)) (2 ^ k) 0
