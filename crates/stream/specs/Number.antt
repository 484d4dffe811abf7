-- The number that bytes spell, the first byte the highest. Assumes nothing.
use Rattle.std.specs.Prelude.{ℕ, ◌+◌, ◌*◌, ◌%◌, ◌^◌, List, [], ◌∷◌}

-- the number v with the bytes of s behind it; of more than 64 bits the lowest stay
unfoldable pub spelled_after : ℕ → List ℕ → ℕ
spelled_after v [] = v
spelled_after v (b ∷ s) = spelled_after ((v * 256 + b) % 2 ^ 64) s

abbrev pub spelled : List ℕ → ℕ
spelled s = spelled_after 0 s
