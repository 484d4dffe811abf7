-- Laws of hexadecimal digits: two for a byte, and those of one byte more stand behind the others. Assumes nothing.
use Rattle.std.proofs.Common.{◌≡◌, ℕ, ◌+◌, ◌*◌, ◌/◌, ◌%◌, ◌<◌, List, [], ◌∷◌, ◌++◌, length, get_or, take, refl, ap, ◌∙◌, add-one, arith, take-suc}
use Rattle.report.specs.Output.{hex_digit, hex}

pub hex_none : hex [] ≡ []
unfolding hex
hex_none = refl

pub length-hex : (m : List ℕ) → length (hex m) ≡ 2 * length m
unfolding hex
length-hex [] = refl
length-hex (x ∷ m) = omega (arith, length-hex m)

hex-snoc : (m : List ℕ) (x : ℕ) → hex (m ++ (x ∷ [])) ≡ hex m ++ (hex_digit (x / 16) ∷ hex_digit (x % 16) ∷ [])
unfolding hex
hex-snoc [] x = refl
hex-snoc (y ∷ m) x = ap (λ (l : List ℕ). hex_digit (y / 16) ∷ hex_digit (y % 16) ∷ l) (hex-snoc m x)

pub hex_more : (m : List ℕ) (i : ℕ) → i < length m
    → hex (take (i + 1) m) ≡ hex (take i m) ++ (hex_digit (get_or m i 0 / 16) ∷ hex_digit (get_or m i 0 % 16) ∷ [])
hex_more m i h = rw add-one (ap hex (take-suc m i 0 h) ∙ hex-snoc (take i m) (get_or m i 0))
