-- The output of a rehearsal, in bytes: a line for each good party and one for what they sent, each with a newline at its end.
-- Assumes nothing.
use Rattle.std.specs.Prelude.{Bool, true, false, cond, List, [], ◌∷◌, ◌++◌, ℕ, zero, suc, ◌+◌, ◌-◌, ◌/◌, ◌%◌, ltb, length}
use Rattle.limits.specs.Limits.{max_message}
use Rattle.buffer.specs.Given.{Given, gave, written}
use Rattle.buffer.specs.Given.{Refused}

abbrev pub space : ℕ
space = 0x20

abbrev pub newline : ℕ
newline = 0x0A

-- a number in decimal; a number below 2^64 has at most twenty digits
unfoldable pub digits : ℕ → ℕ → List ℕ
digits zero x = []
digits (suc k) x = cond (ltb x 10) [] (digits k (x / 10)) ++ ((0x30 + x % 10) ∷ [])

abbrev pub decimal : ℕ → List ℕ
decimal x = digits 20 x

-- a byte as two lower-case hexadecimal digits, and bytes, concatenated
abbrev pub hex_digit : ℕ → ℕ
hex_digit x = cond (ltb x 10) (0x30 + x) (0x61 + (x - 10))

unfoldable pub hex : List ℕ → List ℕ
hex [] = []
hex (x ∷ xs) = hex_digit (x / 16) ∷ hex_digit (x % 16) ∷ hex xs

-- whether there is a message, and the message: `-` for none; `=`, and for one that is not empty a space and the message
abbrev pub shown : Bool → List ℕ → List ℕ
shown false m = 0x2D ∷ []
shown true [] = 0x3D ∷ []
shown true (x ∷ xs) = 0x3D ∷ space ∷ hex (x ∷ xs)

-- what follows the number
abbrev pub ending : Bool → List ℕ → List ℕ
ending some m = space ∷ (shown some m ++ (newline ∷ []))

unfoldable pub line : ℕ → Bool → List ℕ → List ℕ
line p some m = decimal p ++ ending some m

-- `sent` and the bytes
unfoldable pub sent_line : ℕ → List ℕ
sent_line x = 0x73 ∷ 0x65 ∷ 0x6E ∷ 0x74 ∷ space ∷ (decimal x ++ (newline ∷ []))

-- `refused` and the cause, alone
unfoldable pub refused_line : ℕ → List ℕ
refused_line x = 0x72 ∷ 0x65 ∷ 0x66 ∷ 0x75 ∷ 0x73 ∷ 0x65 ∷ 0x64 ∷ space ∷ (decimal x ++ (newline ∷ []))

-- a line in a lent buffer: cause 4 for a message over its limit, then 9
unfoldable pub line_of : ℕ → Bool → List ℕ → List ℕ → Given
line_of p some m out = cond (ltb max_message (length m)) (gave (Refused 4) out) (written (line p some m) out)

unfoldable pub sent_line_of : ℕ → List ℕ → Given
sent_line_of x out = written (sent_line x) out

unfoldable pub refused_line_of : ℕ → List ℕ → Given
refused_line_of x out = written (refused_line x) out
