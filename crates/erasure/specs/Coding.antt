-- Frame, blocks and shares of a message (document 01, "Field, shares, tree"; its book is the message). b is at least 1.
-- Assumes nothing.
use Rattle.std.specs.Prelude.{cond, not, List, [], ◌∷◌, ◌++◌, ℕ, zero, suc, ◌+◌, ◌-◌, ◌*◌, ◌/◌, ◌%◌, ltb, eqb, length, get_or, take, drop, replicate}
use Rattle.limits.specs.Limits.{max_message, group_cause}
use Rattle.buffer.specs.Splice.{tabulate}
use Rattle.polynomial.specs.Polynomial.{value}
use Rattle.erasure.specs.Bytes.{bytes}
use Rattle.buffer.specs.Given.{Given, gave, written}
use Rattle.buffer.specs.Given.{Refused}

-- s = ceil((L + 2) / b)
unfoldable pub share_length : ℕ → ℕ → ℕ
share_length b l = (l + 2 + (b - 1)) / b

-- L in two bytes, and the message
unfoldable pub headed : List ℕ → List ℕ
headed m = length m / 256 ∷ length m % 256 ∷ m

-- the frame: L in two bytes, the message, zeros up to b·s bytes
unfoldable pub frame : ℕ → List ℕ → List ℕ
frame b m = headed m ++ replicate (b * share_length b (length m) - (length m + 2)) 0

-- block k is frame bytes k·s to k·s + s - 1
unfoldable pub block : ℕ → List ℕ → ℕ → List ℕ
block s f k = take s (drop (k * s) f)

-- share j, byte c: the sum over k of block k's byte c times j to the power k
unfoldable pub share_byte : ℕ → ℕ → List ℕ → ℕ → ℕ → ℕ
share_byte b s f j c = value bytes b (λ k. get_or (block s f k) c 0) j

-- share j of a frame of b blocks of s bytes
unfoldable pub share_of : ℕ → ℕ → List ℕ → ℕ → List ℕ
share_of b s f j = tabulate s (share_byte b s f j)

-- share j of a message
unfoldable pub share : ℕ → ℕ → List ℕ → List ℕ
share b j m = share_of b (share_length b (length m)) (frame b m) j

-- shares 1 to n, one behind the other
unfoldable pub shares : ℕ → ℕ → List ℕ → List ℕ
shares zero b m = []
shares (suc n) b m = shares n b m ++ share b (suc n) m

-- the shares of a message in a lent buffer: causes 1 and 2, then 4, then 9
unfoldable pub encode_of : ℕ → ℕ → List ℕ → List ℕ → Given
encode_of n t m out =
    cond (not (eqb (group_cause n t) 0)) (gave (Refused (group_cause n t)) out)
    (cond (ltb max_message (length m)) (gave (Refused 4) out)
    (written (shares n (n - t) m) out))
