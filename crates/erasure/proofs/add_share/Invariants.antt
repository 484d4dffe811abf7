use Rattle.std.proofs.Common.{◌≡◌, ℕ, ◌+◌, ◌*◌, ◌≤◌, ◌<◌, get_or}
use Rattle.std.specs.Int.Bits.{bit_xor}
use Rattle.gf256.specs.Field.{product}
use Rattle.erasure.proofs.add_share.Given as goal

abbrev pub invariant-loop-k : goal.invariant-loop-k
invariant-loop-k l =
    ((q c : ℕ) → q < l.k → c < l.s → get_or l.frame (q * l.s + c) 0
    ≡ bit_xor (get_or l.initial.frame (q * l.s + c) 0) (product (get_or l.coefficients q 0) (get_or l.share c 0)))
    × ((q c : ℕ) → l.k ≤ q → c < l.s → get_or l.frame (q * l.s + c) 0 ≡ get_or l.initial.frame (q * l.s + c) 0)
