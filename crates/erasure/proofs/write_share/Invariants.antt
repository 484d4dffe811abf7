use Rattle.std.proofs.Common.{◌≡◌, ℕ, ◌+◌, ◌-◌, ◌<◌, length, get_or}
use Rattle.polynomial.specs.Polynomial.{value}
use Rattle.erasure.specs.Bytes.{bytes}
use Rattle.erasure.specs.Coding.{block}
use Rattle.erasure.proofs.write_share.Given as goal

abbrev pub invariant-loop-k : goal.invariant-loop-k
invariant-loop-k l =
    (length l.share ≡ l.s)
    × ((c : ℕ) → c < l.s → get_or l.share c 0 ≡ value bytes (l.b - l.k) (λ i. get_or (block l.s l.frame (l.k + i)) c 0) l.j)
