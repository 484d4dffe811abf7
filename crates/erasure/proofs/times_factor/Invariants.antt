use Rattle.std.proofs.Common.{◌≡◌, ℕ, ◌-◌, ◌<◌, ◌≤◌, get_or}
use Rattle.polynomial.specs.Polynomial.{factor}
use Rattle.erasure.specs.Bytes.{bytes}
use Rattle.erasure.proofs.times_factor.Given as goal

abbrev pub invariant-loop-k : goal.invariant-loop-k
invariant-loop-k l =
    ((j : ℕ) → j < l.k → get_or l.w j 0 ≡ factor bytes l.r (λ i. get_or l.initial.w i 0) j)
    × ((j : ℕ) → l.k ≤ j → get_or l.w j 0 ≡ get_or l.initial.w j 0)
    × (l.k ≡ 0 → l.below ≡ 0)
    × (1 ≤ l.k → l.below ≡ get_or l.initial.w (l.k - 1) 0)
