use Rattle.std.proofs.Common.{◌≡◌, ℕ, ◌+◌, ◌*◌, ◌<◌, length, get_or}
use Rattle.limits.specs.Limits.{max_parties, max_share}
use Rattle.gf256.specs.Field.{product}
use Rattle.polynomial.specs.Polynomial.{sum, basis}
use Rattle.erasure.specs.Bytes.{bytes}
use Rattle.erasure.specs.Rebuild.{point}
use Rattle.erasure.specs.Arrays.{points, number_of}
use Rattle.erasure.proofs.whole_frame.Given as goal

abbrev pub invariant-loop-m : goal.invariant-loop-m
invariant-loop-m l =
    (length l.frame ≡ max_share + max_parties)
    × ((k c : ℕ) → k < l.b → c < l.s → get_or l.frame (k * l.s + c) 0
    ≡ sum bytes l.m (λ q. product (basis bytes l.b (number_of l.shares) q k) (get_or (point (points l.shares) q).share c 0)))
