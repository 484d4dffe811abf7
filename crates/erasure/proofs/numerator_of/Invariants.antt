use Rattle.std.proofs.Common.{◌≡◌, ℕ, ◌<◌, get_or}
use Rattle.limits.specs.Limits.{max_parties}
use Rattle.polynomial.specs.Polynomial.{numerator}
use Rattle.erasure.specs.Bytes.{bytes}
use Rattle.erasure.specs.Arrays.{number_of}
use Rattle.erasure.proofs.numerator_of.Given as goal

abbrev pub invariant-loop-m : goal.invariant-loop-m
invariant-loop-m l = (k : ℕ) → k < max_parties → get_or l.w k 0 ≡ numerator bytes l.m (number_of l.shares) l.i k
