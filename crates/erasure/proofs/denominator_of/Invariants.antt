use Rattle.std.proofs.Common.{◌≡◌, ◌≤◌, length, take}
use mathlib.Core.List.{foldl}
use Rattle.limits.specs.Limits.{max_parties}
use Rattle.gf256.specs.Field.{product}
use Rattle.polynomial.specs.Polynomial.{denominator}
use Rattle.erasure.specs.Bytes.{bytes}
use Rattle.erasure.specs.Arrays.{number_of}
use Rattle.erasure.proofs.denominator_of.Given as goal

abbrev pub invariant-loop-m : goal.invariant-loop-m
invariant-loop-m l =
    (l.len ≤ l.m) × (length l.factors ≡ max_parties)
    × (foldl product 1 (take l.len l.factors) ≡ denominator bytes l.m (number_of l.shares) l.i)
