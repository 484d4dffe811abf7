use Rattle.std.proofs.Common.{◌≡◌, ◌-◌, ◌/◌, ◌^◌}
use Rattle.gf256.specs.Field.{product_of}
use Rattle.gf256.proofs.mul_bits.Given as goal

abbrev pub invariant-loop-k : goal.invariant-loop-k
invariant-loop-k l = l.total ≡ product_of (8 - l.k) l.b (l.a / 2 ^ l.k)
