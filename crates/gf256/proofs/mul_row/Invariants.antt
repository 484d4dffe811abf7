use mathlib.Core.List.{◌++◌, map}
use Rattle.std.proofs.Common.{◌≡◌, take, drop}
use Rattle.gf256.specs.Field.{product}
use Rattle.gf256.proofs.mul_row.Given as goal

abbrev pub invariant-loop-x : goal.invariant-loop-x
invariant-loop-x l = l.row ≡ map (product l.a) (take l.x-index l.initial.row) ++ drop l.x-index l.initial.row
