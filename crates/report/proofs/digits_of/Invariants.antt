use Rattle.std.proofs.Common.{◌≡◌, ◌++◌, length, drop}
use Rattle.report.specs.Output.{digits, decimal}
use Rattle.report.proofs.digits_of.Given as goal

abbrev pub invariant-loop-from : goal.invariant-loop-from
invariant-loop-from l = (length l.bytes ≡ 20) × (decimal l.x ≡ digits l.from l.left ++ drop l.from l.bytes)
