use Rattle.std.proofs.Common.{◌≡◌, ◌+◌, ◌-◌, min}
use Rattle.plan.specs.Layout.{field_bytes}
use Rattle.plan.proofs.field_at.Given as goal

abbrev pub invariant-loop-i : goal.invariant-loop-i
invariant-loop-i l = l.at ≡ 3 + field_bytes (min l.i (l.k - 1)) l.options
