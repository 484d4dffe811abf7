use Rattle.std.proofs.Common.{◌≡◌, ◌-◌}
use Rattle.buffer.specs.Entries.{fills}
use Rattle.buffer.proofs.laid_out.Given as goal

abbrev pub invariant-loop : goal.invariant-loop
invariant-loop l = fills l.n l.s ≡ fills (l.n - l.counter) l.rest
