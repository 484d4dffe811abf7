use Rattle.std.proofs.Common.{◌≡◌, ◌-◌}
use Rattle.buffer.specs.Entries.{entry_at}
use Rattle.buffer.proofs.entry_at.Given as goal

abbrev pub invariant-loop : goal.invariant-loop
invariant-loop l = entry_at l.j l.s ≡ entry_at (l.j - l.counter) l.rest
