use Rattle.std.proofs.Common.{◌≡◌, ◌*◌}
use Rattle.sha256.specs.Sha256.{rounds}
use Rattle.sha256.proofs.rounds.Given as goal

abbrev pub invariant-loop-i : goal.invariant-loop-i
invariant-loop-i l = l.v ≡ rounds (8 * l.i) l.w l.initial.v
