use Rattle.std.proofs.Common.{◌≡◌}
use Rattle.sha256.specs.Sha256.{rounds}
use Rattle.sha256.specs.declared.Working.{Working}
use Rattle.sha256.proofs.eight_rounds.Given as goal

abbrev pub invariant-loop-j : goal.invariant-loop-j
invariant-loop-j l = (first : Working) → l.initial.v ≡ rounds l.t l.w first → l.v ≡ rounds l.j l.w first
