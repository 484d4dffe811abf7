use Rattle.std.proofs.Common.{◌≡◌}
use Rattle.buffer.specs.Splice.{spliced}
use Rattle.erasure.specs.Arrays.{shares_of}
use Rattle.erasure.proofs.write_shares.Given as goal

abbrev pub invariant-loop-j : goal.invariant-loop-j
invariant-loop-j l = l.out ≡ spliced l.initial.out 0 (shares_of l.j l.b l.s l.frame)
