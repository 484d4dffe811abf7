use Rattle.std.proofs.Common.{◌≡◌}
use Rattle.sha256.specs.Sha256.{hash_value}
use Rattle.sha256.proofs.hash_value.Given as goal

abbrev pub invariant-loop-block : goal.invariant-loop-block
invariant-loop-block l = l.h ≡ hash_value l.initial.h l.block-index l.s
