-- `sha256::rounds` meets its contract: no round is done at first, and the constants are the definition's. Assumes nothing.
use Rattle.std.proofs.Common.{refl, arith}
use Rattle.sha256.specs.Sha256.{K, rounds}
use Rattle.sha256.proofs.rounds.Goals as goal

pub loop-i-init : goal.loop-i-init
unfolding rounds
loop-i-init c = refl

pub eight_rounds-v-requires : goal.eight_rounds-v-requires
unfolding K
eight_rounds-v-requires c = (refl, omega arith)
