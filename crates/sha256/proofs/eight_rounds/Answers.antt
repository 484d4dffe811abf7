-- `sha256::eight_rounds` meets its contract: a round more at each turn. Assumes nothing.
use Rattle.sha256.proofs.Steps.{rounds_more}
use Rattle.sha256.proofs.eight_rounds.Goals as goal

pub loop-j-preserved : goal.loop-j-preserved
loop-j-preserved c = λ first e.
    rounds_more c.loop-j.j c.args.k.now c.args.w.now first _ _ c.requires.0 (c.loop-j.invariant first e) c.round-v.ensures
