-- `sha256::schedule` meets its contract: after t words the first t are those of the definition. Assumes nothing.
use Rattle.std.proofs.Common.{arith, length-set}
use Rattle.sha256.proofs.Steps.{schedule_later}
use Rattle.sha256.proofs.schedule.Goals as goal

pub loop-t-preserved : goal.loop-t-preserved
loop-t-preserved c =
    let l = c.loop-t in (
      simp length-set l.invariant.0,
      schedule_later l.w c.args.block.now l.t _ (omega arith) (omega arith) l.invariant.1 c.later_word.ensures,
    )
