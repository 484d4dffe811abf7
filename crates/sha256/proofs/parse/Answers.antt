-- `sha256::parse` meets its contract: after t turns the first t words are there. Assumes nothing.
use Rattle.std.proofs.Common.{refl, arith, length-set, rules}
use Rattle.sha256.specs.Sha256.{schedule}
use Rattle.sha256.proofs.Steps.{schedule_first}
use Rattle.sha256.proofs.parse.Goals as goal

pub loop-t-init : goal.loop-t-init
unfolding schedule
loop-t-init c = (refl, refl)

pub loop-t-preserved : goal.loop-t-preserved
loop-t-preserved c =
    let l = c.loop-t in (
      simp length-set l.invariant.0,
      schedule_first l.w c.args.block.now _ l.t _ (search rules) c.as_chunks.ensures.front c.loop-t-test.true c.as_chunks.ensures.front_len
          (omega arith) l.invariant.1 c.from_be_bytes.ensures,
    )
