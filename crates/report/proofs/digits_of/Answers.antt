-- `report::digits_of` meets its contract: the number's digits are those of what is left, and behind them those that are written.
-- Assumes nothing.
use Rattle.std.proofs.Common.{arith, length-set}
use Rattle.report.proofs.Decimals.{digits_none, digits_more, digits_done}
use Rattle.report.proofs.digits_of.Goals as goal

pub returns-then-left-eq0 : goal.returns-then-left-eq0
returns-then-left-eq0 c =
    let l = c.loop-from in (
      omega arith,
      digits_done _ _ l.from l.left l.invariant.1 _ (omega arith) (omega arith) c.if-left-eq0.true,
    )

pub loop-from-preserved : goal.loop-from-preserved
loop-from-preserved c =
    let l = c.loop-from in
    (simp length-set l.invariant.0, digits_more _ _ l.from l.left l.invariant.1 _ (omega arith) (omega arith) c.if-left-eq0.false)

pub returns : goal.returns
returns c =
    let l = c.loop-from in
    (omega arith, digits_none _ _ l.from l.left l.invariant.1 (omega arith))
