-- `plan::walk` meets its contract: at every turn it is the walk of the numbers so far. Assumes nothing.
use Rattle.std.proofs.Common.{◌∙◌, sym, arith, Some, None}
use Rattle.plan.proofs.Walks.{walk_start, walk-past, walk_step, walk-stops}
use Rattle.plan.proofs.walk.Goals as goal
use Rattle.plan.proofs.walk.Goals.{then-takes+in_ok-rest, else-takes}

pub loop-p-init : goal.loop-p-init
loop-p-init g c = λ test f t s. walk_start test f _

pub returns-in_err-rest : goal.returns-in_err-rest
returns-in_err-rest g c = λ test f t s.
    rw c.from_residual.ensures
    (walk-stops test f _ c.loop-p.p c.args.k (omega arith) _ (c.loop-p.invariant test f t s) (sym (t _ _ c.takes.ensures) ∙ c.if-takes.true)
    (s _ None (rw c.in_err-rest.was at c.step.ensures)))

pub loop-p-preserved : goal.loop-p-preserved
loop-p-preserved g c = λ test f t s.
    let before = c.loop-p.invariant test f t s in
    elim c.if-takes.branch [
      | then-takes+in_ok-rest w ↦ rw w.rest-is
          (walk_step test f _ c.loop-p.p _ before (sym (t _ _ c.takes.ensures) ∙ w.if-takes.true) ∙ s _ (Some _) (rw w.in_ok-rest.was at w.step.ensures))
      | else-takes w ↦ rw w.rest-is (walk-past test f _ c.loop-p.p _ before (sym (t _ _ c.takes.ensures) ∙ w.if-takes.false))
    ]
