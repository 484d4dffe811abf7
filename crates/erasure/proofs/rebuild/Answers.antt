-- The causes of n and t, then of the layout, then what the shares give.
use Rattle.std.proofs.Common.{◌-◌, sym, ap, ◌∙◌}
use Rattle.erasure.specs.Rebuild.{present, recovered, answered}
use Rattle.erasure.proofs.Outcomes.{err-because, rebuild-refused, rebuild-unlaid, rebuild-answered}
use Rattle.erasure.proofs.rebuild.Goals as goal

pub returns-in_err-check_group : goal.returns-in_err-check_group
returns-in_err-check_group c =
    let a = c.args in
    let h = err-because a.n a.t _ _ a.out.now c.in_err-check_group.ensures c.from_residual.ensures.1 in
    h.1 ∙ sym (rebuild-refused a.n a.t a.entries.now a.out.now h.0)

pub returns-then-not-laid_out : goal.returns-then-not-laid_out
returns-then-not-laid_out c =
    let a = c.args in
    sym (rebuild-unlaid a.n a.t a.entries.now a.out.now (sym c.in_ok-check_group.ensures) (sym c.laid_out.ensures ∙ c.if-not-laid_out.true))

pub returns : goal.returns
returns c =
    let a = c.args in
    c.recover.ensures
    ∙ ap (λ l. answered (recovered (a.n - a.t) (present 1 l)) a.out.now) c.shares_in-shares.ensures
    ∙ sym (rebuild-answered a.n a.t a.entries.now a.out.now (sym c.in_ok-check_group.ensures) (sym c.laid_out.ensures ∙ c.if-not-laid_out.false))
