-- After each turn the shares passed lie well, and are taken.
use Rattle.std.proofs.Common.{◌≡◌, ℕ, List, [], ◌∷◌, ◌++◌, length, refl, ap, ◌∙◌, arith, length-set}
use Rattle.buffer.specs.Splice.{tabulate}
use Rattle.erasure.specs.Rebuild.{parts_at, all_lie}
use Rattle.erasure.proofs.Placed.{one-strays, all-lie-more, parts_more}
use Rattle.erasure.proofs.Points.{slices-set}
use Rattle.erasure.proofs.shares_at.Goals as goal

pub loop-i-init : goal.loop-i-init
unfolding all_lie parts_at tabulate
loop-i-init c = (refl, refl, refl)

pub returns-in_err-each : goal.returns-in_err-each
returns-in_err-each c =
    let a = c.args in
    rw c.from_residual.ensures
    (one-strays (length a.first.now) (length a.second.now) a.places.now (length a.places.now) c.loop-i.i c.loop-i-test.true c.in_err-each.ensures)

pub loop-i-preserved : goal.loop-i-preserved
loop-i-preserved c =
    let l = c.loop-i in
    let a = c.args in
    let e = c.in_ok-each.ensures in (
      length-set _ _ _ ∙ l.invariant.0,
      all-lie-more (length a.first.now) (length a.second.now) a.places.now l.i l.invariant.1 e.0,
      slices-set l.each l.i c.in_ok-each.field-0 (omega arith)
          ∙ ap (λ (R : List (List ℕ)). R ++ (c.in_ok-each.field-0.now ∷ [])) l.invariant.2
          ∙ parts_more (a.first.now ++ a.second.now) a.places.now l.i c.in_ok-each.field-0.now e.1,
    )

pub returns : goal.returns
returns c =
    let i : c.loop-i.i ≡ length c.args.places.now = omega arith in
    (rw i at c.loop-i.invariant.1, rw i at c.loop-i.invariant.2)
