-- After each turn w has the coefficients of the product over the shares passed.
use Rattle.std.proofs.Common.{ℕ, get_or, sym, ap, ◌∙◌}
use Rattle.limits.specs.Limits.{max_parties}
use Rattle.polynomial.specs.Polynomial.{factor, numerator}
use Rattle.erasure.specs.Bytes.{bytes}
use Rattle.erasure.specs.Arrays.{number_of}
use Rattle.erasure.proofs.Lagrange.{one_unit, factor-below, numerator-skip, numerator-more}
use Rattle.erasure.proofs.Points.{none, number_at}
use Rattle.erasure.proofs.numerator_of.Goals as goal
use Rattle.erasure.proofs.numerator_of.Goals.{then-m-i, else-m-i}

pub loop-m-init : goal.loop-m-init
unfolding numerator
loop-m-init c = λ k l. one_unit max_parties k l

pub loop-m-preserved : goal.loop-m-preserved
loop-m-preserved c = λ k h.
    let l = c.loop-m in
    let i = c.args.i in
    let xs = c.args.shares.now in
    let x : ℕ → ℕ = number_of xs in
    elim c.if-m-i.branch [
      | then-m-i w ↦ ap (λ v. get_or v k 0) w.w-is ∙ w.times_factor.ensures k h
          ∙ factor-below bytes max_parties (get_or xs l.m none).number l.invariant k h
          ∙ ap (λ r. factor bytes r (numerator bytes l.m x i) k) (sym (number_at xs l.m c.loop-m-test.true))
          ∙ sym (numerator-more bytes l.m x i w.if-m-i.true k)
      | else-m-i w ↦ ap (λ v. get_or v k 0) w.w-is ∙ l.invariant k h ∙ sym (numerator-skip bytes l.m x i w.if-m-i.false k)
    ]
