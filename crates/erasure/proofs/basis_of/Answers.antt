-- The numerator, each coefficient times the inverse of the denominator.
use Rattle.std.proofs.Common.{rules, ℕ, ◌<◌, get_or, ap, ap₂, ◌∙◌}
use Rattle.gf256.specs.Field.{product, inverse}
use Rattle.gf256.proofs.Laws.{product-comm}
use Rattle.polynomial.specs.Polynomial.{basis}
use Rattle.erasure.proofs.Lagrange.{scaled_row}
use Rattle.erasure.proofs.basis_of.Goals as goal

pub returns : goal.returns
unfolding basis
returns c = λ k h.
    let w = c.numerator_of-w.result in
    let d = c.inv-d.result in
    let small : (i : ℕ) → get_or w i 0 < 256 = λ i. search rules in
    ap (λ v. get_or v k 0) c.mul_row.ensures ∙ scaled_row d w k
    ∙ product-comm d (get_or w k 0) c.inv-d.type_inv (small k)
    ∙ ap₂ product (c.numerator_of-w.ensures k h) (c.inv-d.ensures ∙ ap inverse c.denominator_of.ensures)
