-- After each turn the coefficients passed are those of the product, and the one before stands in `below`.
use Rattle.std.proofs.Common.{◌≡◌, ℕ, ◌+◌, ◌-◌, get_or, sym, ap, ◌∙◌, arith, get_or-set_other}
use Rattle.std.specs.Int.Bits.{bit_xor, xor_zero_l}
use Rattle.polynomial.specs.Polynomial.{factor}
use Rattle.erasure.specs.Bytes.{bytes}
use Rattle.erasure.proofs.Lagrange.{set_next, factor_next, scaled_row}
use Rattle.erasure.proofs.times_factor.Goals as goal

pub loop-k-preserved : goal.loop-k-preserved
loop-k-preserved c =
    let l = c.loop-k in
    let k = l.k in
    let r = c.args.r in
    let p : ℕ → ℕ = λ i. get_or c.args.w.now i 0 in
    let y = bit_xor l.below (get_or c.mul_row.new.row k 0) in
    let here : get_or l.w k 0 ≡ p k = l.invariant.1 k (omega arith) in
    let new : y ≡ factor bytes r p k =
    ap (bit_xor l.below) (ap (λ v. get_or v k 0) c.mul_row.ensures ∙ scaled_row r c.args.w.now k)
    ∙ factor_next bytes r p k l.below (λ a. xor_zero_l a) l.invariant.2 l.invariant.3 in
    let last : k + 1 - 1 ≡ k = omega arith in (
      set_next l.w (factor bytes r p) k y (omega arith) l.invariant.0 new,
      λ i h. get_or-set_other l.w k i y 0 (λ e. omega arith) ∙ l.invariant.1 i (omega arith),
      λ z. absurd (omega arith),
      λ z. here ∙ ap p (sym last),
    )
