-- After each turn the product of the factors so far is that over the shares passed.
use Rattle.std.proofs.Common.{◌≡◌, ℕ, length, get_or, refl, sym, ap, ap₂, ◌∙◌, arith, length-set, length-take-le}
use Rattle.std.specs.Int.Bits.{bit_xor}
use Rattle.gf256.specs.Field.{product}
use Rattle.polynomial.specs.Polynomial.{denominator}
use Rattle.erasure.specs.Bytes.{bytes}
use Rattle.erasure.specs.Arrays.{number_of}
use Rattle.erasure.proofs.Lagrange.{product-more, denominator-skip, denominator-more}
use Rattle.erasure.proofs.Points.{none, number_at}
use Rattle.erasure.proofs.denominator_of.Goals as goal
use Rattle.erasure.proofs.denominator_of.Goals.{then-m-i, else-m-i}

pub loop-m-init : goal.loop-m-init
unfolding denominator
loop-m-init c = (omega arith, refl, refl)

pub loop-m-preserved : goal.loop-m-preserved
loop-m-preserved c =
    let l = c.loop-m in
    let i = c.args.i in
    let xs = c.args.shares.now in
    let x : ℕ → ℕ = number_of xs in
    let y = bit_xor (get_or xs i none).number (get_or xs l.m none).number in
    let e : y ≡ bit_xor (x i) (x l.m) =
    ap₂ bit_xor (sym (number_at xs i c.requires.1)) (sym (number_at xs l.m c.loop-m-test.true)) in
    elim c.if-m-i.branch [
      | then-m-i w ↦ rw (w.factors-is, w.len-is) (
        omega arith,
        length-set l.factors l.len y ∙ l.invariant.1,
        product-more l.factors l.len y (omega arith) ∙ ap₂ product l.invariant.2 e
            ∙ sym (denominator-more bytes l.m x i w.if-m-i.true),
      )
      | else-m-i w ↦ rw (w.factors-is, w.len-is) (
        omega arith,
        l.invariant.1,
        l.invariant.2 ∙ sym (denominator-skip bytes l.m x i w.if-m-i.false),
      )
    ]

pub slice_bounds-row_product-end : goal.slice_bounds-row_product-end
slice_bounds-row_product-end c = sym (length-take-le _ _ (omega arith))

pub returns : goal.returns
returns c =
    let l = c.loop-m in
    let e : l.m ≡ length c.args.shares.now = omega arith in
    c.row_product.ensures ∙ l.invariant.2 ∙ ap (λ n. denominator bytes n (number_of c.args.shares.now) c.args.i) e
