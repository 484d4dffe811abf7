-- After each turn the shares so far are written.
use Rattle.std.proofs.Common.{◌≡◌, ◌+◌, ◌-◌, ◌*◌, ◌≤◌, length, take, drop, refl, sym, ap, ap₂, ◌∙◌, arith}
use Rattle.buffer.specs.Splice.{spliced}
use Rattle.buffer.proofs.Parts.{length_part}
use Rattle.buffer.proofs.Rows.{row_inside}
use Rattle.buffer.proofs.Splice.{spliced-none}
use Rattle.erasure.specs.Coding.{share_of}
use Rattle.erasure.specs.Arrays.{shares_of}
use Rattle.erasure.proofs.Arrays.{shares-more, put-spliced}
use Rattle.erasure.proofs.write_shares.Goals as goal

pub loop-j-init : goal.loop-j-init
unfolding shares_of
loop-j-init c = sym (spliced-none c.args.out.now 0)

pub loop-j-preserved : goal.loop-j-preserved
loop-j-preserved c =
    let a = c.args in
    let l = c.loop-j in
    let at = l.j * a.s in
    let n = at + a.s - at in
    let count : n ≡ a.s = omega arith in
    let fits : at + n ≤ length l.out = omega (arith, row_inside a.n l.j a.s c.loop-j-test.true) in
    let part : length (take n (drop at l.out)) ≡ a.s = length_part l.out at n fits ∙ count in
    put-spliced at n l.out c.write_share.new.share (c.write_share.auto.share ∙ length_part l.out at n fits) fits
    ∙ ap₂ (λ o x. spliced o at x) l.invariant (c.write_share.ensures ∙ ap (λ k. share_of a.b k a.frame.now (l.j + 1)) part)
    ∙ shares-more a.out.now a.frame.now a.b a.s l.j at (l.j + 1) refl refl (omega arith)
