-- After each turn the blocks passed have their multiple of the share, and the others are as they were.
use Rattle.std.proofs.Common.{◌≡◌, ℕ, ◌+◌, ◌-◌, ◌*◌, ◌≤◌, length, get_or, take, drop, ap, ◌∙◌, arith}
use Rattle.std.specs.Int.Bits.{bit_xor}
use native.Mathlib.Decide.{ℕ_discrete}
use native.Mathlib.Nat.{le_refl}
use Rattle.buffer.proofs.Parts.{length_part}
use Rattle.buffer.proofs.Rows.{row_inside}
use Rattle.gf256.specs.Field.{product}
use Rattle.erasure.proofs.Arrays.{inside, put-inside, put-below, put-above, part-byte}
use Rattle.erasure.proofs.add_share.Goals as goal

pub loop-k-preserved : goal.loop-k-preserved
loop-k-preserved c =
    let a = c.args in
    let s = length a.share.now in
    let l = c.loop-k in
    let k = l.k in
    let at = k * s in
    let f = l.frame in
    let n = at + s - at in
    let count : n ≡ s = omega arith in
    let fits : at + n ≤ length f = omega (arith, row_inside (length a.coefficients.now) k s c.loop-k-test.true) in
    let part : length (take n (drop at f)) ≡ n = length_part f at n fits in
    let long : length c.add_multiple.new.block ≡ n = c.add_multiple.auto.block ∙ part in
    let e = c.add_multiple.ensures in (
      λ q i h g. elim (ℕ_discrete q k) [
        | yes same ↦ rw same
            (put-inside at n f c.add_multiple.new.block long fits i (omega arith) ∙ e i (omega arith)
            ∙ ap (λ (x : ℕ). bit_xor x (product (get_or a.coefficients.now k 0) (get_or a.share.now i 0)))
            (part-byte f at s i g ∙ l.invariant.1 k i (le_refl k) g))
        | no other ↦ put-below at n f c.add_multiple.new.block long fits (q * s + i) (inside k s q i (omega arith) g) ∙ l.invariant.0 q i (omega arith) g
      ],
      λ q i h g. put-above at n f c.add_multiple.new.block long fits (q * s + i) (omega (arith, row_inside q k s (omega arith)))
          ∙ l.invariant.1 q i (omega arith) g,
    )
