-- The share holds the value of the blocks from k on, by Horner's rule.
use Rattle.std.proofs.Common.{◌≡◌, ℕ, ◌+◌, ◌-◌, ◌*◌, length, get_or, sym, ap, ap₂, ◌∙◌, arith}
use Rattle.std.specs.Int.Bits.{bit_xor}
use lib.Seq.{take_all}
use Rattle.gf256.specs.Field.{product}
use Rattle.polynomial.specs.Polynomial.{value, sum}
use Rattle.erasure.specs.Bytes.{bytes}
use Rattle.erasure.specs.Coding.{block, share_byte, share_of}
use Rattle.erasure.proofs.Arrays.{all-zero, take-table, share-more, share-all, part-byte}
use Rattle.erasure.proofs.write_share.Goals as goal

pub loop-k-init : goal.loop-k-init
unfolding value sum
loop-k-init c =
    let a = c.args in
    let s = length a.share.now in
    let none : a.b - a.b ≡ 0 = omega arith in (
      c.fill.ensures.len,
      λ i h. ap (λ l. get_or l i 0) (c.fill.ensures.after (λ y e. e)) ∙ all-zero s i
          ∙ sym (ap (λ (n : ℕ). value bytes n (λ q. get_or (block s a.frame.now (a.b + q)) i 0) a.j) none),
    )

pub loop-k-preserved : goal.loop-k-preserved
loop-k-preserved c =
    let a = c.args in
    let s = length a.share.now in
    let f = a.frame.now in
    let l = c.loop-k in
    let k = l.k - 1 in
    let back : k + 1 ≡ l.k = omega arith in
    let more : a.b - l.k + 1 ≡ a.b - k = omega arith in (
      c.add_block.auto.row ∙ l.invariant.0,
      λ i h. c.add_block.ensures i (omega arith)
          ∙ ap (λ (x : ℕ). bit_xor x (product a.j (get_or l.share i 0))) (part-byte f (k * s) s i h)
          ∙ share-more f s i a.j (λ i. (c.type_inv.frame i).fits) c.ranges.j.fits h k (a.b - l.k) (get_or l.share i 0)
          (l.invariant.1 i h ∙ ap (λ (q : ℕ). value bytes (a.b - l.k) (λ n. get_or (block s f (q + n)) i 0) a.j) (sym back))
          ∙ ap (λ (n : ℕ). value bytes n (λ q. get_or (block s f (k + q)) i 0) a.j) more,
    )

pub returns : goal.returns
unfolding share_of
returns c =
    let a = c.args in
    let s = length a.share.now in
    let l = c.loop-k in
    let last : l.k ≡ 0 = omega arith in
    let all : a.b - l.k ≡ a.b = omega arith in
    sym (take_all s l.share (omega arith))
    ∙ take-table l.share s (share_byte a.b s a.frame.now a.j) (omega arith)
    (λ i h. l.invariant.1 i h
    ∙ ap₂ (λ (n k : ℕ). value bytes n (λ q. get_or (block s a.frame.now (k + q)) i 0) a.j) all last
    ∙ share-all a.frame.now a.b s i a.j)
