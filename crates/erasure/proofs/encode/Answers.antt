-- The causes in their order, and the shares of the frame array.
use Rattle.std.proofs.Common.{◌≡◌, ◌-◌, ◌*◌, length, sym, ap, ap₂, ◌∙◌, arith}
use Rattle.limits.proofs.Group.{group_of}
use Rattle.buffer.specs.Splice.{spliced}
use Rattle.buffer.specs.Given.{gave}
use Rattle.buffer.specs.Given.{Short, Done}
use Rattle.buffer.proofs.Given.{written-short, written-done}
use Rattle.erasure.specs.Coding.{frame, shares}
use Rattle.erasure.specs.Arrays.{shares_of}
use Rattle.erasure.proofs.Arrays.{all-zero, blocks-small, length-shares, shares_of-cong, shares-frame}
use Rattle.erasure.proofs.Frame.{share-high, share-most, get_or-frame}
use Rattle.erasure.proofs.Outcomes.{err-because, encode-refused, encode-long, encode-written}
use Rattle.erasure.proofs.encode.Goals as goal

pub returns-in_err-check_group : goal.returns-in_err-check_group
returns-in_err-check_group c =
    let a = c.args in
    let h = err-because a.n a.t _ _ a.out.now c.in_err-check_group.ensures c.from_residual.ensures.1 in
    h.1 ∙ sym (encode-refused a.n a.t a.message.now a.out.now h.0)

pub returns-then-message-gt-MAX_MESSAGE : goal.returns-then-message-gt-MAX_MESSAGE
returns-then-message-gt-MAX_MESSAGE c =
    let a = c.args in
    let fine = sym c.in_ok-check_group.ensures in
    sym (encode-long a.n a.t a.message.now a.out.now fine c.if-message-gt-MAX_MESSAGE.true)

pub overflow_mul-need : goal.overflow_mul-need
overflow_mul-need c =
    let a = c.args in
    let g = group_of a.n a.t (sym c.in_ok-check_group.ensures) in
    let most = share-most (a.n - a.t) (length a.message.now) (omega (arith, g)) in
    omega (arith, blocks-small a.n c.share_length-s.result g.high (omega (arith, c.share_length-s.ensures, most)))

pub returns-then-out-need : goal.returns-then-out-need
returns-then-out-need c =
    let a = c.args in
    let m = a.message.now in
    let fine = sym c.in_ok-check_group.ensures in
    let need : a.n * c.share_length-s.result ≡ length (shares a.n (a.n - a.t) m) =
    ap (λ s. a.n * s) c.share_length-s.ensures ∙ sym (length-shares a.n (a.n - a.t) m) in
    ap (λ k. gave (Short k) a.out.now) need
    ∙ sym (encode-written a.n a.t m a.out.now fine c.if-message-gt-MAX_MESSAGE.false
    ∙ written-short (shares a.n (a.n - a.t) m) a.out.now (omega (arith, need)))

pub frame_of-requires : goal.frame_of-requires
frame_of-requires c = (c.if-message-gt-MAX_MESSAGE.false, all-zero 3090)

pub write_shares-requires : goal.write_shares-requires
write_shares-requires c =
    let a = c.args in
    let b = a.n - a.t in
    let g = group_of a.n a.t (sym c.in_ok-check_group.ensures) in (
      g.high,
      omega (arith, share-high b (length a.message.now) (omega (arith, g)), ap (λ s. b * s) c.share_length-s.ensures, g),
      c.if-out-need.false,
    )

pub returns : goal.returns
returns c =
    let a = c.args in
    let m = a.message.now in
    let out = a.out.now in
    let b = a.n - a.t in
    let s = c.share_length-s.result in
    let fine = sym c.in_ok-check_group.ensures in
    let need : a.n * s ≡ length (shares a.n b m) = ap (λ s. a.n * s) c.share_length-s.ensures ∙ sym (length-shares a.n b m) in
    let whole : shares_of a.n b s c.frame_of.new.frame ≡ shares a.n b m =
    shares_of-cong a.n b s c.frame_of.new.frame (frame b m) (λ i. c.frame_of.ensures i ∙ sym (get_or-frame b m i))
    ∙ ap (λ s. shares_of a.n b s (frame b m)) c.share_length-s.ensures ∙ sym (shares-frame a.n b m) in
    ap₂ (λ k o. gave (Done k) o) need (c.write_shares.ensures ∙ ap (spliced out 0) whole)
    ∙ sym (encode-written a.n a.t m out fine c.if-message-gt-MAX_MESSAGE.false
    ∙ written-done (shares a.n b m) out (omega (arith, need)))
