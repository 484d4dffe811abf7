-- Each return is one outcome of the definition.
use Rattle.std.proofs.Common.{◌≡◌, sym, ap, ◌∙◌, arith}
use Rattle.buffer.specs.Entries.{size}
use Rattle.erasure.specs.Coding.{share_length}
use Rattle.erasure.specs.Rebuild.{other, message}
use Rattle.erasure.proofs.Frame.{stated-inside, stated-rest, stated-body}
use Rattle.erasure.proofs.Outcomes.{unframed-tiny, unframed-over, unframed-stated, unframed-filled, unframed-found}
use Rattle.erasure.proofs.message_in.Goals as goal

pub returns-then-frame-lt2 : goal.returns-then-frame-lt2
returns-then-frame-lt2 c = unframed-tiny c.args.b c.args.s c.args.frame.now c.if-frame-lt2.true

pub returns-then-len-gt-MAX_MESSAGE : goal.returns-then-len-gt-MAX_MESSAGE
unfolding size
returns-then-len-gt-MAX_MESSAGE c =
    let read = c.from-len.ensures ∙ c.from_be_bytes.ensures in
    unframed-over c.args.b c.args.s c.args.frame.now c.if-frame-lt2.false (omega (arith, read))

pub returns-then-s-share_length : goal.returns-then-s-share_length
unfolding size
returns-then-s-share_length c =
    let a = c.args in
    let read : c.from-len.result ≡ size a.frame.now = c.from-len.ensures ∙ c.from_be_bytes.ensures in
    unframed-stated a.b a.s a.frame.now c.if-frame-lt2.false (omega (arith, read))
    (λ q. c.if-s-share_length.true (q ∙ ap (share_length a.b) (sym read) ∙ sym c.share_length.ensures))

pub slice_bounds-nonzero-count : goal.slice_bounds-nonzero-count
unfolding size
slice_bounds-nonzero-count c =
    let a = c.args in
    stated-inside a.b a.s c.from-len.result a.frame.now c.requires.0 c.requires.2 (c.from-len.ensures ∙ c.from_be_bytes.ensures)
    (c.if-s-share_length.false ∙ c.share_length.ensures)

pub slice_bounds-nonzero-start : goal.slice_bounds-nonzero-start
unfolding size
slice_bounds-nonzero-start c =
    let a = c.args in
    omega (
      arith,
      stated-inside a.b a.s c.from-len.result a.frame.now c.requires.0 c.requires.2 (c.from-len.ensures ∙ c.from_be_bytes.ensures)
          (c.if-s-share_length.false ∙ c.share_length.ensures),
    )

pub returns-then-nonzero : goal.returns-then-nonzero
unfolding size
returns-then-nonzero c =
    let a = c.args in
    let f = a.frame.now in
    let read : c.from-len.result ≡ size f = c.from-len.ensures ∙ c.from_be_bytes.ensures in
    let stated : a.s ≡ share_length a.b c.from-len.result = c.if-s-share_length.false ∙ c.share_length.ensures in
    unframed-filled a.b a.s f c.if-frame-lt2.false (omega (arith, read)) (stated ∙ ap (share_length a.b) read)
    (ap (other 0) (sym (stated-rest a.b a.s c.from-len.result f c.requires.0 c.requires.2 read stated))
    ∙ sym c.nonzero.ensures ∙ c.if-nonzero.true)

pub slice_bounds-result-end : goal.slice_bounds-result-end
unfolding size
slice_bounds-result-end c =
    let a = c.args in
    omega (
      arith,
      stated-inside a.b a.s c.from-len.result a.frame.now c.requires.0 c.requires.2 (c.from-len.ensures ∙ c.from_be_bytes.ensures)
          (c.if-s-share_length.false ∙ c.share_length.ensures),
    )

pub returns : goal.returns
unfolding size
returns c =
    let a = c.args in
    let f = a.frame.now in
    let read : c.from-len.result ≡ size f = c.from-len.ensures ∙ c.from_be_bytes.ensures in
    let stated : a.s ≡ share_length a.b c.from-len.result = c.if-s-share_length.false ∙ c.share_length.ensures in
    unframed-found a.b a.s f c.if-frame-lt2.false (omega (arith, read)) (stated ∙ ap (share_length a.b) read)
    (ap (other 0) (sym (stated-rest a.b a.s c.from-len.result f c.requires.0 c.requires.2 read stated))
    ∙ sym c.nonzero.ensures ∙ c.if-nonzero.false)
    ∙ ap message (stated-body a.b a.s c.from-len.result f c.requires.0 c.requires.2 read stated)
