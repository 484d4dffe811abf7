-- `Gift::handed` meets its contract: to the sender its book, to another one what a good sender wrote, or what the plan says. Assumes nothing.
use Rattle.std.proofs.Common.{List, ℕ, take, sym, ap, ◌∙◌, arith}
use Rattle.sha256.specs.Sha256.{sha256}
use Rattle.cause.specs.Cause.{number}
use Rattle.buffer.specs.Given.{said}
use Rattle.buffer.proofs.Parts.{part-rest}
use Rattle.plan.specs.Plan.{block_given}
use Rattle.session.proofs.Openings.{handed-own, handed-good, handed-bad}
use Rattle.session.proofs.Rule.{known, taken, packets-room, sender-good, block-told}
use Rattle.session.proofs.Gift.handed.Goals as goal

pub returns-then-q-sender : goal.returns-then-q-sender
returns-then-q-sender c =
    let g = c.args.self.now in
    let p = g.play in
    let r = c.book.ensures in (
      omega (arith, r.0, c.book.auto.out, c.requires),
      r.1 ∙ sym (handed-own p.bytes.now (taken p) sha256 c.args.q (c.if-q-sender.true ∙ g.sender_is)),
    )

pub returns-then-is_good : goal.returns-then-is_good
returns-then-is_good c =
    let g = c.args.self.now in
    let p = g.play in
    let r = c.wrote.ensures in (
      omega (arith, r.0, c.wrote.auto.out, c.requires),
      r.1 ∙ sym (handed-good p.bytes.now (taken p) sha256 c.args.q (λ e. c.if-q-sender.false (e ∙ sym g.sender_is))
          (sym (c.is_good.ensures ∙ sender-good _ _ (known p) g.named g.sender g.sender_is) ∙ c.if-is_good.true)),
    )

pub slice_bounds-block-count : goal.slice_bounds-block-count
slice_bounds-block-count c = packets-room _ _ (known c.args.self.now.play)

pub slice_bounds-block-start : goal.slice_bounds-block-start
slice_bounds-block-start c = omega (arith, packets-room _ _ (known c.args.self.now.play))

pub returns : goal.returns
returns c =
    let g = c.args.self.now in
    let p = g.play in
    let s = p.bytes.now in
    let k = known p in
    let q = c.args.q in
    let bad = sym (c.is_good.ensures ∙ sender-good _ _ k g.named g.sender g.sender_is) ∙ c.if-is_good.false in
    let t = block-told s p.parts k g.named bad q c.args.out.now (omega (arith, c.requires)) (said c.block.result) _
    (c.block.ensures ∙ ap (λ (l : List ℕ). block_given p.parts.n q l c.args.out.now) (part-rest s p.parts.packets)) in
    let v = c.value_of.ensures number in (
      omega (arith, v, t.0),
      ap (λ (i : ℕ). take i c.block.new.out) v ∙ t.1
          ∙ sym (handed-bad s (taken p) sha256 q (λ e. c.if-q-sender.false (e ∙ sym g.sender_is)) bad),
    )
