-- `Agreed::advance` meets its contract: what the step wrote, kept in the slot. Assumes nothing.
use Rattle.std.proofs.Common.{◌≡◌, ℕ, length, take, sym, ap, ◌∙◌, arith}
use lib.Seq.{length-take-le}
use Rattle.buffer.specs.Splice.{spliced}
use Rattle.buffer.proofs.Splice.{put-fits}
use Rattle.party.specs.Steps.{Stepped}
use Rattle.session.specs.Session.{sent_length, wrote_in}
use Rattle.session.proofs.Wrote.{step_room}
use Rattle.session.proofs.Agreed.advance.Goals as goal

pub slice_bounds-out-end : goal.slice_bounds-out-end
slice_bounds-out-end c =
    let a = c.args in
    omega (
      arith,
      c.sent_len-len.ensures,
      step_room a.step a.self.now.play.bytes.now a.q,
      ap (λ (r : Stepped). sent_length r.answer) c.take_step-answer.ensures,
      c.take_step-answer.auto.out,
    )

pub slice_bounds-put-end : goal.slice_bounds-put-end
slice_bounds-put-end c =
    let a = c.args in
    sym (length-take-le c.sent_len-len.result _ (omega (
      arith,
      c.sent_len-len.ensures,
      step_room a.step a.self.now.play.bytes.now a.q,
      ap (λ (r : Stepped). sent_length r.answer) c.take_step-answer.ensures,
      c.take_step-answer.auto.out,
    )))

pub returns : goal.returns
returns c =
    let a = c.args in
    let s = a.self.now.play.bytes.now in
    let o = c.take_step-answer.new.out in
    let len = c.sent_len-len.result in
    let room = step_room a.step s a.q in
    let told = ap (λ (r : Stepped). sent_length r.answer) c.take_step-answer.ensures in
    let size : length (take len o) ≡ len = length-take-le len o (omega (arith, c.sent_len-len.ensures, room, told, c.take_step-answer.auto.out)) in
    let e = ap (λ (k : ℕ). take k o) c.sent_len-len.ensures ∙ ap wrote_in c.take_step-answer.ensures in (
      ap (λ (r : Stepped). r.state) c.take_step-answer.ensures,
      sym size ∙ ap length e,
      omega (arith, c.sent_len-len.ensures, room, told),
      c.put.ensures.1 ∙ put-fits a.slot.now 0 (take len o) (omega (arith, size, c.sent_len-len.ensures, room, told, c.requires.4)) ∙ ap (spliced a.slot.now 0) e,
    )
