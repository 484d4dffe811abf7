-- `Agreed::result_of` meets its contract: nothing on bit 0, and else what step 5 gave. Assumes nothing.
use Rattle.std.proofs.Common.{ℕ, Option, sym, ap, ◌∙◌, arith}
use Rattle.std.specs.Prelude.{unwrap_or}
use Rattle.sha256.specs.Sha256.{sha256}
use Rattle.party.specs.State.{result_from}
use Rattle.party.specs.Steps.{Stepped}
use Rattle.session.specs.Session.{or_nothing}
use Rattle.session.specs.Private.{message_length}
use Rattle.session.proofs.Text.{ends-zero, ends-later, message-room, some-within, given-from}
use Rattle.session.proofs.Agreed.result_of.Goals as goal

pub returns-then-self-eq0 : goal.returns-then-self-eq0
returns-then-self-eq0 c =
    let p = c.args.self.now in
    (tt, sym (ends-zero sha256 p.play.bytes.now c.args.q (sym p.bit_is ∙ c.if-self-eq0.true)))

pub ended-answer-requires : goal.ended-answer-requires
ended-answer-requires c =
    let p = c.args.self.now in
    let f = c.requires.0 in
    (f.low, f.high, f.state-is (λ h. c.if-self-eq0.false (p.bit_is ∙ h)), f.slots (λ h. c.if-self-eq0.false (p.bit_is ∙ h)), c.requires.1)

pub returns : goal.returns
returns c =
    let p = c.args.self.now in
    let s = p.play.bytes.now in
    let q = c.args.q in
    let e = c.message_len.ensures in (
      some-within _ _ (omega (
        arith,
        ap (λ (l : Option ℕ). unwrap_or l 0) e,
        ap (λ (x : Stepped). message_length x.answer) c.ended-answer.ensures,
        message-room sha256 s q,
      )),
      ap (λ (l : Option ℕ). result_from l c.ended-answer.new.out) e ∙ given-from _ _
          ∙ ap (λ (x : Stepped). or_nothing x.result) c.ended-answer.ensures
          ∙ sym (ends-later sha256 s q (λ h. c.if-self-eq0.false (p.bit_is ∙ h))),
    )
