-- `Agreed::play` meets its contract: the lines stand at the start of the text, and the last line behind them. Assumes nothing.
use mathlib.Core.Path.{ap, ◌∙◌}
use Prim.Native.Nat.{◌-◌}
use native.Mathlib.Omega.{arith}
use Rattle.sha256.specs.Sha256.{sha256}
use lib.ListN.{length, take, drop}
use Rattle.report.specs.Output.{sent_line}
use Rattle.cause.specs.Cause.{number}
use Rattle.buffer.specs.Given.{said}
use Rattle.buffer.proofs.Splice.{length-spliced}
use Rattle.session.proofs.Text.{sent-short, sent-written, given-at, take_behind, output-is}
use Rattle.session.proofs.Agreed.play.Goals as goal

pub overflow_add-result : goal.overflow_add-result
overflow_add-result c =
    let o = c.put_lines-at.new.text in
    let at = c.put_lines-at.result in
    let x = c.sent_all-sent.result in
    let g = given-at o (sent_line x) at (said c.sent_line.result) _ (omega (arith, sent-short x, c.put_lines-at.ensures.0))
    (c.sent_line.ensures ∙ sent-written x (take (length o - at) (drop at o))) in
    omega (arith, c.value_of.ensures number ∙ g.0, sent-short x, c.put_lines-at.ensures.0, c.put_lines-at.auto.text, c.requires.1)

pub returns : goal.returns
returns c =
    let o = c.put_lines-at.new.text in
    let at = c.put_lines-at.result in
    let x = c.sent_all-sent.result in
    let z = c.put_lines-at.ensures in
    let g = given-at o (sent_line x) at (said c.sent_line.result) _ (omega (arith, sent-short x, z.0))
    (c.sent_line.ensures ∙ sent-written x (take (length o - at) (drop at o))) in
    let e = c.value_of.ensures number ∙ g.0 in (
      omega (arith, e, sent-short x, z.0, ap length g.1, length-spliced o at (sent_line x) (omega (arith, sent-short x, z.0))),
      take_behind o _ (sent_line x) at c.value_of.result (omega (arith, z.0)) e g.1
          ∙ output-is sha256 c.args.self.now.play.bytes.now (take at o) x z.1 c.sent_all-sent.ensures,
    )
