-- `session::print` meets its contract: a refused plan's line, or what the rehearsal wrote. Assumes nothing.
use Rattle.std.proofs.Common.{ℕ, Result, Err, sym, ap, ◌∙◌}
use Rattle.sha256.specs.Sha256.{sha256}
use Rattle.cause.specs.declared.Cause.{Cause}
use Rattle.cause.specs.declared.Refusal.{Refusal}
use Rattle.buffer.specs.Given.{said, gave}
use Rattle.report.specs.Output.{refused_line_of}
use Rattle.session.proofs.Shown.{print-refused, print-done, print-short}
use Rattle.session.proofs.print.Goals as goal

pub returns-in-Ok : goal.returns-in-Ok
returns-in-Ok c =
    let a = c.args in
    let o = c.rehearse.new.out in
    print-done sha256 a.bytes.now a.out.now o c.in-Ok.len
    (ap (λ (r : Result ℕ (Refusal Cause)). gave (said r) o) (sym c.in-Ok.is) ∙ c.rehearse.ensures)

pub returns-in-Err-Because : goal.returns-in-Err-Because
returns-in-Err-Because c =
    let a = c.args in
    let o = c.rehearse.new.out in
    c.refused_line.ensures ∙ ap (λ (k : ℕ). refused_line_of k o) (c.from-in-Err-Because.ensures ∙ c.from.ensures)
    ∙ print-refused sha256 a.bytes.now a.out.now o (said c.rehearse.result) c.rehearse.ensures _
    (ap said c.in-Err-Because.is ∙ ap (λ (x : Refusal Cause). said (Err x)) c.in-Err-Because.field-0-is)

pub returns-in-Err-Short : goal.returns-in-Err-Short
returns-in-Err-Short c =
    let a = c.args in
    let o = c.rehearse.new.out in
    print-short sha256 a.bytes.now a.out.now o c.in-Err-Short.len
    (ap (λ (x : Refusal Cause). gave (said (Err x)) o) (sym c.in-Err-Short.field-0-is)
    ∙ ap (λ (r : Result ℕ (Refusal Cause)). gave (said r) o) (sym c.in-Err-Short.is) ∙ c.rehearse.ensures)
