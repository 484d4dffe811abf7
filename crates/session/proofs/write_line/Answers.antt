-- `session::write_line` meets its contract: the text has room for the line. Assumes nothing.
use mathlib.Core.Path.{sym, ap, subst, ◌∙◌}
use mathlib.Core.Bool.{true, false}
use mathlib.Core.List.{List, []}
use Prim.Native.Nat.{ℕ, ◌≤◌}
use native.Mathlib.Omega.{arith}
use lib.ListN.{length}
use denote.Ref.{Bor}
use Rattle.std.specs.Option.{IfSome}
use Rattle.std.specs.Prelude.{Result}
use Rattle.cause.specs.Cause.{number}
use Rattle.cause.specs.declared.Cause.{Cause}
use Rattle.cause.specs.declared.Refusal.{Refusal}
use Rattle.std.specs.declared.option.Option.{Option}
use Rattle.limits.specs.Limits.{max_message}
use Rattle.buffer.specs.Given.{said, value_of}
use Rattle.buffer.specs.Splice.{spliced}
use Rattle.session.specs.Private.{line_for}
use Rattle.session.proofs.Text.{line-given}
use Rattle.session.proofs.write_line.Goals.{in-None, in-Some}
use Rattle.session.proofs.write_line.Goals as goal

pub returns : goal.returns
returns c =
    let a = c.args in
    let o = a.text.now in
    elim c.match-message.branch [
      | in-None w ↦
          let g = line-given a.q false [] o (said w.line.result) w.line.new.out (omega arith) c.requires.1 w.line.ensures in
          let e = ap (line_for a.q) (sym w.in-None.is) in
          let v = c.value_of.ensures number ∙ ap (λ (r : Result ℕ (Refusal Cause)). value_of (said r)) w.value_of-is in
          (v ∙ g.0 ∙ ap length e, omega (arith, v, g.1), w.text-is ∙ g.2 ∙ ap (spliced o 0) e)
      | in-Some w ↦
          let m = w.in-Some.m.now in
          let short = subst (λ (x : Option (Bor (List ℕ))). IfSome x (λ y. length y.now ≤ max_message)) w.in-Some.is c.requires.0 in
          let g = line-given a.q true m o (said w.line-in-Some.result) w.line-in-Some.new.out short c.requires.1 w.line-in-Some.ensures in
          let e = ap (line_for a.q) (sym w.in-Some.is) in
          let v = c.value_of.ensures number ∙ ap (λ (r : Result ℕ (Refusal Cause)). value_of (said r)) w.value_of-is in
          (v ∙ g.0 ∙ ap length e, omega (arith, v, g.1), w.text-is ∙ g.2 ∙ ap (spliced o 0) e)
    ]
