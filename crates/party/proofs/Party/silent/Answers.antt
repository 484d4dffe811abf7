-- `party::Party::silent` meets its contract: both ways out are outcomes of sending zeros. Assumes nothing.
use mathlib.Core.Path.{◌≡◌, sym, ap, ◌∙◌}
use mathlib.Core.List.{List, ◌++◌}
use Prim.Native.Nat.{ℕ, ◌*◌}
use native.Mathlib.Omega.{arith}
use lib.ListN.{drop, replicate, length-replicate}
use lib.Seq.{length-take-le}
use Rattle.buffer.proofs.Splice.{spliced-start}
use Rattle.buffer.specs.Splice.{spliced}
use Rattle.buffer.specs.Given.{gave}
use Rattle.std.specs.Prelude.{Ok, Err}
use Rattle.cause.specs.declared.Refusal.TheVariants.{Short}
use Rattle.buffer.specs.Given as given
use Rattle.buffer.proofs.Given.{written-short, written-done}
use Rattle.party.specs.Steps.{stepped}
use Rattle.party.specs.declared.Reply.{Reply}
use Rattle.party.proofs.Outcomes.{writes-given}
use Rattle.party.proofs.Party.silent.Goals as goal

pub returns-then-out-need : goal.returns-then-out-need
returns-then-out-need c =
    let a = c.args in
    let need = 2 * a.self.seat.n in
    let zeros : List ℕ = replicate need 0 in
    let e = length-replicate {A = ℕ} need 0 in
    ap (λ (r : Reply). stepped r a.out.now) c.short.ensures
    ∙ writes-given a.self a.next zeros a.out.now (Err (Short need)) a.out.now
    (ap (λ (k : ℕ). gave (given.Short k) a.out.now) (sym e) ∙ sym (written-short zeros a.out.now (omega (arith, e, c.if-out-need.true))))

pub returns : goal.returns
returns c =
    let a = c.args in
    let need = 2 * a.self.seat.n in
    let zeros : List ℕ = replicate need 0 in
    let l = length-replicate {A = ℕ} need 0 in
    let filled : c.fill.new.self ++ drop need a.out.now ≡ spliced a.out.now 0 zeros = ap (λ (b : List ℕ). b ++ drop need a.out.now)
    (c.fill.ensures.after (λ y h. h) ∙ ap (λ (k : ℕ). replicate k 0) (length-take-le need a.out.now c.if-out-need.false))
    ∙ sym (spliced-start a.out.now zeros ∙ ap (λ (k : ℕ). zeros ++ drop k a.out.now) l) in
    writes-given a.self a.next zeros a.out.now (Ok need) _
    (ap (gave (given.Done need)) filled ∙ ap (λ (k : ℕ). gave (given.Done k) (spliced a.out.now 0 zeros)) (sym l)
    ∙ sym (written-done zeros a.out.now (omega (arith, l, c.if-out-need.false))))
