-- The sender's field stands before the map of good parties. Assumes nothing.
use Rattle.std.proofs.Common.{ℕ, ◌+◌, length, sym, ap, arith}
use Rattle.plan.specs.Layout.{fields, field_at}
use Rattle.plan.proofs.Options.{field-inside}
use Rattle.plan.proofs.sender_of.Goals as goal

pub bounds-plan-field_at : goal.bounds-plan-field_at
bounds-plan-field_at c =
    let o = c.args.options in
    omega (arith, c.field_at.ensures, field-inside o 2 (omega arith) (sym c.if-not-names.ensures), ap (λ (k : ℕ). field_at k (length fields + 1)) c.requires.0)
