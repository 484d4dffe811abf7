-- `party::Party::settle` meets its contract: cause 9, or the message written to the buffer and kept. Assumes nothing.
use mathlib.Core.Path.{sym, ap, ap₂, ◌∙◌}
use mathlib.Core.List.{List}
use Prim.Native.Nat.{ℕ}
use lib.ListN.{length}
use Rattle.limits.specs.Limits.{max_message}
use Rattle.buffer.proofs.Splice.{put-fits}
use native.Mathlib.Omega.{arith}
use Rattle.party.specs.State.{settled}
use Rattle.party.specs.Steps.{Stepped, gives, stepped}
use Rattle.party.specs.declared.Party.{Party}
use Rattle.party.specs.Answer.{Message}
use Rattle.party.specs.declared.Reply.{Reply}
use Rattle.party.proofs.Kept.{put-padded, ended-kept}
use Rattle.party.proofs.Outcomes.{ending-short, ending-done}
use Rattle.party.proofs.Party.settle.Goals as goal

pub returns-then-out-len : goal.returns-then-out-len
returns-then-out-len c =
    let a = c.args in
    ap (λ (r : Reply). stepped r a.out.now) c.short.ensures
    ∙ sym (ending-short a.self a.message.now a.faulty a.out.now c.if-out-len.true)

pub returns : goal.returns
returns c =
    let a = c.args in
    let x = a.self in
    let m = a.message.now in
    ap₂ {C = Stepped} (λ (y : Party) (o : List ℕ). gives y (Message (length m) a.faulty) o)
    (c.ended.ensures ∙ ended-kept x.seat (settled m) a.faulty _ (c.put-2.ensures.1 ∙ put-padded max_message m c.requires))
    (c.put.ensures.1 ∙ put-fits a.out.now 0 m (omega arith))
    ∙ sym (ending-done x m a.faulty a.out.now c.if-out-len.false)
