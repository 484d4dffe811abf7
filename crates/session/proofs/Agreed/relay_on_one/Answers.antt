-- `Agreed::relay_on_one` meets its contract: on bit 0 there are no relays, and else each stands in its slot. Assumes nothing.
use mathlib.Core.Path.{◌∙◌}
use Rattle.session.proofs.Rule.{known}
use Rattle.session.proofs.Sums.{relays-all}
use Rattle.session.proofs.Agreed.relay_on_one.Goals as goal

pub returns-then-self-ne0 : goal.returns-then-self-ne0
returns-then-self-ne0 c =
    let p = c.args.self.now in
    let r = c.round.ensures in
    relays-all p.play.bytes.now (known p.play).high _ _ (λ h. c.if-self-ne0.true (p.bit_is ∙ h)) r.2 r.0 r.1
