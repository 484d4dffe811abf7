-- `party::Party::settle_nothing` meets its contract: the state has the ended form. Assumes nothing.
use Rattle.std.proofs.Common.{Ok, refl, ap, ◌∙◌}
use Rattle.party.specs.State.{nothing}
use Rattle.party.specs.declared.Party.{Party}
use Rattle.party.specs.declared.Answer.TheVariants.{Nothing}
use Rattle.party.specs.declared.Reply.{Reply}
use Rattle.party.proofs.Kept.{ended-kept}
use Rattle.party.proofs.Party.settle_nothing.Goals as goal

pub returns : goal.returns
returns c =
    ap {B = Reply} (λ (y : Party). record { state = y; answer = Ok (Nothing c.args.faulty) })
    (c.ended.ensures ∙ ended-kept _ nothing _ _ refl)
