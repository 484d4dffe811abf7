-- `Gift::begun` meets its contract: the opening with the parts that the plan says. Assumes nothing.
use Rattle.std.proofs.Common.{◌∙◌}
use Rattle.sha256.specs.Sha256.{sha256}
use Rattle.session.proofs.Rule.{known, opens-by}
use Rattle.session.proofs.Gift.begun.Goals as goal

pub returns : goal.returns
returns c =
    let g = c.args.self.now in
    c.open_by_sender.ensures ∙ opens-by _ _ (known g.play) sha256 c.args.q g.sender _ _ g.sender_is c.requires
