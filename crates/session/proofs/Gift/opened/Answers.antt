-- `Gift::opened` meets its contract: the party's own opening, on what it is handed. Assumes nothing.
use Rattle.std.proofs.Common.{ℕ, List, ap, ◌∙◌}
use Rattle.sha256.specs.Sha256.{sha256}
use Rattle.party.specs.Sender.{Begun}
use Rattle.session.specs.Session.{opened_by_sender}
use Rattle.session.specs.Private.{opening_of}
use Rattle.session.proofs.Rule.{opening-by}
use Rattle.session.proofs.Gift.opened.Goals as goal

pub returns : goal.returns
returns c =
    let g = c.args.self.now in
    opening-by c.begun-begun.result.state c.begun-begun.result.answer _ c.root_of.ensures
    ∙ ap (λ (r : Begun). opening_of r.opened) c.begun-begun.ensures
    ∙ ap (λ (l : List ℕ). opening_of (opened_by_sender sha256 g.play.bytes.now c.args.q l).opened) c.handed-len.ensures.1
