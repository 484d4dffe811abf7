-- `Play::opened` meets its contract: by the sender where there is one, and else with the book. Assumes nothing.
use Rattle.std.proofs.Common.{ap, ◌∙◌}
use Rattle.sha256.specs.Sha256.{sha256}
use Rattle.session.specs.Private.{opening_of}
use Rattle.session.proofs.Rule.{known, sender-named, sender-none, open_is, open_by, opening-plain}
use Rattle.session.proofs.Play.opened.Goals as goal

pub returns-in-Some : goal.returns-in-Some
returns-in-Some c =
    let p = c.args.self.now in
    c.opened.ensures ∙ ap opening_of (open_by _ _ (known p) sha256 c.args.q (sender-named p _ c.in-Some.is).0)

pub returns : goal.returns
returns c =
    let p = c.args.self.now in
    opening-plain c.open-begun.result.state c.open-begun.result.root _ c.unwrap_or.ensures
    ∙ ap opening_of (c.open-begun.ensures
    ∙ open_is _ _ (known p) sha256 c.args.q _ (sender-none p c.in_default.is) c.book-len.ensures.1)
