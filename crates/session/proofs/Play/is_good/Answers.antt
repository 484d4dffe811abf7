-- `Play::is_good` meets its contract: the map of the plan is that of the bytes. Assumes nothing.
use mathlib.Core.Path.{◌∙◌}
use Rattle.session.proofs.Rule.{known}
use Rattle.session.proofs.Rule.{good-named}
use Rattle.session.proofs.Play.is_good.Goals as goal

pub returns : goal.returns
returns c = c.names.ensures ∙ good-named _ _ (known c.args.self.now) c.args.p
