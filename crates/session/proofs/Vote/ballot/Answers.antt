-- `Vote::ballot` meets its contract: step 2 on what step 1 gave and on the agreed root. Assumes nothing.
use mathlib.Core.Path.{ap₂, ◌∙◌}
use mathlib.Core.List.{List}
use Prim.Native.Nat.{ℕ}
use Rattle.sha256.specs.Sha256.{sha256}
use Rattle.party.specs.Steps.{agree_root_of}
use Rattle.session.specs.declared.Opening.{Opening}
use Rattle.session.specs.Session.{step2}
use Rattle.session.proofs.Vote.ballot.Goals as goal

pub returns : goal.returns
unfolding step2
returns c =
    c.agree_root.ensures
    ∙ ap₂ (λ (x : Opening) (z : List ℕ). agree_root_of sha256 x.state z) c.opened.ensures c.args.self.now.root_is
