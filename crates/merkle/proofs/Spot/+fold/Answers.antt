-- `Spot::fold` meets its contract: the last step of a path is the step at the root. Assumes nothing.
use Rattle.std.proofs.Common.{sym}
use Rattle.sha256.specs.Sha256.{sha256}
use Rattle.merkle.specs.Tree.{beside}
use Rattle.merkle.proofs.Fold.{folded-step}
use Rattle.merkle.proofs.Spot.+fold.Goals as goal

pub returns-then-step : goal.returns-then-step
unfolding beside
returns-then-step t c =
    let sides = rw c.if-step.true at c.in-Some.ensures.sides in
    let cut = c.in-Some-split_last.ensures.cases in
    rw (c.node_hash.ensures, c.fold-hash.ensures) (sym (folded-step sha256 _ _ _ _ _ _ c.args.leaf sides cut.0 c.requires))

pub returns-else-step : goal.returns-else-step
unfolding beside
returns-else-step t c =
    let sides = rw c.if-step.false at c.in-Some.ensures.sides in
    let cut = c.in-Some-split_last.ensures.cases in
    rw (c.node_hash-else-step.ensures, c.fold-hash.ensures) (sym (folded-step sha256 _ _ _ _ _ _ c.args.leaf sides cut.0 c.requires))
