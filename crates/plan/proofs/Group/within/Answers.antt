-- `plan::Group::within` meets its contract. Assumes nothing.
use Rattle.std.proofs.Common.{cond, true, rules}
use Rattle.bitmap.specs.Bitmap.{names}
use Rattle.plan.proofs.Numbers.{all-every}
use Rattle.plan.proofs.Group.within.Goals as goal

pub returns : goal.returns
returns c =
    let a = c.args in
    let n = c.new.ensures in
    all-every _ _ (λ p. cond (names a.receivers p) (names a.self.good p) true) (λ x r f h. search rules) a.self.n _ n.start n.end n.exhausted _ c.all.ensures.runs
