-- `plan::books_fit` meets its contract. Assumes nothing.
use Rattle.std.proofs.Common.{leb, length, rules}
use Rattle.limits.specs.Limits.{max_message}
use Rattle.plan.specs.Layout.{party_entry}
use Rattle.plan.proofs.Numbers.{all-every}
use Rattle.plan.proofs.books_fit.Goals as goal

pub returns : goal.returns
returns c =
    let a = c.args in
    let n = c.new.ensures in
    all-every _ _ (λ p. leb (length (party_entry a.n a.map p a.s.now)) max_message) (λ x r f h. search rules) a.n _ n.start n.end n.exhausted _
    c.all.ensures.runs
