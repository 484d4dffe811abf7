-- `Play::lowest_good` meets its contract: what the search finds is the lowest number. Assumes nothing.
use mathlib.Core.Path.{◌≡◌, ◌∙◌}
use mathlib.Core.Bool.{true, false}
use Rattle.session.proofs.Rule.{known}
use borrow.Author.Tests.{tests}
use borrow.Author.Rules.{rules}
use Rattle.std.proofs.lemmas.Iterator.{first_from_find}
use Rattle.plan.specs.Layout.{n_in, good_in}
use Rattle.bitmap.specs.Bitmap.{names}
use Rattle.session.proofs.Chains.{up_to_n}
use Rattle.session.proofs.Searches.{lowest-is}
use Rattle.session.proofs.Play.lowest_good.Goals as goal

pub returns : goal.returns
returns c =
    let p = c.args.self.now in
    let g = good_in p.bytes.now in
    let e = c.new.ensures in
    c.unwrap_or.ensures
    ∙ lowest-is g (n_in p.bytes.now) c.find.result
    (first_from_find _ _ _ (λ q. names g q ≡ true) (λ q. names g q ≡ false) c.find.ensures.ran
    (up_to_n c.new.result (n_in p.bytes.now) e.start (e.end ∙ (known p).n-is) e.exhausted)
    (λ x q k. search (rules, tests)) (λ x q k. search (rules, tests)))
