-- `Play::count_bad` meets its contract: what is counted among all parties. Assumes nothing.
use mathlib.Core.Path.{◌∙◌}
use mathlib.Core.Bool.{not}
use Rattle.session.proofs.Rule.{known}
use borrow.Author.Tests.{tests}
use borrow.Author.Rules.{rules}
use Rattle.std.proofs.lemmas.Iterator.Consumers.{YieldsList-at, YieldsList-from_filter, count_from_yields_List}
use Rattle.plan.specs.Layout.{n_in, good_in}
use Rattle.bitmap.specs.Bitmap.{names}
use Rattle.session.proofs.Chains.{up_to_n}
use Rattle.session.proofs.Searches.{unnamed-are}
use Rattle.session.proofs.Play.count_bad.Goals as goal

pub returns : goal.returns
returns c =
    let p = c.args.self.now in
    let n = n_in p.bytes.now in
    let g = good_in p.bytes.now in
    let e = c.new.ensures in
    count_from_yields_List c.filter.result c.count.result c.count.ensures.ran
    (YieldsList-from_filter _ (λ q. not (names g q))
    (YieldsList-at c.filter.ensures.source (up_to_n c.new.result n e.start (e.end ∙ (known p).n-is) e.exhausted))
    c.filter.ensures.closure (λ x r q k. search (rules, tests)))
    ∙ unnamed-are g n 1
