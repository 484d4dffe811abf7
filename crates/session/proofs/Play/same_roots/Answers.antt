-- `Play::same_roots` meets its contract: what the search among all parties tells. Assumes nothing.
use mathlib.Core.Path.{◌≡◌, ◌∙◌}
use mathlib.Core.Bool.{true, false}
use Rattle.sha256.specs.Sha256.{sha256}
use Rattle.session.proofs.Rule.{known}
use borrow.Author.Tests.{tests}
use borrow.Author.Rules.{rules}
use Rattle.std.proofs.lemmas.Iterator.{cases_from_all}
use Rattle.plan.specs.Layout.{n_in}
use Rattle.session.proofs.Chains.{up_to_n}
use Rattle.session.proofs.Searches.{has_root_w, roots-are}
use Rattle.session.proofs.Play.same_roots.Goals as goal

pub returns : goal.returns
returns c =
    let p = c.args.self.now in
    let s = p.bytes.now in
    let r = c.args.w.now in
    let e = c.new.ensures in
    roots-are sha256 s r (n_in s) c.all.result
    (cases_from_all _ _ _ (λ q. has_root_w sha256 s r q ≡ true) (λ q. has_root_w sha256 s r q ≡ false) c.all.ensures.ran
    (up_to_n c.new.result (n_in s) e.start (e.end ∙ (known p).n-is) e.exhausted)
    (λ x q k. search (rules, tests)) (λ x q k. search (rules, tests)))
