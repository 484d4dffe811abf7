-- `Vote::same_bits` meets its contract: what the search among all parties tells. Assumes nothing.
use mathlib.Core.Path.{◌≡◌, ◌∙◌}
use mathlib.Core.Bool.{true, false}
use Rattle.sha256.specs.Sha256.{sha256}
use Rattle.session.proofs.Rule.{known}
use borrow.Author.Tests.{tests}
use borrow.Author.Rules.{rules}
use Rattle.std.proofs.lemmas.Iterator.{cases_from_all}
use Rattle.plan.specs.Layout.{n_in}
use Rattle.session.proofs.Chains.{up_to_n}
use Rattle.session.proofs.Searches.{has_bit_b, bits-are}
use Rattle.session.proofs.Vote.same_bits.Goals as goal

pub returns : goal.returns
returns c =
    let p = c.args.self.now.play in
    let s = p.bytes.now in
    let b = c.args.b in
    let e = c.new.ensures in
    bits-are sha256 s b (n_in s) c.all.result
    (cases_from_all _ _ _ (λ q. has_bit_b sha256 s b q ≡ true) (λ q. has_bit_b sha256 s b q ≡ false) c.all.ensures.ran
    (up_to_n c.new.result (n_in s) e.start (e.end ∙ (known p).n-is) e.exhausted)
    (λ x q k. search (rules, tests)) (λ x q k. search (rules, tests)))
