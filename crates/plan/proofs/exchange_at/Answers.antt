-- What stands from an exchange on is no longer than the plan. Assumes nothing.
use Rattle.std.proofs.Common.{◌≡◌, ◌∙◌, sym, ap, List, ℕ, [], length, Option, Some, None, arith}
use Rattle.std.proofs.lemmas.Grind.{common_steps}
use Rattle.std.specs.Borrow.{Bor}
use Rattle.std.specs.Option.{UnwrapsOrElse}
use Rattle.plan.specs.Layout.{or_empty}
use Rattle.plan.specs.Private.{Found, Finds}
use Rattle.plan.proofs.Tails.{exchanges-short}
use Rattle.plan.proofs.exchange_at.Goals as goal

found-there : (r : Option (Bor (List ℕ))) (o : Found) (x : Bor (List ℕ)) → Finds r o → UnwrapsOrElse r (λ y. y.now ≡ []) x → x.now ≡ or_empty o
found-there None o x f u = u ∙ sym (ap or_empty f)
found-there (Some y) o x f u = ap (λ (z : Bor (List ℕ)). z.now) u ∙ sym (ap or_empty f)

pub overflow_sub-result : goal.overflow_sub-result
overflow_sub-result c =
    let rest = ap length (found-there c.skip_exchanges.result _ _ c.skip_exchanges.ensures c.unwrap_or_default-rest.ensures) in
    grind (arith, common_steps, exchanges-short, rest)
