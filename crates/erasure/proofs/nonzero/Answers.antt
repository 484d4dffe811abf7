use Rattle.std.proofs.Common.{rules, tests, not, nat_eq, ◌∙◌}
use Rattle.std.proofs.lemmas.Iterator.{YieldsList-from_slice}
use Rattle.std.proofs.lemmas.Iterator.Search.{any_from_yields_List}
use Rattle.erasure.proofs.Other.{other_any}
use Rattle.erasure.proofs.nonzero.Goals as goal

pub returns : goal.returns
returns c =
    any_from_yields_List (λ x. not (nat_eq x 0)) _ _ _ c.any.ensures.ran (YieldsList-from_slice c.args.bytes.now c.iter.ensures.rest) (λ x b q k. search (rules, tests))
    ∙ other_any 0 c.args.bytes.now
