use Rattle.std.proofs.Common.{rules, tests, not, nat_eq, length, sym, ap, ◌∙◌}
use Rattle.std.proofs.lemmas.Iterator.{YieldsList-from_slice}
use Rattle.std.proofs.lemmas.Iterator.Search.{any_from_yields_List}
use Rattle.erasure.specs.Rebuild.{other}
use Rattle.erasure.specs.declared.Share.{Share}
use Rattle.erasure.proofs.Other.{other_any_of}
use Rattle.erasure.proofs.Points.{lengths-points}
use Rattle.erasure.proofs.uneven.Goals as goal

pub returns : goal.returns
returns c =
    let xs = c.args.shares.now in
    any_from_yields_List (λ x. not (nat_eq (length x.bytes.now) c.args.s)) _ _ _ c.any.ensures.ran (YieldsList-from_slice xs c.iter.ensures.rest) (λ x b q k. search (rules, tests))
    ∙ other_any_of c.args.s (λ (x : Share). length x.bytes.now) xs
    ∙ ap (other c.args.s) (sym (lengths-points xs))
