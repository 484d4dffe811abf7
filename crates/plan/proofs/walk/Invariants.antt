use Rattle.std.proofs.Common.{◌≡◌, ℕ, Bool, List}
use Rattle.std.proofs.Math.Option.{some}
use Rattle.plan.specs.Layout.{walk}
use Rattle.plan.specs.Private.{Found, Finds}
use Rattle.plan.proofs.walk.Given as goal

abbrev pub invariant-loop-p : goal.invariant-loop-p
invariant-loop-p g l =
    (test : ℕ → Bool) (f : List ℕ → Found) → ((p : ℕ) (b : Bool) → goal.T-post g l.takes p b → b ≡ test p)
    → ((x : _) (r : _) → goal.S-post g l.step x r → Finds r (f x.now)) → walk test f l.p l.s ≡ some l.rest
