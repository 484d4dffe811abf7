-- `Vote::voted_all` meets its contract: after j turns the good ones of the first j parties are those after step 2. Assumes nothing.
use mathlib.Core.Path.{◌≡◌, sym, ap, subst, ◌∙◌}
use Prim.Native.Nat.{ℕ, ◌<◌}
use native.Mathlib.Omega.{arith}
use Rattle.sha256.specs.Sha256.{sha256}
use Rattle.session.proofs.Rule.{known}
use borrow.Author.Rules.{rules}
use lib.ListN.{length, length-set}
use Rattle.limits.specs.Limits.{max_parties}
use Rattle.party.specs.Steps.{Stepped}
use Rattle.plan.specs.Layout.{n_in}
use Rattle.session.specs.Session.{step2}
use Rattle.session.specs.Private.{States}
use Rattle.session.proofs.States.{states-more, states-skip}
use Rattle.session.proofs.Vote.voted_all.Goals as goal
use Rattle.session.proofs.Vote.voted_all.Goals.{then-is_good, else-is_good}

pub loop-j-init : goal.loop-j-init
loop-j-init c = (search rules, λ d j k h g. absurd (omega arith))

pub offset_bounds-states-j : goal.offset_bounds-states-j
offset_bounds-states-j c = let k = known c.args.self.now.play in omega (arith, k.n-is, k.high)

pub bounds-states-j : goal.bounds-states-j
bounds-states-j c =
    let k = known c.args.self.now.play in
    let few : c.loop-j.j < max_parties = omega (arith, k.n-is, k.high) in
    search (rules, few)

pub returns : goal.returns
returns c =
    let s = c.args.self.now.play.bytes.now in
    let e : c.loop-j.j ≡ n_in s = omega (arith, (known c.args.self.now.play).n-is) in
    subst (λ (k : ℕ). States s (λ p. (step2 sha256 s p).state) 0 k c.loop-j.states) e c.loop-j.invariant.1

pub loop-j-preserved : goal.loop-j-preserved
loop-j-preserved c =
    let k = known c.args.self.now.play in
    let s = c.args.self.now.play.bytes.now in
    let o = c.loop-j in
    elim c.if-is_good.branch [
      | then-is_good w ↦ (
        ap length w.states-is ∙ length-set o.states o.j w.ballot-then-is_good.result.state ∙ o.invariant.0,
        states-more s (λ p. (step2 sha256 s p).state) o.j w.ballot-then-is_good.result.state o.states _ w.states-is
            (ap (λ (v : Stepped). v.state) w.ballot-then-is_good.ensures) (omega (arith, k.n-is, k.high, o.invariant.0)) o.invariant.1,
      )
      | else-is_good w ↦ (
        ap length w.states-is ∙ o.invariant.0,
        states-skip s (λ p. (step2 sha256 s p).state) o.j o.states _ w.states-is (sym c.is_good.ensures ∙ w.if-is_good.false) o.invariant.1,
      )
    ]
