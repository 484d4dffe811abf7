-- `Play::sent_all` meets its contract: what all parties sent is what was added and what those still to come sent. Assumes nothing.
use mathlib.Core.Path.{◌≡◌, sym, ◌∙◌}
use Prim.Native.Nat.{◌+◌, ◌-◌}
use native.Mathlib.Omega.{arith}
use Rattle.sha256.specs.Sha256.{sha256}
use Rattle.session.proofs.Rule.{known}
use Rattle.plan.specs.Layout.{n_in}
use Rattle.session.proofs.Sums.{sent-end, sent-good, sent-bad}
use Rattle.session.proofs.Play.sent_all.Goals as goal
use Rattle.session.proofs.Play.sent_all.Goals.{then-is_good, else-is_good}

pub loop-p-init : goal.loop-p-init
loop-p-init c =
    let s = c.args.self.now.bytes.now in
    let e : n_in s + 1 - 1 ≡ n_in s = omega arith in
    (omega arith, rw e (omega arith))

pub sent_in_all-sum-requires : goal.sent_in_all-sum-requires
sent_in_all-sum-requires c =
    (c.requires.0, c.requires.1, omega arith, omega (arith, (known c.args.self.now).n-is), sym c.is_good.ensures ∙ c.if-is_good.true)

pub overflow_add-sum : goal.overflow_add-sum
overflow_add-sum c =
    let k = known c.args.self.now in
    omega (arith, c.loop-p.invariant.0, c.sent_in_all-sum.ensures.1, k.n-is, k.high)

pub returns : goal.returns
returns c =
    let s = c.args.self.now.bytes.now in
    let k = known c.args.self.now in
    omega (arith, c.loop-p.invariant.1, sent-end sha256 s (n_in s + 1 - c.loop-p.p) c.loop-p.p (omega (arith, k.n-is)))

pub loop-p-preserved : goal.loop-p-preserved
loop-p-preserved c =
    let s = c.args.self.now.bytes.now in
    let k = known c.args.self.now in
    let o = c.loop-p in
    let p = o.p in
    elim c.if-is_good.branch [
      | then-is_good w ↦ (
        omega (arith, w.sum-is, o.invariant.0, w.sent_in_all-sum.ensures.1),
        omega (
          arith,
          w.sum-is,
          o.invariant.1,
          w.sent_in_all-sum.ensures.0,
          sent-good sha256 s (n_in s + 1 - (p + 1)) (n_in s + 1 - p) p (omega (arith, k.n-is)) (sym c.is_good.ensures ∙ w.if-is_good.true),
        ),
      )
      | else-is_good w ↦ (
        omega (arith, w.sum-is, o.invariant.0),
        omega (
          arith,
          w.sum-is,
          o.invariant.1,
          sent-bad sha256 s (n_in s + 1 - (p + 1)) (n_in s + 1 - p) p (omega (arith, k.n-is)) (sym c.is_good.ensures ∙ w.if-is_good.false),
        ),
      )
    ]

pub returns-after-is_good : goal.returns-after-is_good
returns-after-is_good c =
    let s = c.args.self.now.bytes.now in
    let k = known c.args.self.now in
    let o = c.loop-p in
    let p = o.p in
    let end = sent-end sha256 s (n_in s + 1 - (p + 1)) (p + 1) (omega (arith, k.n-is)) in
    elim c.if-is_good.branch [
      | then-is_good w ↦
          omega (
            arith,
            w.sum-is,
            o.invariant.1,
            w.sent_in_all-sum.ensures.0,
            end,
            sent-good sha256 s (n_in s + 1 - (p + 1)) (n_in s + 1 - p) p (omega (arith, k.n-is)) (sym c.is_good.ensures ∙ w.if-is_good.true),
          )
      | else-is_good w ↦
          omega (
            arith,
            w.sum-is,
            o.invariant.1,
            end,
            sent-bad sha256 s (n_in s + 1 - (p + 1)) (n_in s + 1 - p) p (omega (arith, k.n-is)) (sym c.is_good.ensures ∙ w.if-is_good.false),
          )
    ]
