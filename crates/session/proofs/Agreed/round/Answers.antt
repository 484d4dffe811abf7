-- `Agreed::round` meets its contract: after j turns the slots of the first j parties hold what the good ones wrote, and these are after their step. Assumes nothing.
use mathlib.Core.Path.{◌≡◌, refl, sym, ap, subst, ◌∙◌}
use Prim.Native.Nat.{ℕ, ◌+◌, ◌-◌, ◌*◌}
use native.Mathlib.Omega.{arith}
use Rattle.session.proofs.Rule.{known}
use borrow.Author.Rules.{rules}
use lib.ListN.{length, drop, length-take, length-drop, length-set}
use Rattle.buffer.proofs.Splice.{length-spliced}
use Rattle.plan.specs.Layout.{n_in}
use Rattle.session.specs.Session.{max_outbox, wrote_in}
use Rattle.session.specs.Private.{step_for, Turn}
use Rattle.session.specs.declared.Outgoing.{Outgoing}
use Rattle.session.proofs.States.{turn-none, turn-more, turn-skip}
use Rattle.session.proofs.Text.{part-written}
use Rattle.session.proofs.Agreed.round.Goals.{then-is_good, else-is_good}
use Rattle.session.proofs.Agreed.round.Goals as goal

pub loop-j-init : goal.loop-j-init
loop-j-init c = (search rules, search rules, search rules, turn-none _ _ _ _ c.requires.1)

pub overflow_mul-at : goal.overflow_mul-at
overflow_mul-at c = let k = known c.args.self.now.play in omega (arith, k.n-is, k.high)

pub offset_bounds-states-j : goal.offset_bounds-states-j
offset_bounds-states-j c = let k = known c.args.self.now.play in omega (arith, k.n-is, k.high)

pub bounds-states-j : goal.bounds-states-j
bounds-states-j c = let k = known c.args.self.now.play in omega (arith, k.n-is, k.high)

pub slice_bounds-advance-count : goal.slice_bounds-advance-count
slice_bounds-advance-count c = let k = known c.args.self.now.play in omega (arith, k.n-is, k.high)

pub slice_bounds-advance-start : goal.slice_bounds-advance-start
slice_bounds-advance-start c = let k = known c.args.self.now.play in omega (arith, k.n-is, k.high)

pub advance-len-requires : goal.advance-len-requires
advance-len-requires c =
    let k = known c.args.self.now.play in
    let l = c.loop-j in
    let o = l.sent.slots in
    let at = l.j * max_outbox in (
      c.requires.0,
      omega arith,
      omega (arith, k.n-is),
      l.invariant.3.waiting _ l.j (omega arith) (omega (arith, k.n-is)) (sym c.is_good.ensures ∙ c.if-is_good.true),
      omega (arith, k.n-is, k.high, l.invariant.0, length-take (133184 - at) (drop at o), length-drop at o),
    )

pub offset_bounds-sent-j : goal.offset_bounds-sent-j
offset_bounds-sent-j c = let k = known c.args.self.now.play in omega (arith, k.n-is, k.high)

pub bounds-sent-j : goal.bounds-sent-j
bounds-sent-j c = let k = known c.args.self.now.play in omega (arith, k.n-is, k.high)

pub loop-j-preserved : goal.loop-j-preserved
loop-j-preserved c =
    let k = known c.args.self.now.play in
    let s = c.args.self.now.play.bytes.now in
    let step = c.args.step in
    let l = c.loop-j in
    let i = l.invariant in
    let o = l.sent.slots in
    let at = l.j * max_outbox in
    elim c.if-is_good.branch [
      | then-is_good w ↦
          let y = w.advance-len.ensures in
          let q = ap (λ (x : Outgoing). x.slots) w.sent-is
          ∙ part-written o (wrote_in (step_for step s (l.j + 1))) at (133184 - at) _ (omega (arith, i.0)) y.3 in (
            ap length q ∙ length-spliced o at (wrote_in (step_for step s (l.j + 1))) (omega (arith, k.n-is, k.high, i.0, y.1, y.2)) ∙ i.0,
            ap (λ (x : Outgoing). length x.lens) w.sent-is ∙ length-set l.sent.lens l.j w.advance-len.result ∙ i.1,
            ap length w.states-is ∙ length-set l.states l.j _ ∙ i.2,
            turn-more s step l.j at w.advance-len.result _ l.states _ l.sent _ (omega (arith, k.n-is, k.high, i.2)) (omega (arith, k.n-is, k.high, i.0))
                (omega (arith, k.n-is, k.high, i.1)) refl y.0 y.1 y.2 w.states-is q (ap (λ (x : Outgoing). x.lens) w.sent-is) i.3,
          )
      | else-is_good w ↦ (
        ap (λ (x : Outgoing). length x.slots) w.sent-is ∙ i.0,
        ap (λ (x : Outgoing). length x.lens) w.sent-is ∙ i.1,
        ap length w.states-is ∙ i.2,
        turn-skip s step l.j l.states _ l.sent _ (sym c.is_good.ensures ∙ w.if-is_good.false) w.states-is w.sent-is i.3,
      )
    ]

pub returns : goal.returns
returns c =
    let s = c.args.self.now.play.bytes.now in
    let e : c.loop-j.j ≡ n_in s = omega (arith, (known c.args.self.now.play).n-is) in
    let t = subst (λ (k : ℕ). Turn s c.args.step k c.loop-j.states c.loop-j.sent) e c.loop-j.invariant.3 in
    (t.moved, t.wrote, c.loop-j.invariant.0)
