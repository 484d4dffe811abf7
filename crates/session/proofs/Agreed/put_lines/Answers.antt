-- `Agreed::put_lines` meets its contract: all lines are those that stand in the text and those still to come. Assumes nothing.
use mathlib.Core.Path.{refl, sym, ap, ap₂, ◌∙◌}
use mathlib.Core.List.{List, ◌++◌}
use Prim.Native.Nat.{ℕ, ◌+◌, ◌-◌}
use native.Mathlib.Omega.{arith}
use Rattle.sha256.specs.Sha256.{sha256}
use Rattle.session.proofs.Rule.{known}
use mathlib.Core.List.{append-nil}
use native.Mathlib.Nat.{sub-zero}
use lib.ListN.{length, take, length-drop}
use Rattle.buffer.proofs.Parts.{part-rest}
use Rattle.plan.specs.Layout.{n_in}
use Rattle.session.specs.Session.{line_with, ends_with, lines_from}
use Rattle.session.proofs.Text.{part-written, lines_end, lines_more, lines-bad}
use Rattle.session.proofs.Agreed.put_lines.Goals.{then-is_good, else-is_good}
use Rattle.session.proofs.Agreed.put_lines.Goals as goal

pub loop-j-init : goal.loop-j-init
loop-j-init c =
    (omega arith, ap (λ (k : ℕ). lines_from sha256 c.args.self.now.play.bytes.now k 1) (sym (sub-zero (n_in c.args.self.now.play.bytes.now))))

pub offset_bounds-states-j : goal.offset_bounds-states-j
offset_bounds-states-j c = let k = known c.args.self.now.play in omega (arith, k.n-is, k.high)

pub bounds-states-j : goal.bounds-states-j
bounds-states-j c = let k = known c.args.self.now.play in omega (arith, k.n-is, k.high)

pub slice_bounds-put_line-count : goal.slice_bounds-put_line-count
slice_bounds-put_line-count c =
    let k = known c.args.self.now.play in
    omega (arith, k.n-is, k.high, c.loop-j.invariant.0, c.requires.1)

pub slice_bounds-put_line-start : goal.slice_bounds-put_line-start
slice_bounds-put_line-start c =
    let k = known c.args.self.now.play in
    omega (arith, k.n-is, k.high, c.loop-j.invariant.0, c.requires.1)

pub put_line-at-requires : goal.put_line-at-requires
put_line-at-requires c =
    let k = known c.args.self.now.play in
    let r = c.requires.0 in
    let l = c.loop-j in (
      record {
        low = omega arith;
        high = omega (arith, k.n-is);
        slots = r.slots;
        state-is = λ one. r.states one _ l.j (omega arith) (omega (arith, k.n-is)) (sym c.is_good.ensures ∙ c.if-is_good.true);
      },
      omega (arith, k.n-is, k.high, l.invariant.0, c.requires.1, ap length (part-rest l.text l.at), length-drop l.at l.text),
    )

pub overflow_add-at : goal.overflow_add-at
overflow_add-at c =
    let k = known c.args.self.now.play in
    omega (arith, k.n-is, k.high, c.loop-j.invariant.0, c.put_line-at.ensures.1)

pub loop-j-preserved : goal.loop-j-preserved
loop-j-preserved c =
    let k = known c.args.self.now.play in
    let s = c.args.self.now.play.bytes.now in
    let l = c.loop-j in
    let o = l.text in
    elim c.if-is_good.branch [
      | then-is_good w ↦
          let x : List ℕ = line_with (l.j + 1) (ends_with sha256 s (l.j + 1)) in
          let y = w.put_line-at.ensures in (
            omega (arith, w.at-is, l.invariant.0, y.1),
            l.invariant.1
                ∙ lines_more sha256 s (n_in s - (l.j + 1)) (n_in s - l.j) (l.j + 1) (omega (arith, k.n-is)) o _ l.at w.put_line-at.result
                (sym c.is_good.ensures ∙ w.if-is_good.true) (omega (arith, k.n-is, k.high, l.invariant.0, c.requires.1)) y.0
                (w.text-is ∙ part-written o x l.at (length o - l.at) _ refl y.2)
                ∙ ap (λ (i : ℕ). take i c.if-is_good.text ++ lines_from sha256 s (n_in s - (l.j + 1)) (l.j + 1 + 1)) (sym w.at-is),
          )
      | else-is_good w ↦ (
        omega (arith, w.at-is, l.invariant.0),
        l.invariant.1
            ∙ ap (λ (z : List ℕ). take l.at o ++ z)
            (lines-bad sha256 s (n_in s - (l.j + 1)) (n_in s - l.j) (l.j + 1) (omega (arith, k.n-is)) (sym c.is_good.ensures ∙ w.if-is_good.false))
            ∙ ap₂ (λ (i : ℕ) (z : List ℕ). take i z ++ lines_from sha256 s (n_in s - (l.j + 1)) (l.j + 1 + 1)) (sym w.at-is) (sym w.text-is),
      )
    ]

pub returns : goal.returns
returns c =
    let k = known c.args.self.now.play in
    let s = c.args.self.now.play.bytes.now in
    let l = c.loop-j in
    let before = take l.at l.text in (
      omega (arith, k.n-is, k.high, l.invariant.0, c.requires.1),
      sym (l.invariant.1
          ∙ ap (λ (x : List ℕ). before ++ x) (lines_end sha256 s (n_in s - l.j) (l.j + 1) (omega (arith, k.n-is)))
          ∙ append-nil before),
    )
