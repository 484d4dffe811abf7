-- The entries taken, and those still to come, are all of them.
use Rattle.std.proofs.Common.{◌≡◌, ℕ, suc, ◌+◌, ◌-◌, List, [], ◌∷◌, ◌++◌, length, take, drop, refl, sym, ap, ◌∙◌, arith, length-set, append_assoc}
use mathlib.Core.List.{append-nil}
use native.Mathlib.Nat.{sub-zero}
use Rattle.buffer.specs.Entries.{bodies}
use Rattle.erasure.specs.Arrays.{slices}
use Rattle.erasure.proofs.Placed.{bodies-none}
use Rattle.erasure.proofs.Points.{slices-set, entry-tail, entry-bodies, entry-shorter}
use Rattle.erasure.proofs.shares_in.Goals as goal

pub loop-i-init : goal.loop-i-init
loop-i-init c = (refl, omega arith, rw sub-zero c.requires.0, rw sub-zero)

pub loop-i-preserved : goal.loop-i-preserved
loop-i-preserved c =
    let l = c.loop-i in
    let n = c.args.n in
    let m = n - (l.i + 1) in
    let k = c.size_at-end.result in
    let s = l.rest.now in
    let e : n - l.i ≡ suc m = omega arith in
    let later : List (List ℕ) = bodies m (take (length s - (2 + k)) (drop (2 + k) s)) in (
      length-set _ _ _ ∙ l.invariant.0,
      omega (arith, entry-shorter k s),
      entry-tail m (n - l.i) k s e c.size_at-end.ensures l.invariant.2,
      l.invariant.3
          ∙ ap (λ (R : List (List ℕ)). slices (take l.i l.each) ++ R) (entry-bodies m (n - l.i) k s e c.size_at-end.ensures l.invariant.2)
          ∙ sym (append_assoc (slices (take l.i l.each)) (take (2 + k - 2) (drop 2 s) ∷ []) later)
          ∙ ap (λ (R : List (List ℕ)). R ++ later) (sym (slices-set l.each l.i _ (omega arith))),
    )

pub returns : goal.returns
returns c =
    let l = c.loop-i in
    let n = c.args.n in
    let e : l.i ≡ n = omega arith in
    sym (l.invariant.3 ∙ ap (λ (R : List (List ℕ)). slices (take l.i l.each) ++ R) (bodies-none (n - l.i) l.rest.now (omega arith))
    ∙ append-nil (slices (take l.i l.each)) ∙ ap (λ k. slices (take k l.each)) e)
