-- After each turn the shares taken are those present of the ones passed.
use Rattle.std.proofs.Common.{Bor, ◌≡◌, ℕ, ◌+◌, List, [], ◌∷◌, ◌++◌, length, take, get_or, refl, sym, ap, ◌∙◌, arith, length-set, length-take-le}
use Rattle.std.proofs.lemmas.List.{take-map, length-map}
use lib.Seq.{take_all, take-take}
use Rattle.erasure.specs.Rebuild.{Point, present}
use Rattle.erasure.specs.Arrays.{slices, points}
use Rattle.erasure.proofs.Points.{point_of, points-set, present-missing, present-found}
use Rattle.erasure.proofs.lowest_present.Goals as goal
use Rattle.erasure.proofs.lowest_present.Goals.{then-bytes-ne0, else-bytes-ne0}

pub loop-i-init : goal.loop-i-init
unfolding present
loop-i-init c = (refl, omega arith, refl)

pub loop-i-preserved : goal.loop-i-preserved
loop-i-preserved c =
    let l = c.loop-i in
    let xs = c.args.shares.now in
    let h = c.loop-i-test.true in
    let past : Bor (List ℕ) = record { ref_ptr = (0, 0); now = [] } in
    elim c.if-bytes-ne0.branch [
      | then-bytes-ne0 w ↦ rw (w.lowest-is, w.count-is) (
        length-set _ _ _ ∙ l.invariant.0,
        omega arith,
        points-set l.lowest l.count (record { number = l.i + 1; bytes = get_or xs l.i past }) (omega arith)
            ∙ ap (λ (ps : List Point). ps ++ (record { number = l.i + 1; share = (get_or xs l.i past).now } ∷ [])) l.invariant.2
            ∙ sym (present-found xs l.i past h w.if-bytes-ne0.true),
      )
      | else-bytes-ne0 w ↦ rw (w.lowest-is, w.count-is) (
        l.invariant.0,
        omega arith,
        l.invariant.2 ∙ sym (present-missing xs l.i past h w.if-bytes-ne0.false),
      )
    ]

pub returns : goal.returns
returns c =
    let l = c.loop-i in
    let xs = c.args.shares.now in
    let b = c.args.b in
    let all : points (take l.count l.lowest) ≡ present 1 (slices xs) =
    l.invariant.2 ∙ ap (λ ys. present 1 (slices ys)) (take_all l.i xs c.loop-i-test.false) in
    let count : length (present 1 (slices xs)) ≡ l.count =
    sym (ap length all) ∙ length-map (take l.count l.lowest) point_of ∙ length-take-le l.count l.lowest (omega arith) in (
      omega (arith, count),
      ap points (sym (take-take b l.count l.lowest c.if-count-b.false)) ∙ sym (take-map point_of b (take l.count l.lowest)) ∙ ap (take b) all,
    )
