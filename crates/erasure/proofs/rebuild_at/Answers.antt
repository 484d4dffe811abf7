-- The causes of n and t, then of the places, then what the shares give.
use Rattle.std.proofs.Common.{◌≡◌, ℕ, ◌-◌, ◌++◌, rules, List, length, take, sym, ap, ◌∙◌, arith, Bor, length-take-le}
use Rattle.std.proofs.lemmas.List.{length-map}
use Rattle.cause.specs.declared.Cause.TheVariants as cause
use Rattle.limits.specs.Limits.{max_parties, group_cause}
use Rattle.limits.proofs.Group.{group_of}
use Rattle.erasure.specs.declared.Place.{Place}
use Rattle.erasure.specs.Rebuild.{present, recovered, answered}
use Rattle.erasure.proofs.Outcomes.{err-because, none-because, rebuild-at-refused, rebuild-at-astray, rebuild-at-answered}
use Rattle.erasure.proofs.Placed.{all-lie-take, parts-take, length-parts}
use Rattle.erasure.proofs.rebuild_at.Goals as goal

-- as many places are taken as there are parties
taken : (n t : ℕ) (p : List Place) → length p ≡ max_parties → 0 ≡ group_cause n t → length (take n p) ≡ n
taken n t p whole fine = let g = group_of n t (sym fine) in length-take-le n p (omega (arith, g))

pub returns-in_err-check_group : goal.returns-in_err-check_group
returns-in_err-check_group c =
    let a = c.args in
    let h = err-because a.n a.t _ _ a.out.now c.in_err-check_group.ensures c.from_residual.ensures.1 in
    h.1 ∙ sym (rebuild-at-refused a.n a.t a.first.now a.second.now a.places a.out.now h.0)

pub slice_bounds-shares_at-end : goal.slice_bounds-shares_at-end
slice_bounds-shares_at-end c = sym (taken c.args.n c.args.t c.args.places (search rules) c.in_ok-check_group.ensures)

pub returns-in_err-shares : goal.returns-in_err-shares
returns-in_err-shares c =
    let a = c.args in
    let none = c.in_err-shares.ensures in
    let long = taken a.n a.t a.places (search rules) c.in_ok-check_group.ensures in
    let astray = rw (none.ok_part, long, all-lie-take (length a.first.now) (length a.second.now) a.places a.n a.n (omega arith)) at c.shares_at.ensures in
    none-because _ cause.Layout _ _ a.out.now none.ok_part none.value c.from_residual-in_err-shares.ensures.1
    ∙ sym (rebuild-at-astray a.n a.t a.first.now a.second.now a.places a.out.now (sym c.in_ok-check_group.ensures) astray)

pub recover-requires : goal.recover-requires
recover-requires c =
    let a = c.args in
    let g = group_of a.n a.t (sym c.in_ok-check_group.ensures) in
    let long = taken a.n a.t a.places (search rules) c.in_ok-check_group.ensures in
    let h = rw (c.in_ok-shares.ensures.ok_part, long) at c.shares_at.ensures in
    let each = c.in_ok-shares.shares.each in
    let count : length (take a.n each) ≡ a.n =
    sym (length-map (take a.n each) (λ (x : Bor (List ℕ)). x.now)) ∙ ap length h.1 ∙ length-parts a.n _ _ in
    (omega (arith, g), omega (arith, g, count), omega (arith, g, count))

pub returns : goal.returns
returns c =
    let a = c.args in
    let fine = sym c.in_ok-check_group.ensures in
    let long = taken a.n a.t a.places (search rules) c.in_ok-check_group.ensures in
    let h = rw (
      c.in_ok-shares.ensures.ok_part,
      long,
      all-lie-take (length a.first.now) (length a.second.now) a.places a.n a.n (omega arith),
      parts-take a.n (a.first.now ++ a.second.now) a.places,
    ) at c.shares_at.ensures in
    c.recover.ensures
    ∙ ap (λ l. answered (recovered (a.n - a.t) (present 1 l)) a.out.now) h.1
    ∙ sym (rebuild-at-answered a.n a.t a.first.now a.second.now a.places a.out.now fine h.0)
