-- A test of all numbers up to n by std's `all` is the definitions' `every`. Assumes nothing.
use Rattle.std.proofs.Common.{◌≡◌, ◌∙◌, sym, ap, subst, ℕ, ◌+◌, ◌-◌, ◌≤◌, ◌<◌, Bool, true, false, Option, Some, None, option_map, IfSome, IsSomeAnd, IsTrue, arith}
use Rattle.std.specs.Bool.{MatchBool}
use Rattle.std.specs.Range.{range_inclusive_start, range_inclusive_end, range_inclusive_exhausted}
use Rattle.std.specs.declared.ops.RangeInclusive.{RangeInclusive}
use Rattle.std.specs.Iterator.{ActsAs}
use Rattle.std.specs.Iterator.Runs.{Run, SomeRun, AllItemsGive, AnyItemGives, CallKeepsClosure}
use Rattle.std.proofs.iter.runs.Sources.{nat_range_inclusive_steps, inclusive_listed}
use denote.Param.Members.{Mut}
use Rattle.plan.specs.Layout.{every}
use Rattle.plan.proofs.Walks.{every-told}

item : (o : Option ℕ) (q : ℕ) (P : ℕ → Type 0) → option_map (λ y. y) o ≡ Some q → IfSome o P → P q
item None q P e h = absurd (cc)
item (Some x) q P e h = let x-is : x ≡ q = cc in subst P x-is h

item_there : (o : Option ℕ) (P : ℕ → Type 0) → IsSomeAnd o P → IfSome o P
item_there None P h = tt
item_there (Some x) P h = h

module _ {F : Type 0} (g : Mut F (ℕ × Unit {0}) Bool) (f : F) (test : ℕ → Bool) (acts : ActsAs g f test) (n : ℕ) (s : RangeInclusive ℕ)
    (start : range_inclusive_start s ≡ 1) (end : range_inclusive_end s ≡ n) (fresh : range_inclusive_exhausted s ≡ false) where
  keeps : CallKeepsClosure g f
  keeps a r f' c = (acts a.0 r f' c).0

  -- the items of a run are the numbers from 1 on
  counts : (p : Run nat_range_inclusive_steps) → p.from ≡ s
      → (p.whole ≡ true → p.len ≡ n) × ((k : ℕ) → k < p.len → option_map (λ y. y) (p.at k) ≡ Some (1 + k)) × (p.len ≤ n)
  counts p from =
      let l = inclusive_listed p p.seen in
      let up = (l.4 (rw from fresh)).0 in
      let first : l.0 ≡ 1 = l.2 ∙ rw from start in
      let last : l.1 ≡ n + 1 = l.3 ∙ rw from (ap (λ k. k + 1) end) in
      ((λ w. omega (arith, up.1 w)), (λ k h. up.3 k h ∙ ap (λ a. Some (a + k)) first), omega (arith, up.0))

  pub all-every : (r : Bool)
      → SomeRun nat_range_inclusive_steps s (λ p. MatchBool r (IsTrue p.whole × AllItemsGive p g f true) (AnyItemGives p g f false))
      → r ≡ every test n
  all-every true (p, from, h) =
      let up = counts p from in
      every-told test n true
      (λ _ q l m.
      let e : 1 + (q - 1) ≡ q = omega arith in
      sym (acts q true f (item (p.at (q - 1)) q _ (up.1 (q - 1) (omega (arith, up.0 h.0)) ∙ ap Some e) (h.1 keeps (q - 1)))).1)
      (λ e. absurd (cc))
  all-every false (p, from, h) =
      let up = counts p from in
      let k = h keeps in
      every-told test n false (λ e. absurd (cc))
      (λ _. (
        1 + k.0,
        omega arith,
        omega (arith, up.2, k.1),
        sym (acts (1 + k.0) false f (item (p.at k.0) (1 + k.0) _ (up.1 k.0 k.1) (item_there (p.at k.0) _ k.2))).1,
      ))
