-- Laws of walks and of tests over the first numbers. A walk goes past a number that takes no step, takes a step at an offset, and finds nothing
-- behind one that finds nothing. By induction along the numbers. Assumes nothing.
use mathlib.Core.Path.{◌≡◌, refl, sym, ap, ◌∙◌}
use mathlib.Core.Bool.{true≢false, Bool, true, false, cond}
use mathlib.Core.List.{List}
use mathlib.Core.Option.{Option, none, some}
use Prim.Native.Nat.{ℕ, zero, suc, ◌+◌, ◌≤◌, ◌<◌}
use native.Mathlib.Numerals.{add-one}
use native.Mathlib.Decide.{ℕ_discrete}
use native.Mathlib.Omega.{arith}
use Rattle.limits.proofs.Booleans.{both}
use Rattle.plan.specs.Layout.{every, and_then, walk}

-- a walk of one number more than k, which left y
module _ (takes : ℕ → Bool) (step : List ℕ → Option (List ℕ)) (x : List ℕ) where
  pub walk_start : walk takes step 0 x ≡ some x
  unfolding walk
  walk_start = refl

  module _ (k : ℕ) (y : List ℕ) (before : walk takes step k x ≡ some y) where
    pub walk-past : takes (k + 1) ≡ false → walk takes step (k + 1) x ≡ some y
    unfolding walk
    walk-past h = rw (add-one k, h) before

    pub walk_step : takes (k + 1) ≡ true → walk takes step (k + 1) x ≡ step y
    unfolding walk
    walk_step h = rw (add-one k, h, before)

  walk_none : (k n : ℕ) → k ≤ n → walk takes step k x ≡ none → walk takes step n x ≡ none
  unfolding walk
  walk_none k zero h e = let z : 0 ≡ k = omega arith in ap (λ (j : ℕ). walk takes step j x) z ∙ e
  walk_none k (suc n) h e = elim (ℕ_discrete (suc n) k) [
    | yes z ↦ ap (λ (j : ℕ). walk takes step j x) z ∙ e
    | no d ↦ go (takes (n + 1)) (walk_none k n (omega arith) e)
  ]
    where
      go : (b : Bool) → walk takes step n x ≡ none → cond b (and_then (walk takes step n x) step) (walk takes step n x) ≡ none
      go true r = ap (λ (o : Option (List ℕ)). and_then o step) r
      go false r = r

  -- a step that finds nothing ends a walk of more numbers too
  pub walk-stops : (k n : ℕ) → k + 1 ≤ n → (y : List ℕ) → walk takes step k x ≡ some y → takes (k + 1) ≡ true → step y ≡ none
      → walk takes step n x ≡ none
  walk-stops k n l y before h e = walk_none (k + 1) n l (walk_step k y before h ∙ e)

-- a test of all
module _ (test : ℕ → Bool) where
  pub every-each : (k q : ℕ) → every test k ≡ true → 1 ≤ q → q ≤ k → test q ≡ true
  unfolding every
  every-each zero q h l m = absurd (omega arith)
  every-each (suc k) q h l m =
      let b = both (test (k + 1)) (every test k) h in
      elim (ℕ_discrete q (k + 1)) [
        | yes e ↦ ap test e ∙ b.0
        | no d ↦ every-each k q b.1 l (omega arith)
      ]

  pub every-all : (k : ℕ) → ((q : ℕ) → 1 ≤ q → q < k + 1 → test q ≡ true) → every test k ≡ true
  unfolding every
  every-all zero h = refl
  every-all (suc k) h = rw (h (k + 1) (omega arith) (omega arith)) (every-all k (λ q l m. h q l (omega arith)))

  -- by a test of them all
  pub every-told : (k : ℕ) (r : Bool) → (r ≡ true → (q : ℕ) → 1 ≤ q → q < k + 1 → test q ≡ true)
      → (r ≡ false → (q : ℕ) × (1 ≤ q) × (q < k + 1) × (test q ≡ false)) → r ≡ every test k
  every-told k true h f = sym (every-all k (h refl))
  every-told k false h f = go (every test k) refl
    where
      go : (b : Bool) → every test k ≡ b → false ≡ b
      go true e = let w = f refl in absurd (true≢false (sym (every-each k w.0 e w.1 (omega (arith, w.2))) ∙ w.3))
      go false e = refl
