-- What holds where shares are hashed and a check is not refused, by plain facts about numbers; and that the test of two lists tells whether
-- they are one. Assumes nothing.
use mathlib.Core.Path.{◌≡◌, refl, sym, ap, ap₂, ◌∙◌}
use mathlib.Core.Bool.{Bool, true, false, cond, not, ◌&&◌}
use mathlib.Core.List.{List, [], ◌∷◌, ◌++◌, map}
use Prim.Native.Nat.{ℕ, ◌+◌, ◌-◌, ◌*◌, ◌/◌, ◌%◌, ◌≤◌}
use native.Mathlib.Nat.{div-add-mod}
use native.Mathlib.Omega.{arith}
use borrow.Author.Tests.{le-ltb, eq-eqb, ne_eqb, ltb-false, eqb-true}
use lib.Dec.{ltb, eqb}
use lib.ListN.{length, take, replicate}
use Rattle.limits.specs.Limits.{max_parties, max_hashed, parties}
use lib.Pointwise.{pointwise}
use Rattle.limits.proofs.Ranges.{parties-some, parties-range, numbered_within}
use Rattle.limits.proofs.Booleans.{both}
use Rattle.merkle.specs.Tree.{folded}
use Rattle.merkle.specs.Shares.{leaf_string, leaf_strings, front_length, blank, shares_cause, leaves_of, sides_of, same, passes, check_of}
use Rattle.merkle.specs.Answer.{answer_of}

-- n equal shares of len bytes together, within the limits
pub record Even (session n len : ℕ) : Type 0 where
  pub low : 1 ≤ n
  pub high : n ≤ max_parties
  pub short : front_length session + len / n ≤ max_hashed
  pub whole : len % n ≡ 0

-- equal shares within the limits are hashed
pub cause-fine : (session n len : ℕ) → 1 ≤ n → n ≤ max_parties → front_length session + len / n ≤ max_hashed → len % n ≡ 0
    → shares_cause session n len ≡ 0
unfolding shares_cause
cause-fine session n len low high short h =
    rw (parties-some n low high, le-ltb max_hashed (front_length session + len / n) short, eq-eqb (len % n) 0 h)

-- a cause is 0 only where no test holds
none-holds : (a b c : Bool) → ◌≡◌ {A = ℕ} (cond (not a) 1 (cond b 4 (cond (not c) 8 0))) 0 → (a ≡ true) × (b ≡ false) × (c ≡ true)
none-holds false b c e = absurd (omega arith)
none-holds true true c e = absurd (omega arith)
none-holds true false true e = (refl, refl, refl)
none-holds true false false e = absurd (omega arith)

pub even-of : (session n len : ℕ) → shares_cause session n len ≡ 0 → Even session n len
unfolding shares_cause
even-of session n len e =
    let h = none-holds (parties n) (ltb max_hashed (front_length session + len / n)) (eqb (len % n) 0) e in
    let (low, high) = parties-range n h.0 in
    record { low = low; high = high; short = ltb-false max_hashed (front_length session + len / n) h.1; whole = eqb-true (len % n) 0 h.2 }

pub even-told : {session n len cause : ℕ} → cause ≡ shares_cause session n len → cause ≡ 0 → Even session n len
even-told {session} {n} {len} e h = even-of session n len (sym e ∙ h)

-- the shares are all of the bytes
pub even-whole : (session n len : ℕ) → Even session n len → n * (len / n) ≡ len
even-whole session n len v = omega (arith, div-add-mod len n, v.whole)

module _ (H : List ℕ → List ℕ) (session n : ℕ) (shares : List ℕ) where
  pub leaves-fine : shares_cause session n (length shares) ≡ 0
      → leaves_of H session n shares ≡ map H (leaf_strings session n shares) ++ replicate (max_parties - n) blank
  unfolding leaves_of
  leaves-fine h = rw (eq-eqb (shares_cause session n (length shares)) 0 h)

module _ (H : List ℕ → List ℕ) (session n j : ℕ) (share : List ℕ) (path : List (List ℕ)) (count : ℕ) (root : List ℕ) where
  pub check-judged : 1 ≤ n → n ≤ max_parties → 1 ≤ j → j ≤ n → front_length session + length share ≤ max_hashed → length root ≡ 32
      → check_of H session n j share path count root ≡ answer_of (passes H session n j share path count root)
  unfolding check_of
  check-judged low high first last short h =
      rw (
        parties-some n low high,
        numbered_within n j first last,
        le-ltb max_hashed (front_length session + length share) short,
        eq-eqb (length root) 32 h,
      )

  pub passes-miscount : (count ≡ length (sides_of n j) → ⊥) → passes H session n j share path count root ≡ false
  unfolding passes
  passes-miscount h = rw (ne_eqb count (length (sides_of n j)) h)

  pub passes_same : count ≡ length (sides_of n j) → passes H session n j share path count root
      ≡ same (folded H (sides_of n j) (take count path) (H (leaf_string session j share))) root
  unfolding passes
  passes_same h = rw (eq-eqb count (length (sides_of n j)) h)

-- two lists that are tested are one where the test says so, and only there
never : false ≡ true → ⊥
never q = let z : ◌≡◌ {A = ℕ} 0 1 = cc in omega arith

pub same_true : (a b : List ℕ) → same a b ≡ true → a ≡ b
unfolding same
same_true [] [] e = refl
same_true [] (y ∷ b) e = absurd (never e)
same_true (x ∷ a) [] e = absurd (never e)
same_true (x ∷ a) (y ∷ b) e =
    let h = both (eqb x y) (same a b) e in
    ap₂ {C = List ℕ} (λ z l. z ∷ l) (eqb-true x y h.0) (same_true a b h.1)

pub same_refl : (a : List ℕ) → same a a ≡ true
unfolding same
same_refl [] = refl
same_refl (x ∷ a) = rw (eq-eqb x x refl) (same_refl a)

-- it is the test of `==`
pub same-eq : (a b : List ℕ) → same a b ≡ pointwise eqb a b
unfolding same
same-eq [] [] = refl
same-eq [] (y ∷ b) = refl
same-eq (x ∷ a) [] = refl
same-eq (x ∷ a) (y ∷ b) = ap (λ (t : Bool). eqb x y && t) (same-eq a b)

-- for `check`, which compares by `==`
pub ruleset compared = (same-eq)

-- a path passes only where its count is right and it leads to the root
pub passes-true : (H : List ℕ → List ℕ) (session n j : ℕ) (share : List ℕ) (path : List (List ℕ)) (count : ℕ) (root : List ℕ)
    → passes H session n j share path count root ≡ true → (count ≡ length (sides_of n j))
    × (folded H (sides_of n j) (take count path) (H (leaf_string session j share)) ≡ root)
unfolding passes
passes-true H session n j share path count root e =
    let top : List ℕ = folded H (sides_of n j) (take count path) (H (leaf_string session j share)) in
    let h = both (eqb count (length (sides_of n j))) (same top root) e in
    (eqb-true count (length (sides_of n j)) h.0, same_true top root h.1)
