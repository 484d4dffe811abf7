-- What a search among the parties 1 to n tells is what the definitions say by recursion. By induction along the numbers. Assumes nothing.
use mathlib.Core.Path.{◌≡◌, refl, sym, ap, ap₂, ◌∙◌}
use mathlib.Core.Bool.{Bool, true, false, cond, not, ◌&&◌, and-false}
use mathlib.Core.List.{List, ◌∷◌}
use Prim.Native.Nat.{ℕ, zero, suc, ◌+◌, ◌<◌}
use native.Mathlib.Omega.{arith}
use lib.Dec.{eqb}
use lib.Pointwise.{pointwise}
use lib.ListN.{length}
use Rattle.std.specs.Bool.{MatchBool}
use Rattle.std.specs.List.{range_with_len, filter, AllWithin, HoldsAt}
use Rattle.std.specs.Option.{MatchOption, unwrap_or}
use Rattle.std.specs.declared.option.Option.{Option}
use Rattle.std.specs.declared.option.Option.TheVariants.{None, Some}
use Rattle.bitmap.specs.Bitmap.{names}
use Rattle.merkle.specs.Shares.{same}
use Rattle.plan.specs.Layout.{lowest, unnamed}
use Rattle.session.proofs.Rule.{equal-is}
use Rattle.session.specs.Session.{is_good, opened, step2, same_roots, same_bits}

-- the first that a map names
module _ (g : ℕ) where
  lowest-none : (k p : ℕ) → AllWithin (λ x. names g x ≡ false) (range_with_len p k) 0 (length (range_with_len p k)) → lowest k p g ≡ 0
  unfolding lowest
  lowest-none zero p h = refl
  lowest-none (suc k) p h = rw (h 0 0 (omega arith) (omega arith)) (lowest-none k (p + 1) (λ i d l u. h (suc i) d (omega arith) (omega arith)))

  lowest-some : (k p i x : ℕ) → names g x ≡ true → i < length (range_with_len p k) → HoldsAt (λ y. y ≡ x) (range_with_len p k) i
      → AllWithin (λ y. names g y ≡ false) (range_with_len p k) 0 i → lowest k p g ≡ x
  unfolding lowest
  lowest-some zero p i x t l h a = absurd (omega arith)
  lowest-some (suc k) p zero x t l h a = let e : names g p ≡ true = ap (names g) (h 0) ∙ t in rw e (h 0)
  lowest-some (suc k) p (suc i) x t l h a =
      let e : names g p ≡ false = a 0 0 (omega arith) (omega arith) in
      rw e (lowest-some k (p + 1) i x t (omega arith) (λ d. h d) (λ j d b u. a (suc j) d (omega arith) (omega arith)))

  pub lowest-is : (n : ℕ) (r : Option ℕ)
      → MatchOption r (AllWithin (λ p. names g p ≡ false) (range_with_len 1 n) 0 (length (range_with_len 1 n)))
      (λ x. (names g x ≡ true) × (i : ℕ) × (i < length (range_with_len 1 n)) × HoldsAt (λ y. y ≡ x) (range_with_len 1 n) i
      × AllWithin (λ p. names g p ≡ false) (range_with_len 1 n) 0 i)
      → unwrap_or r 0 ≡ lowest n 1 g
  lowest-is n None h = sym (lowest-none n 1 h)
  lowest-is n (Some x) h = sym (lowest-some n 1 h.1 x h.0 h.2 h.3 h.4)

  -- how many it does not name
  pub unnamed-are : (k p : ℕ) → length (filter (λ q. not (names g q)) (range_with_len p k)) ≡ unnamed k p g
  unfolding unnamed
  unnamed-are zero p = refl
  unnamed-are (suc k) p = go (names g p) (unnamed-are k (p + 1))
    where
      rest : List ℕ
      rest = filter (λ q. not (names g q)) (range_with_len (p + 1) k)

      go : (b : Bool) → length rest ≡ unnamed k (p + 1) g → length (cond (not b) (p ∷ rest) rest) ≡ cond b 0 1 + unnamed k (p + 1) g
      go true h = omega (arith, h)
      go false h = omega (arith, h)

module _ (H : List ℕ → List ℕ) (s : List ℕ) where
  -- all good ones put in this bit
  module _ (b : ℕ) where
    abbrev pub has_bit_b : ℕ → Bool
    has_bit_b p = cond (is_good s p) (eqb (step2 H s p).value b) true

    bits-all : (k p : ℕ) → AllWithin (λ x. has_bit_b x ≡ true) (range_with_len p k) 0 (length (range_with_len p k)) → same_bits H s k p b ≡ true
    unfolding same_bits
    bits-all zero p h = refl
    bits-all (suc k) p h =
        ap₂ (λ (x y : Bool). x && y) (h 0 0 (omega arith) (omega arith)) (bits-all k (p + 1) (λ i d l u. h (suc i) d (omega arith) (omega arith)))

    bits-not : (k p i : ℕ) → i < length (range_with_len p k) → HoldsAt (λ x. has_bit_b x ≡ false) (range_with_len p k) i → same_bits H s k p b ≡ false
    unfolding same_bits
    bits-not zero p i l h = absurd (omega arith)
    bits-not (suc k) p zero l h = ap (λ (x : Bool). x && same_bits H s k (p + 1) b) (h 0)
    bits-not (suc k) p (suc i) l h =
        ap (λ (y : Bool). has_bit_b p && y) (bits-not k (p + 1) i (omega arith) (λ d. h d)) ∙ and-false (has_bit_b p)

    pub bits-are : (n : ℕ) (r : Bool)
        → MatchBool r (AllWithin (λ x. has_bit_b x ≡ true) (range_with_len 1 n) 0 (length (range_with_len 1 n)))
        ((k : ℕ) × (k < length (range_with_len 1 n)) × HoldsAt (λ x. has_bit_b x ≡ false) (range_with_len 1 n) k)
        → r ≡ same_bits H s n 1 b
    bits-are n true h = sym (bits-all n 1 h)
    bits-are n false h = sym (bits-not n 1 h.0 h.1 h.2)

  -- all good ones put in this root
  module _ (w : List ℕ) where
    abbrev pub has_root_w : ℕ → Bool
    has_root_w p = cond (is_good s p) (pointwise eqb (opened H s p).root w) true

    as-same : (p : ℕ) → cond (is_good s p) (same (opened H s p).root w) true ≡ has_root_w p
    as-same p = ap (λ (x : Bool). cond (is_good s p) x true) (sym (equal-is (opened H s p).root w))

    roots-all : (k p : ℕ) → AllWithin (λ x. has_root_w x ≡ true) (range_with_len p k) 0 (length (range_with_len p k)) → same_roots H s k p w ≡ true
    unfolding same_roots
    roots-all zero p h = refl
    roots-all (suc k) p h =
        ap₂ (λ (x y : Bool). x && y) (as-same p ∙ h 0 0 (omega arith) (omega arith))
        (roots-all k (p + 1) (λ i d l u. h (suc i) d (omega arith) (omega arith)))

    roots-not : (k p i : ℕ) → i < length (range_with_len p k) → HoldsAt (λ x. has_root_w x ≡ false) (range_with_len p k) i → same_roots H s k p w ≡ false
    unfolding same_roots
    roots-not zero p i l h = absurd (omega arith)
    roots-not (suc k) p zero l h = ap (λ (x : Bool). x && same_roots H s k (p + 1) w) (as-same p ∙ h 0)
    roots-not (suc k) p (suc i) l h =
        ap₂ (λ (x y : Bool). x && y) (as-same p) (roots-not k (p + 1) i (omega arith) (λ d. h d)) ∙ and-false (has_root_w p)

    pub roots-are : (n : ℕ) (r : Bool)
        → MatchBool r (AllWithin (λ x. has_root_w x ≡ true) (range_with_len 1 n) 0 (length (range_with_len 1 n)))
        ((k : ℕ) × (k < length (range_with_len 1 n)) × HoldsAt (λ x. has_root_w x ≡ false) (range_with_len 1 n) k)
        → r ≡ same_roots H s n 1 w
    roots-are n true h = sym (roots-all n 1 h)
    roots-are n false h = sym (roots-not n 1 h.0 h.1 h.2)
