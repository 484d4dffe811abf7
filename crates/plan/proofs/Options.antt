-- Fields of options, by their table: a field that is given stands before the map of good parties, and the offsets are small. By induction along
-- the options. Assumes nothing.
use mathlib.Core.Path.{◌≡◌, refl, sym, ap, ◌∙◌}
use mathlib.Core.Bool.{Bool, true, false}
use mathlib.Core.List.{List, [], ◌∷◌}
use Prim.Native.Nat.{ℕ, zero, suc, ◌+◌, ◌-◌, ◌*◌, ◌≤◌, ◌<◌, min}
use native.Mathlib.Decide.{ℕ_discrete}
use native.Mathlib.Omega.{arith}
use borrow.Author.Tests.{ltb-true, ltb-false}
use lib.Dec.{ltb}
use lib.ListN.{length, get_or, get_or-eq_default}
use Rattle.bitmap.specs.Bitmap.{names}
use Rattle.plan.specs.Layout.{fields, field_bytes, field_at}

-- no field has more than 255 bytes, since all together have no more
unfoldable sum : List ℕ → ℕ
sum [] = 0
sum (x ∷ xs) = x + sum xs

one_of : (l : List ℕ) (k : ℕ) → get_or l k 0 ≤ sum l
unfolding sum
one_of [] k = omega arith
one_of (x ∷ xs) zero = omega arith
one_of (x ∷ xs) (suc k) = omega (arith, one_of xs k)

pub width-short : (k : ℕ) → get_or fields k 0 ≤ 255
unfolding sum
width-short k = omega (arith, one_of fields k)

module _ (o : ℕ) where
  -- an option more
  pub field-more : (k : ℕ) → names o (k + 1) ≡ true → field_bytes (suc k) o ≡ field_bytes k o + get_or fields k 0
  unfolding field_bytes
  field-more k h = rw h

  pub field-none : (k : ℕ) → names o (k + 1) ≡ false → field_bytes (suc k) o ≡ field_bytes k o
  unfolding field_bytes
  field-none k h = rw h (omega arith)

  -- by whether it stands, at the next number
  by_name : (P : ℕ → Type 0) (k : ℕ) → P (field_bytes k o + get_or fields k 0) → P (field_bytes k o) → P (field_bytes (suc k) o)
  by_name P k a b = go (names o (k + 1)) refl
    where
      go : (t : Bool) → names o (k + 1) ≡ t → P (field_bytes (suc k) o)
      go true h = rw (field-more k h) a
      go false h = rw (field-none k h) b

  pub fields-short : (k : ℕ) → field_bytes k o ≤ 255 * k
  unfolding field_bytes
  fields-short zero = omega arith
  fields-short (suc k) =
      by_name (λ (x : ℕ). x ≤ 255 * suc k) k (omega (arith, fields-short k, width-short k)) (omega (arith, fields-short k))

  -- the fields of fewer options are no longer, and there are none beyond the table
  fields_within : (k m : ℕ) → k ≤ m → field_bytes k o ≤ field_bytes m o
  fields_within k zero h = let e : k ≡ zero = omega arith in omega (arith, ap (λ (j : ℕ). field_bytes j o) e)
  fields_within k (suc m) h = elim (ℕ_discrete k (suc m)) [
    | yes e ↦ omega (arith, ap (λ (j : ℕ). field_bytes j o) e)
    | no d ↦ let r = fields_within k m (omega arith) in
        by_name (λ (x : ℕ). field_bytes k o ≤ x) m (omega (arith, r)) r
  ]

  pub fields-all : (k : ℕ) → length fields ≤ k → field_bytes k o ≡ field_bytes (length fields) o
  fields-all zero h = absurd (omega arith)
  fields-all (suc k) h = elim (ℕ_discrete (suc k) (length fields)) [
    | yes e ↦ ap (λ (j : ℕ). field_bytes j o) e
    | no d ↦ let r = fields-all k (omega arith) in
        by_name (λ (x : ℕ). x ≡ field_bytes (length fields) o) k
        (omega (arith, r, get_or-eq_default fields 0 {n = k} (omega arith))) r
  ]

  -- the field of an option that the map names ends before the map of good parties
  pub field-inside : (k : ℕ) → k < length fields → names o (k + 1) ≡ true
      → field_at o (k + 1) + get_or fields k 0 ≤ field_at o (length fields + 1)
  field-inside k h n =
      let e : k + 1 - 1 ≡ k = omega arith in
      omega (arith, ap (λ (j : ℕ). field_bytes j o) e, field-more k n, fields_within (suc k) (length fields) (omega arith))

  -- the fields of the options below k, as far as option i + 1
  pub field-turn : (k i : ℕ) → i + 1 < k → names o (i + 1) ≡ true → field_bytes (min (i + 1) (k - 1)) o ≡ field_bytes (min i (k - 1)) o + get_or fields i 0
  field-turn k i h n =
      let a : min (i + 1) (k - 1) ≡ suc i = omega arith in
      let b : min i (k - 1) ≡ i = omega arith in
      rw (a, b) (field-more i n)

  pub field-skip : (k i : ℕ) → (i + 1 < k → names o (i + 1) ≡ false) → field_bytes (min (i + 1) (k - 1)) o ≡ field_bytes (min i (k - 1)) o
  field-skip k i h = go (ltb (i + 1) k) refl
    where
      go : (b : Bool) → ltb (i + 1) k ≡ b → field_bytes (min (i + 1) (k - 1)) o ≡ field_bytes (min i (k - 1)) o
      go true e =
          let l = ltb-true (i + 1) k e in
          let a : min (i + 1) (k - 1) ≡ suc i = omega arith in
          let b : min i (k - 1) ≡ i = omega arith in
          rw (a, b) (field-none i (h l))
      go false e =
          let l = ltb-false (i + 1) k e in
          let a : min (i + 1) (k - 1) ≡ min i (k - 1) = omega arith in
          ap (λ (j : ℕ). field_bytes j o) a

  -- those of all options
  pub fields-end : (k : ℕ) → field_bytes (min (length fields) k) o ≡ field_bytes k o
  fields-end k = go (ltb (length fields) k) refl
    where
      go : (b : Bool) → ltb (length fields) k ≡ b → field_bytes (min (length fields) k) o ≡ field_bytes k o
      go true e =
          let l = ltb-true (length fields) k e in
          let a : min (length fields) k ≡ length fields = omega arith in
          ap (λ (j : ℕ). field_bytes j o) a ∙ sym (fields-all k (omega arith))
      go false e =
          let l = ltb-false (length fields) k e in
          let a : min (length fields) k ≡ k = omega arith in
          ap (λ (j : ℕ). field_bytes j o) a

pub ruleset offsets = (width-short, fields-short, field-turn, field-skip, fields-end, field-inside)
