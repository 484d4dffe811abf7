-- The shares present among entries: their numbers rise, each is the place of its entry, and none is empty, by induction along the
-- entries. So the numbers are distinct bytes. Assumes nothing.
use mathlib.Core.Path.{◌≡◌, refl, sym, ap, subst, ◌∙◌}
use mathlib.Core.Bool.{Bool, true, false, cond}
use mathlib.Core.List.{List, [], ◌∷◌}
use Prim.Native.Nat.{ℕ, zero, suc, ◌+◌, ◌-◌, ◌<◌, ◌≤◌}
use native.Mathlib.Decide.{dec_lt}
use native.Mathlib.Omega.{arith}
use borrow.Author.Tests.{eqb-false}
use lib.Dec.{eqb, lit<}
use lib.ListN.{length, get_or, take, get_or-eq_default}
use lib.Seq.{get_or-take}
use Rattle.buffer.specs.Entries.{rest, bodies}
use Rattle.polynomial.specs.Polynomial.{Distinct}
use Rattle.buffer.specs.Bounds.{Bytes}
use Rattle.buffer.proofs.Bounds.{body_bytes, rest-bytes}
use Rattle.erasure.specs.Rebuild.{Point, present, point}

-- points ps taken in order from the entries es, which are numbered from j on
pub record Taken (j : ℕ) (es : List (List ℕ)) (ps : List Point) : Type 0 where
  pub from : (i : ℕ) → i < length ps → j ≤ (point ps i).number
  pub below : (i : ℕ) → i < length ps → (point ps i).number < j + length es
  pub rising : (i k : ℕ) → i < k → k < length ps → (point ps i).number < (point ps k).number
  pub full : (i : ℕ) → i < length ps → 1 ≤ length (point ps i).share
  pub place : (i : ℕ) → i < length ps → (point ps i).share ≡ get_or es ((point ps i).number - j) []

module _ (j : ℕ) (e : List ℕ) (es : List (List ℕ)) (ps : List Point) (h : Taken (j + 1) es ps) where
  skip : Taken j (e ∷ es) ps
  skip = record {
    from = λ i l. omega (arith, h.from i l);
    below = λ i l. omega (arith, h.below i l);
    rising = h.rising;
    full = h.full;
    place = λ i l. h.place i l ∙ ap (λ (n : ℕ). get_or (e ∷ es) n []) (shift i l);
  }
    where
      shift : (i : ℕ) → i < length ps → suc ((point ps i).number - (j + 1)) ≡ (point ps i).number - j
      shift i l = omega (arith, h.from i l)

  keep : 1 ≤ length e → Taken j (e ∷ es) (record { number = j; share = e } ∷ ps)
  unfolding point
  keep f = record { from = from; below = below; rising = rising; full = full; place = place }
    where
      qs : List Point
      qs = record { number = j; share = e } ∷ ps

      from : (i : ℕ) → i < length qs → j ≤ (point qs i).number
      from zero l = omega arith
      from (suc i) l = skip.from i (omega arith)

      below : (i : ℕ) → i < length qs → (point qs i).number < j + length (e ∷ es)
      below zero l = omega arith
      below (suc i) l = skip.below i (omega arith)

      rising : (i k : ℕ) → i < k → k < length qs → (point qs i).number < (point qs k).number
      rising i zero a l = absurd (omega arith)
      rising zero (suc k) a l = omega (arith, h.from k (omega arith))
      rising (suc i) (suc k) a l = h.rising i k (omega arith) (omega arith)

      full : (i : ℕ) → i < length qs → 1 ≤ length (point qs i).share
      full zero l = f
      full (suc i) l = h.full i (omega arith)

      place : (i : ℕ) → i < length qs → (point qs i).share ≡ get_or (e ∷ es) ((point qs i).number - j) []
      place zero l = let z : 0 ≡ j - j = omega arith in ap (λ (n : ℕ). get_or (e ∷ es) n []) z
      place (suc i) l = skip.place i (omega arith)

  either : (t : Bool) → eqb (length e) 0 ≡ t → Taken j (e ∷ es) (cond t ps (record { number = j; share = e } ∷ ps))
  either true q = skip
  either false q = let n = eqb-false (length e) 0 q in keep (omega arith)

pub taken : (j : ℕ) (es : List (List ℕ)) → Taken j es (present j es)
unfolding present
taken j [] = record {
  from = λ i l. absurd (omega arith);
  below = λ i l. absurd (omega arith);
  rising = λ i k a l. absurd (omega arith);
  full = λ i l. absurd (omega arith);
  place = λ i l. absurd (omega arith);
}
taken j (e ∷ es) = either j e es (present (j + 1) es) (taken (j + 1) es) (eqb (length e) 0) refl

-- past the last point there is number 0 and an empty share
pub point-none : (ps : List Point) (i : ℕ) → length ps ≤ i → point ps i ≡ record { number = 0; share = [] }
unfolding point
point-none ps i h = get_or-eq_default ps _ h

-- the numbers of entries 1, 2, .. are distinct bytes

module _ (es : List (List ℕ)) where
  pub number_lt : length es < 256 → (i : ℕ) → (point (present 1 es) i).number < 256
  number_lt h i = elim (dec_lt i (length (present 1 es))) [
    | yes l ↦ omega (arith, (taken 1 es).below i l)
    | no n ↦
        let z : (point (present 1 es) i).number ≡ 0 = ap (λ (p : Point). p.number) (point-none (present 1 es) i (omega arith)) in
        omega arith
  ]

  pub number-distinct : (b : ℕ) → b ≤ length (present 1 es) → Distinct b (λ i. (point (present 1 es) i).number)
  number-distinct b h i k hi hk e = elim (dec_lt i k) [
    | yes l ↦ absurd (omega (arith, (taken 1 es).rising i k l (omega arith)))
    | no n ↦ elim (dec_lt k i) [
      | yes l ↦ absurd (omega (arith, (taken 1 es).rising k i l (omega arith)))
      | no o ↦ omega arith
    ]
  ]

  pub present-bytes : ((i : ℕ) → Bytes (get_or es i [])) → (i : ℕ) → Bytes (point (present 1 es) i).share
  present-bytes h i = elim (dec_lt i (length (present 1 es))) [
    | yes l ↦ subst Bytes (sym ((taken 1 es).place i l)) (h ((point (present 1 es) i).number - 1))
    | no n ↦ subst (λ (p : Point). Bytes p.share) (sym (point-none (present 1 es) i (omega arith))) (λ c. lit< tt)
  ]

-- the points used are the first b of the points present
pub point-used : (b : ℕ) (ps : List Point) (i : ℕ) → i < b → point (take b ps) i ≡ point ps i
unfolding point
point-used b ps i h = get_or-take b ps i _ h

-- entries that lie one behind the other in a list

pub bodies-bytes : (n : ℕ) (l : List ℕ) → Bytes l → (i : ℕ) → Bytes (get_or (bodies n l) i [])
unfolding bodies
bodies-bytes zero l h i = λ c. lit< tt
bodies-bytes (suc n) l h zero = body_bytes l h
bodies-bytes (suc n) l h (suc i) = bodies-bytes n (rest l) (rest-bytes l h) i
