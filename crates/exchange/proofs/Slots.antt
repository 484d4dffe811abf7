-- What good parties wrote, each in its slot: a slot more, by what is written there and what stands before it, and a slot read. Assumes nothing.
use mathlib.Core.Path.{◌≡◌, sym, ap, ap₂, ◌∙◌}
use mathlib.Core.Bool.{true, false, true≢false}
use mathlib.Core.List.{List, ◌++◌}
use Prim.Native.Nat.{ℕ, ◌+◌, ◌-◌, ◌*◌, ◌≤◌, ◌<◌, min}
use native.Mathlib.Decide.{ℕ_discrete}
use native.Mathlib.Omega.{arith}
use lib.ListN.{length, get_or, take, drop, set, length-drop, take-append-drop}
use lib.Seq.{length-take-le, take-append-le, take-append_seam, drop-append-le, drop_at, get_or-set_same, get_or-set_other}
use Rattle.buffer.specs.Splice.{spliced}
use Rattle.buffer.proofs.Rows.{row_inside}
use Rattle.bitmap.specs.Bitmap.{names}
use Rattle.exchange.specs.Exchange.{slot_of, Slots}

-- a part of a list's front
part-front : (p x : List ℕ) (a l : ℕ) → a + l ≤ length p → take l (drop a (p ++ x)) ≡ take l (drop a p)
part-front p x a l h =
    ap (take l) (drop-append-le a p x (omega arith)) ∙ take-append-le l (drop a p) x (omega (arith, length-drop a p))

-- what stands before an offset that is written to, and what is written there
module _ (d : List ℕ) (at : ℕ) (w : List ℕ) (inside : at ≤ length d) where
  part-before : (a l : ℕ) → a + l ≤ at → take l (drop a (spliced d at w)) ≡ take l (drop a d)
  unfolding spliced
  part-before a l h =
      let front : length (take at d) ≡ at = length-take-le at d inside in
      part-front (take at d) (w ++ drop (at + length w) d) a l (omega arith)
      ∙ sym (part-front (take at d) (drop at d) a l (omega arith))
      ∙ ap (λ (x : List ℕ). take l (drop a x)) (take-append-drop at d)

  part-there : take (length w) (drop at (spliced d at w)) ≡ w
  unfolding spliced
  part-there =
      ap (take (length w)) (drop_at (take at d) (w ++ drop (at + length w) d) at (length-take-le at d inside))
      ∙ take-append_seam w (drop (at + length w) d)

module _ (g size : ℕ) (f : ℕ → List ℕ) where
  pub slots-none : (all lens : List ℕ) → Slots g size f 0 all lens
  slots-none all lens j h c = absurd (omega arith)

  -- the slot of a bad party holds nothing
  pub slots-skip : (k : ℕ) (all lens o ls : List ℕ) → o ≡ all → ls ≡ lens → names g (k + 1) ≡ false → Slots g size f k all lens
      → Slots g size f (k + 1) o ls
  slots-skip k all lens o ls eo el bad old j h c = elim (ℕ_discrete j k) [
    | yes e ↦ absurd (true≢false (sym c ∙ ap (λ (i : ℕ). names g (i + 1)) e ∙ bad))
    | no ne ↦
        let w = old j (omega arith) c in
        let same : get_or ls j 0 ≡ get_or lens j 0 = ap (λ (l : List ℕ). get_or l j 0) el in (
          omega (arith, w.0),
          ap₂ (λ (l : ℕ) (y : List ℕ). take l (drop (j * size) y)) same eo ∙ w.1,
        )
  ]

  -- what a good party wrote, in the next slot
  pub slots-more : (k at r : ℕ) (all lens o ls : List ℕ) → at ≡ k * size → r ≡ length (f (k + 1)) → o ≡ spliced all at (f (k + 1))
      → ls ≡ set lens k r → r ≤ size → at ≤ length all → k < length lens → Slots g size f k all lens → Slots g size f (k + 1) o ls
  slots-more k at r all lens o ls ea er eo el short inside few old j h c = elim (ℕ_discrete j k) [
    | yes e ↦
        let same : get_or ls j 0 ≡ r = ap₂ (λ (l : List ℕ) (i : ℕ). get_or l i 0) el e ∙ get_or-set_same lens k r 0 few in (
          omega (arith, same),
          ap₂ (λ (l x : ℕ). take l (drop x o)) (same ∙ er) (ap (λ (i : ℕ). i * size) e ∙ sym ea)
              ∙ ap (λ (y : List ℕ). take (length (f (k + 1))) (drop at y)) eo
              ∙ part-there all at (f (k + 1)) inside
              ∙ ap (λ (i : ℕ). f (i + 1)) (sym e),
        )
    | no ne ↦
        let same : get_or ls j 0 ≡ get_or lens j 0 = ap (λ (l : List ℕ). get_or l j 0) el ∙ get_or-set_other lens k j r 0 ne in
        let w = old j (omega arith) c in (
          omega (arith, same, w.0),
          ap (λ (l : ℕ). take l (drop (j * size) o)) same
              ∙ ap (λ (y : List ℕ). take (get_or lens j 0) (drop (j * size) y)) eo
              ∙ part-before all at (f (k + 1)) inside (j * size) (get_or lens j 0)
              (omega (arith, row_inside k j size (omega arith), w.0))
              ∙ w.1,
        )
  ]

  -- what stands in a good party's slot
  pub slot-of : (n p : ℕ) (all lens : List ℕ) → Slots g size f n all lens → 1 ≤ p → p ≤ n → names g p ≡ true
      → (get_or lens (p - 1) 0 ≤ size) × (take (get_or lens (p - 1) 0) (drop ((p - 1) * size) all) ≡ f p)
  slot-of n p all lens old low high c =
      let e : p - 1 + 1 ≡ p = omega arith in
      let w = old (p - 1) (omega arith) (ap (names g) e ∙ c) in
      (w.0, w.1 ∙ ap f e)

  pub slot_is : (n p : ℕ) (all lens : List ℕ) → Slots g size f n all lens → 1 ≤ p → p ≤ n → names g p ≡ true → slot_of size all lens p ≡ f p
  unfolding slot_of
  slot_is n p all lens old low high c =
      let w = slot-of n p all lens old low high c in
      let e : min (get_or lens (p - 1) 0) size ≡ get_or lens (p - 1) 0 = omega (arith, w.0) in
      ap (λ (k : ℕ). take k (drop ((p - 1) * size) all)) e ∙ w.1
