-- All packets that bad parties send to one party in an exchange are together no longer than the exchange. By what holds of any walk whose steps
-- pass a part that stands before what is left: all parts and what is left at last are together no longer than the list. Assumes nothing.
use mathlib.Core.Path.{◌≡◌, refl, sym, ap, subst, ◌∙◌}
use mathlib.Core.Bool.{Bool, true, false, cond, not, ◌&&◌, ◌||◌}
use mathlib.Core.List.{List, []}
use mathlib.Core.Option.{Option, none, some}
use Prim.Native.Nat.{ℕ, zero, suc, ◌+◌, ◌-◌, ◌≤◌, ◌<◌, ◌^◌}
use native.Mathlib.Nat.{add-zero}
use native.Mathlib.Decide.{ℕ_discrete}
use native.Mathlib.Omega.{arith}
use lib.Dec.{ltb}
use lib.ListN.{length, drop, length-take, length-drop}
use Rattle.limits.specs.Limits.{numbered}
use Rattle.limits.proofs.Booleans.{both}
use Rattle.limits.proofs.Ranges.{numbered-range}
use Rattle.buffer.specs.Entries.{size, body, rest}
use Rattle.bitmap.specs.Bitmap.{names}
use Rattle.plan.specs.Layout.{map_width, member, within, and_then, or_empty, walk, skip_entry, skip_entries, party_entry, skip_block, block_entry}
use Rattle.plan.specs.Layout.{skip_blocks, packet_from}

-- f of k numbers from p on, added up
unfoldable pub total : ℕ → ℕ → (ℕ → ℕ) → ℕ
total zero p f = 0
total (suc k) p f = f p + total k (p + 1) f

pub total-most : (k p : ℕ) (f g : ℕ → ℕ) → ((q : ℕ) → p ≤ q → q < p + k → f q ≤ g q) → total k p f ≤ total k p g
unfolding total
total-most zero p f g h = omega arith
total-most (suc k) p f g h =
    omega (arith, h p (omega arith) (omega arith), total-most k (p + 1) f g (λ q l m. h q (omega arith) (omega arith)))

pub total-last : (k p : ℕ) (f : ℕ → ℕ) → total (suc k) p f ≡ total k p f + f (p + k)
unfolding total
total-last zero p f = omega (arith, ap f (add-zero p))
total-last (suc k) p f =
    let e : p + 1 + k ≡ p + suc k = omega arith in
    let h : total k (p + 1) f + f (p + suc k) ≡ total (suc k) (p + 1) f = ap (λ (j : ℕ). total k (p + 1) f + f j) (sym e) ∙ sym (total-last k (p + 1) f) in
    omega (arith, h)

pub one-term : (n p q : ℕ) (f : ℕ → ℕ) → p ≤ q → q < p + n → f q ≤ total n p f
unfolding total
one-term zero p q f l h = absurd (omega arith)
one-term (suc n) p q f l h = elim (ℕ_discrete p q) [
  | yes e ↦ omega (arith, ap f e)
  | no d ↦ omega (arith, one-term n (p + 1) q f (omega arith) (omega arith))
]

-- the parts that a walk passes, each of f bytes
module _ (takes : ℕ → Bool) (step : List ℕ → Option (List ℕ)) (f : List ℕ → ℕ)
    (fits : (y : List ℕ) → f y + length (or_empty (step y)) ≤ length y) (s : List ℕ) where
  abbrev part : ℕ → ℕ
  part q = cond (takes q) (f (or_empty (walk takes step (q - 1) s))) 0

  parts_within : (k : ℕ) → total k 1 part + length (or_empty (walk takes step k s)) ≤ length s
  unfolding total walk
  parts_within zero = omega arith
  parts_within (suc k) =
      let e : 1 + k ≡ k + 1 = omega arith in
      let z : k + 1 - 1 ≡ k = omega arith in
      let last : part (1 + k) ≡ cond (takes (k + 1)) (f (or_empty (walk takes step k s))) 0 =
      ap part e ∙ ap (λ (j : ℕ). cond (takes (k + 1)) (f (or_empty (walk takes step j s))) 0) z in
      omega (arith, total-last k 1 part, last, go (takes (k + 1)) (walk takes step k s) (parts_within k))
    where
      go : (a : Bool) (o : Option (List ℕ)) → total k 1 part + length (or_empty o) ≤ length s
          → total k 1 part + cond a (f (or_empty o)) 0 + length (or_empty (cond a (and_then o step) o)) ≤ length s
      go true none h = omega (arith, h, fits [])
      go true (some y) h = omega (arith, h, fits y)
      go false o h = omega (arith, h)

  -- one of them, with what is left
  part-within : (n q : ℕ) → 1 ≤ q → q ≤ n → part q + length (or_empty (walk takes step n s)) ≤ length s
  part-within n q l h = omega (arith, parts_within n, one-term n 1 q part l (omega arith))

-- an entry and what stands behind it
entry-fits : (y : List ℕ) → length (body y) + length (or_empty (skip_entry y)) ≤ length y
unfolding body rest skip_entry
entry-fits y = go (ltb (length y) (2 + size y)) refl
  where
    go : (a : Bool) → ltb (length y) (2 + size y) ≡ a
        → length (body y) + length (or_empty (cond a none (some (rest y)))) ≤ length y
    go true e = omega (arith, length-take (size y) (drop 2 y), length-drop 2 y)
    go false e = omega (arith, length-take (size y) (drop 2 y), length-drop 2 y, length-drop (2 + size y) y)

-- a party's entry, with what stands behind the entries of all
pub entries_fit : (n map q : ℕ) (s : List ℕ) → length (party_entry n map q s) + length (or_empty (skip_entries n map s)) ≤ length s
unfolding party_entry
entries_fit n map q s = go (member n map q) refl
  where
    x : List ℕ
    x = body (or_empty (skip_entries (q - 1) map s))

    y : List ℕ
    y = or_empty (skip_entries n map s)

    go : (b : Bool) → member n map q ≡ b → length (cond b x []) + length y ≤ length s
    go true e =
        let t = both (numbered n q) (names map q) e in
        let r = numbered-range n q t.0 in
        subst (λ (b : Bool). cond b (length x) 0 + length y ≤ length s) t.1
        (part-within (names map) skip_entry (λ z. length (body z)) entry-fits s n q r.0 r.1)
    go false e = omega (arith, parts_within (names map) skip_entry (λ z. length (body z)) entry-fits s n)

-- a packet, with what stands behind its sender's block
block-fits : (n g i : ℕ) (y : List ℕ) → length (block_entry n i y) + length (or_empty (skip_block n g y)) ≤ length y
unfolding skip_block
block-fits n g i y =
    go (ltb (length y) map_width || not (ltb (size y) (2 ^ n)) || not (within n (size y) g))
    (omega (arith, entries_fit n (size y) i (drop map_width y), length-drop map_width y))
  where
    go : (a : Bool) → length (block_entry n i y) + length (or_empty (skip_entries n (size y) (drop map_width y))) ≤ length y
        → length (block_entry n i y) + length (or_empty (cond a none (skip_entries n (size y) (drop map_width y)))) ≤ length y
    go true h = omega (arith, h)
    go false h = h

-- the lengths of all packets to party i
module _ (n g i : ℕ) (s : List ℕ) where
  unfoldable pub packet_length : ℕ → ℕ
  packet_length q = cond (names g q) 0 (length (packet_from n g q i s))

  pub packets-within : total n 1 packet_length ≤ length s
  unfolding packet_length packet_from
  packets-within =
      let takes : ℕ → Bool = λ p. not (names g p) in
      let f : List ℕ → ℕ = λ y. length (block_entry n i y) in
      omega (
        arith,
        total-most n 1 packet_length (part takes (skip_block n g) f (block-fits n g i) s) (λ q l m. go q (names g q) (numbered n q)),
        parts_within takes (skip_block n g) f (block-fits n g i) s n,
      )
    where
      go : (q : ℕ) (a b : Bool) → let x : List ℕ = block_entry n i (or_empty (skip_blocks (q - 1) n g s)) in
          cond a 0 (length (cond (b && not a) x [])) ≤ cond (not a) (length x) 0
      go q true b = omega arith
      go q false true = omega arith
      go q false false = omega arith
