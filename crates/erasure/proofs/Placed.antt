-- Shares by their places: what it is that one lies well, the same of n of them, and what is rebuilt
-- from shares that lie well. Assumes nothing.
use mathlib.Core.Path.{◌≡◌, refl, sym, ap, ◌∙◌}
use mathlib.Core.Bool.{Bool, true, false, ◌&&◌, ◌||◌, true≢false}
use mathlib.Core.List.{List, [], ◌∷◌, ◌++◌}
use Prim.Native.Nat.{ℕ, zero, suc, ◌+◌, ◌-◌, ◌<◌, ◌≤◌}
use native.Mathlib.Decide.{dec_lt}
use native.Mathlib.Numerals.{add-one}
use native.Mathlib.Omega.{arith}
use borrow.Author.Count.{below_more}
use borrow.Author.Tests.{le-leb, lt-leb, leb-true, leb-false, eq-eqb, ne_eqb}
use lib.Dec.{leb, eqb}
use lib.ListN.{length, get_or, take, drop, length-drop}
use lib.Seq.{get_or-take, take-append-le, drop-append-le, drop-append-add}
use Rattle.limits.specs.Limits.{max_entry, group_cause}
use Rattle.buffer.specs.Splice.{tabulate}
use Rattle.buffer.specs.Entries.{bodies}
use Rattle.buffer.proofs.Parts.{part-rest}
use Rattle.std.proofs.Common.{Option, Some, None, MatchOption, Bor, inl, inr, ◌⊎◌}
use native.Mathlib.Nat.{sub-zero}
use Rattle.buffer.proofs.Tabulate.{length-tabulate, tabulate-cong, tabulate-get_or}
use Rattle.erasure.specs.Rebuild.{present, recovered, answered, place_at, part_at, parts_at, lies, all_lie, rebuild_at_of}
use Rattle.erasure.specs.Arrays.{InOne, Lie}
use Rattle.erasure.specs.declared.Place.{Place}
use Rattle.erasure.proofs.Outcomes.{rebuild-at-answered}

or-false : (t : Bool) → t || false ≡ t
or-false true = refl
or-false false = refl

-- One share, of len bytes from a place on, in f bytes and the g behind these.
module _ (f g from len : ℕ) where
  pub lies-missing : len ≡ 0 → lies f g from len ≡ true
  unfolding lies
  lies-missing z = rw (eq-eqb len 0 z)

  module _ (some : 1 ≤ len) where
    is_some : eqb len 0 ≡ false
    is_some = ne_eqb len 0 (λ z. omega arith)

    pub lies-long : max_entry < len → lies f g from len ≡ false
    unfolding lies
    lies-long h = rw (is_some, lt-leb len max_entry h)

    module _ (short : len ≤ max_entry) where
      lies-begun : from < f → lies f g from len ≡ leb (from + len) f
      unfolding lies
      lies-begun h = rw (is_some, le-leb len max_entry short, lt-leb f from h) (or-false (leb (from + len) f))

      lies-behind : f ≤ from → lies f g from len ≡ leb (from + len) (f + g)
      unfolding lies
      lies-behind h =
          let past : f < from + len = omega arith in
          rw (is_some, le-leb len max_entry short, lt-leb (from + len) f past, le-leb f from h)

      -- the same by differences, which no number is too great for
      pub lies-first : from < f → lies f g from len ≡ leb len (f - from)
      lies-first h = lies-begun h ∙ sym (same (leb (from + len) f) refl)
        where
          same : (t : Bool) → leb (from + len) f ≡ t → leb len (f - from) ≡ t
          same true e = le-leb len (f - from) (omega (arith, leb-true (from + len) f e))
          same false e = lt-leb len (f - from) (omega (arith, leb-false (from + len) f e))

      pub lies-none : f ≤ from → g < len → lies f g from len ≡ false
      lies-none h k = lies-behind h ∙ lt-leb (from + len) (f + g) (omega arith)

      pub lies-second : f ≤ from → len ≤ g → lies f g from len ≡ leb (from - f) (g - len)
      lies-second h k = lies-behind h ∙ sym (same (leb (from + len) (f + g)) refl)
        where
          same : (t : Bool) → leb (from + len) (f + g) ≡ t → leb (from - f) (g - len) ≡ t
          same true e = le-leb (from - f) (g - len) (omega (arith, leb-true (from + len) (f + g) e))
          same false e = lt-leb (from - f) (g - len) (omega (arith, leb-false (from + len) (f + g) e))

  -- a share that may be an entry's, and lies whole in one of the two, lies well
  pub in-one-lies : len ≤ max_entry → InOne f g from len → lies f g from len ≡ true
  in-one-lies short w = elim (dec_lt 0 len) [
    | yes some ↦ elim (dec_lt from f) [
      | yes l ↦ lies-begun some short l ∙ le-leb (from + len) f (w.0 l)
      | no o ↦ lies-behind some short (omega arith) ∙ le-leb (from + len) (f + g) w.1
    ]
    | no z ↦ lies-missing (omega arith)
  ]

-- n shares

both : (a b : Bool) → a && b ≡ true → (a ≡ true) × (b ≡ true)
both true b e = (refl, e)
both false b e = absurd (true≢false (sym e))

module _ (f g : ℕ) (p : List Place) where
  pub all-lie : (n : ℕ) → Lie n f g p → all_lie n f g p ≡ true
  unfolding all_lie
  all-lie zero h = refl
  all-lie (suc n) h = rw (all-lie n (λ i l. h i (omega arith)), h n (omega arith))

  pub lie-each : (n : ℕ) → all_lie n f g p ≡ true → Lie n f g p
  unfolding all_lie
  lie-each zero e i l = absurd (omega arith)
  lie-each (suc n) e i l =
      let h = both (all_lie n f g p) (lies f g (place_at p n).from (place_at p n).len) e in
      below_more (λ k. lies f g (place_at p k).from (place_at p k).len ≡ true) n (lie-each n h.0) h.1 i (omega arith)

  pub all-lie-more : (n : ℕ) → all_lie n f g p ≡ true → lies f g (place_at p n).from (place_at p n).len ≡ true → all_lie (n + 1) f g p ≡ true
  unfolding all_lie
  all-lie-more n h k = rw (add-one, h, k)

  pub one-strays : (n i : ℕ) → i < n → lies f g (place_at p i).from (place_at p i).len ≡ false → all_lie n f g p ≡ false
  one-strays n i l e = go (all_lie n f g p) refl
    where
      go : (t : Bool) → all_lie n f g p ≡ t → t ≡ false
      go true h = absurd (true≢false (sym (lie-each n h i l) ∙ e))
      go false h = refl

pub bodies-none : (n : ℕ) (s : List ℕ) → n ≡ 0 → bodies n s ≡ []
unfolding bodies
bodies-none n s e = rw e

-- the first n places stand for n shares
pub all-lie-take : (f g : ℕ) (p : List Place) (n k : ℕ) → k ≤ n → all_lie k f g (take n p) ≡ all_lie k f g p
unfolding all_lie
all-lie-take f g p n zero h = refl
all-lie-take f g p n (suc k) h = rw (all-lie-take f g p n k (omega arith), get_or-take n p k _ (omega arith)) refl

pub parts-take : (n : ℕ) (s : List ℕ) (p : List Place) → parts_at n s (take n p) ≡ parts_at n s p
unfolding parts_at
parts-take n s p =
    tabulate-cong n (part_at s (take n p)) (part_at s p) (λ i h. ap (λ (q : Place). take q.len (drop q.from s)) (get_or-take n p i _ h))

pub length-parts : (n : ℕ) (s : List ℕ) (p : List Place) → length (parts_at n s p) ≡ n
unfolding parts_at
length-parts n s p = length-tabulate n (part_at s p)

-- one share more
pub parts_more : (s : List ℕ) (p : List Place) (n : ℕ) (x : List ℕ) → x ≡ part_at s p n → parts_at n s p ++ (x ∷ []) ≡ parts_at (n + 1) s p
unfolding parts_at tabulate
parts_more s p n x e = rw (add-one, e)

-- a share that lies in the first, and one that lies in the second

pub part-first : (x y : List ℕ) (from len : ℕ) → from + len ≤ length x → take len (drop from (x ++ y)) ≡ take len (drop from x)
part-first x y from len h =
    ap (take len) (drop-append-le from x y (omega arith)) ∙ take-append-le len (drop from x) y (omega (arith, length-drop from x))

pub part-second : (x y : List ℕ) (from len : ℕ) → length x ≤ from → take len (drop from (x ++ y)) ≡ take len (drop (from - length x) y)
part-second x y from len h =
    let n : from ≡ length x + (from - length x) = omega arith in
    ap (λ (k : ℕ). take len (drop k (x ++ y))) n ∙ ap (take len) (drop-append-add x y (from - length x))

-- A share as it is read: the first `len` bytes of what follows its place, if there are as many.
module _ (x y : List ℕ) (from len : ℕ) (some : 1 ≤ len) (short : len ≤ max_entry) where
  abbrev Found : List ℕ → Option (Bor (List ℕ)) → Type 0
  Found z r = MatchOption r ((len < 0) ⊎ (length z < len))
      (λ w. (0 ≤ len) × (len ≤ length z) × (w.now ≡ take (len - 0) (drop 0 z)) × (length w.now + 0 ≡ len))

  abbrev Read : Option (Bor (List ℕ)) → Type 0
  Read r = MatchOption r (lies (length x) (length y) from len ≡ false)
      (λ share. (lies (length x) (length y) from len ≡ true) × (share.now ≡ take len (drop from (x ++ y))))

  pub read-first : from < length x → (r : Option (Bor (List ℕ))) → Found (take (length x - from) (drop from x)) r → Read r
  read-first h None (inl a) = absurd (omega arith)
  read-first h None (inr a) =
      let e : length (take (length x - from) (drop from x)) ≡ length x - from = ap length (part-rest x from) ∙ length-drop from x in
      lies-first (length x) (length y) from len some short h ∙ lt-leb len (length x - from) (omega arith)
  read-first h (Some w) p =
      let e : length (take (length x - from) (drop from x)) ≡ length x - from = ap length (part-rest x from) ∙ length-drop from x in (
        lies-first (length x) (length y) from len some short h ∙ le-leb len (length x - from) (omega (arith, p.1)),
        p.2 ∙ rw (sub-zero, part-rest x from) (sym (part-first x y from len (omega (arith, p.1)))),
      )

  pub read-none : length x ≤ from → length y < from - length x → lies (length x) (length y) from len ≡ false
  read-none h a = elim (dec_lt (length y) len) [
    | yes l ↦ lies-none (length x) (length y) from len some short h l
    | no o ↦ lies-second (length x) (length y) from len some short h (omega arith)
        ∙ lt-leb (from - length x) (length y - len) (omega arith)
  ]

  pub read-second : length x ≤ from → (z : List ℕ) → z ≡ take (length y - (from - length x)) (drop (from - length x) y)
      → length z + (from - length x) ≡ length y → (r : Option (Bor (List ℕ))) → Found z r → Read r
  read-second h z e n None (inl a) = absurd (omega arith)
  read-second h z e n None (inr a) = elim (dec_lt (length y) len) [
    | yes l ↦ lies-none (length x) (length y) from len some short h l
    | no o ↦ lies-second (length x) (length y) from len some short h (omega arith)
        ∙ lt-leb (from - length x) (length y - len) (omega arith)
  ]
  read-second h z e n (Some w) p = (
    lies-second (length x) (length y) from len some short h (omega (arith, p.1))
        ∙ le-leb (from - length x) (length y - len) (omega (arith, p.1)),
    p.2 ∙ rw sub-zero (ap (take len) (e ∙ part-rest y (from - length x)) ∙ sym (part-second x y from len h)),
  )

-- what is rebuilt from shares es that lie well
pub rebuild-at-fine : (n t : ℕ) (x y : List ℕ) (p : List Place) (out : List ℕ) (es : List (List ℕ)) → group_cause n t ≡ 0
    → Lie n (length x) (length y) p → length es ≡ n → ((i : ℕ) → i < n → part_at (x ++ y) p i ≡ get_or es i [])
    → rebuild_at_of n t x y p out ≡ answered (recovered (n - t) (present 1 es)) out
unfolding parts_at
rebuild-at-fine n t x y p out es fine well count each =
    rebuild-at-answered n t x y p out fine (all-lie (length x) (length y) p n well)
    ∙ ap (λ (l : List (List ℕ)). answered (recovered (n - t) (present 1 l)) out)
    (tabulate-cong n (part_at (x ++ y) p) (λ i. get_or es i []) each
    ∙ ap (λ (k : ℕ). tabulate k (λ i. get_or es i [])) (sym count) ∙ tabulate-get_or es [])
