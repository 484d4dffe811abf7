-- What holds of a plan that is taken: n and t are within their limits, the fields of options are there, a sender is one of the parties, and no book is over its limit. By the tests
-- of the definitions, and by induction along the parties. Assumes nothing.
use mathlib.Core.Path.{◌≡◌, refl, sym, ap, subst, ◌∙◌}
use mathlib.Core.Bool.{Bool, true, false, cond, not, ◌&&◌, ◌||◌, true≢false, false≢true}
use mathlib.Core.List.{List, []}
use mathlib.Core.Option.{Option, none}
use Prim.Native.Nat.{ℕ, zero, suc, ◌+◌, ◌-◌, ◌≤◌, ◌<◌, ◌^◌}
use native.Mathlib.Omega.{arith}
use borrow.Author.Tests.{ltb-false, leb-true, eqb-true, eqb-false}
use lib.Dec.{ltb, leb, eqb, lit<}
use lib.ListN.{length, get_or, drop, length-drop}
use lib.Seq.{length-take-le}
use Rattle.limits.specs.Limits.{max_message, max_plan, numbered, group_cause}
use Rattle.buffer.specs.Bounds.{Bytes}
use Rattle.buffer.specs.Entries.{size, body}
use Rattle.buffer.proofs.Bounds.{drop-bytes, body_bytes}
use Rattle.limits.proofs.Ranges.{numbered-range}
use Rattle.plan.proofs.Options.{field-inside}
use Rattle.plan.proofs.Walks.{every-each}
use Rattle.plan.proofs.Blocks.{entry-none}
use Rattle.plan.proofs.Tails.{tail-entries, behind-there}
use Rattle.bitmap.specs.Bitmap.{names}
use Rattle.plan.specs.Layout.{map_width, member, unnamed, lowest, or_empty, skip_entries, party_entry, books_fit, fields, field_at, n_in, t_in, options_in}
use Rattle.plan.specs.Layout.{field_in, has_root, root_in, has_sender, sender_in, good_at, good_in, books_in, bad_sender, holders, behind_books, block_entry, sender_packet}
use Rattle.plan.specs.Layout.{end_of, empty, laid_out}
use Rattle.plan.specs.Plan.{plan_cause}

pub record Accepted (s : List ℕ) : Type 0 where
  pub group : group_cause (n_in s) (t_in s) ≡ 0
  pub length-fits : length s ≤ max_plan
  pub laid : laid_out s ≡ true
  pub sender-known : has_sender s && not (numbered (n_in s) (sender_in s)) ≡ false
  pub books-fit : books_fit (n_in s) (holders s) (books_in s) ≡ true

no-cause : (a : Bool) (k : ℕ) (g l b d c : Bool) → eqb k 0 ≡ g
    → cond a 13 (cond (not g) k (cond (l || not b) 13 (cond d 3 (cond (not c) 4 0)))) ≡ 0
    → (k ≡ 0) × (l ≡ false) × (b ≡ true) × (d ≡ false) × (c ≡ true)
no-cause true k g l b d c q e = absurd (omega arith)
no-cause false k false l b d c q e = absurd (eqb-false k 0 q e)
no-cause false k true true b d c q e = absurd (omega arith)
no-cause false k true false false d c q e = absurd (omega arith)
no-cause false k true false true true c q e = absurd (omega arith)
no-cause false k true false true false false q e = absurd (omega arith)
no-cause false k true false true false true q e = (eqb-true k 0 q, refl, refl, refl, refl)

pub accepted : (s : List ℕ) → plan_cause s ≡ 0 → Accepted s
unfolding plan_cause
accepted s e =
    let k : ℕ = group_cause (n_in s) (t_in s) in
    let h = no-cause (ltb (length s) 2) k (eqb k 0) (ltb max_plan (length s)) (laid_out s) (has_sender s && not (numbered (n_in s) (sender_in s)))
    (books_fit (n_in s) (holders s) (books_in s)) refl e in
    record { group = h.0; length-fits = ltb-false max_plan (length s) h.1; laid = h.2; sender-known = h.3; books-fit = h.4 }

-- a sender is one of the parties
pub sender-there : (s : List ℕ) → Accepted s → has_sender s ≡ true → (1 ≤ sender_in s) × (sender_in s ≤ n_in s)
sender-there s a h = numbered-range (n_in s) (sender_in s) (go (has_sender s) (numbered (n_in s) (sender_in s)) h a.sender-known)
  where
    go : (x y : Bool) → x ≡ true → x && not y ≡ false → y ≡ true
    go true true e f = refl
    go true false e f = absurd (true≢false f)
    go false y e f = absurd (false≢true e)

-- the books start within the plan
first-tests : (a b c : Bool) (o : Option (List ℕ)) → empty (cond (a || b || c) none o) ≡ true → a ≡ false
first-tests true b c o e = absurd (false≢true e)
first-tests false b c o e = refl

pub books-inside : (s : List ℕ) → laid_out s ≡ true → good_at s + map_width ≤ length s
unfolding laid_out end_of
books-inside s l =
    ltb-false (length s) (good_at s + map_width)
    (first-tests (ltb (length s) (good_at s + map_width)) (not (ltb (options_in s) (2 ^ length fields))) (not (ltb (good_in s) (2 ^ n_in s))) _ l)

-- the field of an option that is named stands within the plan, with as many bytes as the table says
module _ (s : List ℕ) (l : laid_out s ≡ true) (k : ℕ) (known : k < length fields) (given : names (options_in s) (k + 1) ≡ true) where
  pub field-there : field_at (options_in s) (k + 1) + get_or fields k 0 ≤ length s
  field-there = omega (arith, books-inside s l, field-inside (options_in s) k known given)

  field-length : length (field_in (k + 1) s) ≡ get_or fields k 0
  field-length =
      let o : ℕ = options_in s in
      let e : get_or fields (k + 1 - 1) 0 ≡ get_or fields k 0 = let z : k + 1 - 1 ≡ k = omega arith in ap (λ (j : ℕ). get_or fields j 0) z in
      length-take-le (get_or fields (k + 1 - 1) 0) (drop (field_at o (k + 1)) s) (omega (arith, e, length-drop (field_at o (k + 1)) s, field-there)) ∙ e

pub root-length : (s : List ℕ) → laid_out s ≡ true → has_root s ≡ true → length (root_in s) ≡ 32
root-length s l r = field-length s l 0 (omega arith) r

-- no book is over the limit, and books are bytes if the plan is
module _ (n map q : ℕ) (s : List ℕ) where
  pub book-short : books_fit n map s ≡ true → length (party_entry n map q s) ≤ max_message
  book-short f = go (numbered n q) refl
    where
      go : (b : Bool) → numbered n q ≡ b → length (party_entry n map q s) ≤ max_message
      go true e =
          let r = numbered-range n q e in
          leb-true (length (party_entry n map q s)) max_message
          (every-each (λ p. leb (length (party_entry n map p s)) max_message) n q f r.0 r.1)
      go false e = omega (arith, ap length (entry-none n map q s (ap (λ (b : Bool). b && names map q) e)))

  pub entry-bytes : Bytes s → Bytes (party_entry n map q s)
  unfolding party_entry
  entry-bytes h =
      let y : List ℕ = or_empty (skip_entries (q - 1) map s) in
      let t = tail-entries (q - 1) map s s (record { at = 0; is = refl }) in
      go (member n map q) (body y) (body_bytes y (subst Bytes (sym t.is) (drop-bytes t.at s h)))
    where
      go : (b : Bool) (x : List ℕ) → Bytes x → Bytes (cond b x [])
      go true x r = r
      go false x r = λ i. lit< tt

-- and so is what the plan says that a bad sender sends
pub sender-bytes : (i : ℕ) (s : List ℕ) → Bytes s → Bytes (sender_packet i s)
unfolding sender_packet
sender-bytes i s h =
    let x : List ℕ = behind_books s in
    let there : Bytes x = subst Bytes (behind-there s) (drop-bytes (length s - length x) s h) in
    go (bad_sender s) (entry-bytes (n_in s) (size x) i (drop map_width x) (drop-bytes map_width x there))
  where
    go : (b : Bool) → Bytes (block_entry (n_in s) i (behind_books s)) → Bytes (cond b (block_entry (n_in s) i (behind_books s)) [])
    go true r = r
    go false r = λ i. lit< tt

-- where a map leaves fewer than k of k parties unnamed, the lowest that it names is one of them
pub lowest-named : (k p g : ℕ) → unnamed k p g < k → (names g (lowest k p g) ≡ true) × (p ≤ lowest k p g) × (lowest k p g < p + k)
unfolding unnamed lowest
lowest-named zero p g h = absurd (omega arith)
lowest-named (suc k) p g h = go (names g p) refl h (lowest-named k (p + 1) g)
  where
    go : (b : Bool) → names g p ≡ b → cond b 0 1 + unnamed k (p + 1) g < suc k
        → (unnamed k (p + 1) g < k → (names g (lowest k (p + 1) g) ≡ true) × (p + 1 ≤ lowest k (p + 1) g) × (lowest k (p + 1) g < p + 1 + k))
        → (names g (cond b p (lowest k (p + 1) g)) ≡ true) × (p ≤ cond b p (lowest k (p + 1) g)) × (cond b p (lowest k (p + 1) g) < p + suc k)
    go true e l r = (e, omega arith, omega arith)
    go false e l r = let w = r (omega arith) in (w.0, omega (arith, w.1), omega (arith, w.2))
