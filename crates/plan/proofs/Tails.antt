-- What stands behind a walk stands at the end of the list, so that an exchange, and what stands behind the books, is told by where it starts. By induction along the walk. Assumes
-- nothing.
use mathlib.Core.Path.{◌≡◌, refl, sym, ap, ◌∙◌}
use mathlib.Core.Bool.{Bool, true, false, cond, not, ◌||◌}
use mathlib.Core.List.{List, []}
use mathlib.Core.Option.{Option, none, some}
use Prim.Native.Nat.{ℕ, zero, suc, ◌+◌, ◌-◌, ◌≤◌, ◌^◌, min}
use native.Mathlib.Omega.{arith}
use lib.Dec.{ltb}
use lib.ListN.{length, drop, length-drop}
use lib.Seq.{drop-drop, drop-length}
use Rattle.buffer.specs.Entries.{size, rest}
use Rattle.buffer.proofs.Places.{drop_min}
use Rattle.bitmap.specs.Bitmap.{names}
use Rattle.plan.specs.Layout.{map_width, within, and_then, or_empty, walk, skip_entry, skip_entries, skip_block, skip_exchange, n_in, good_at, good_in}
use Rattle.plan.specs.Layout.{books_in, bad_sender, holders, behind_books, skip_sender, skip_exchanges, exchange_in, exchange_at}
use Rattle.plan.specs.Plan.{plan_cause, plan_of, exchange_of}

-- x stands at the end of s
pub record Tail (x s : List ℕ) : Type 0 where
  pub at : ℕ
  pub is : x ≡ drop at s

tail_none : (s : List ℕ) → Tail [] s
tail_none s = record { at = length s; is = sym (drop-length s) }

tail-drop : (k : ℕ) (x s : List ℕ) → Tail x s → Tail (drop k x) s
tail-drop k x s t = record { at = t.at + k; is = ap (drop k) t.is ∙ drop-drop k t.at s }

tail-short : (x s : List ℕ) → Tail x s → length x ≤ length s
tail-short x s t = omega (arith, ap length t.is, length-drop t.at s)

tail-offset : (x s : List ℕ) → Tail x s → drop (length s - length x) s ≡ x
tail-offset x s t =
    let e : length s - length x ≡ min t.at (length s) = omega (arith, ap length t.is, length-drop t.at s) in
    ap (λ (k : ℕ). drop k s) e ∙ drop_min t.at s ∙ sym t.is

-- what stands behind a walk whose steps leave such an end
tail_walk : (takes : ℕ → Bool) (step : List ℕ → Option (List ℕ)) (s : List ℕ)
    → ((y : List ℕ) → Tail y s → Tail (or_empty (step y)) s) → (k : ℕ) (x : List ℕ) → Tail x s → Tail (or_empty (walk takes step k x)) s
unfolding walk
tail_walk takes step s h zero x t = t
tail_walk takes step s h (suc k) x t = go (takes (k + 1)) (walk takes step k x) (tail_walk takes step s h k x t)
  where
    go : (a : Bool) (o : Option (List ℕ)) → Tail (or_empty o) s → Tail (or_empty (cond a (and_then o step) o)) s
    go true none u = tail_none s
    go true (some y) u = h y u
    go false o u = u

-- a test that may find nothing
tail-test : (a : Bool) (o : Option (List ℕ)) (s : List ℕ) → Tail (or_empty o) s → Tail (or_empty (cond a none o)) s
tail-test true o s t = tail_none s
tail-test false o s t = t

-- what stands behind entries, and behind a block
pub tail-entries : (k map : ℕ) (x s : List ℕ) → Tail x s → Tail (or_empty (skip_entries k map x)) s
unfolding skip_entry rest
tail-entries k map x s t =
    tail_walk (names map) skip_entry s
    (λ y u. tail-test (ltb (length y) (2 + size y)) (some (rest y)) s (tail-drop (2 + size y) y s u)) k x t

tail-block : (n g : ℕ) (x s : List ℕ) → Tail x s → Tail (or_empty (skip_block n g x)) s
unfolding skip_block
tail-block n g x s t =
    tail-test (ltb (length x) map_width || not (ltb (size x) (2 ^ n)) || not (within n (size x) g))
    (skip_entries n (size x) (drop map_width x)) s (tail-entries n (size x) (drop map_width x) s (tail-drop map_width x s t))

-- what stands behind the books of a plan, behind a bad sender's block, and an exchange
tail-behind : (s : List ℕ) → Tail (behind_books s) s
unfolding behind_books
tail-behind s = tail-entries (n_in s) (holders s) (books_in s) s (record { at = good_at s + map_width; is = refl })

tail-sender : (x s : List ℕ) → Tail x s → Tail (or_empty (skip_sender s x)) s
tail-sender x s t = go (bad_sender s)
  where
    go : (b : Bool) → Tail (or_empty (cond b (skip_block (n_in s) (good_in s) x) (some x))) s
    go true = tail-block (n_in s) (good_in s) x s t
    go false = t

-- what exchanges leave is no longer than what they stand in
tail-exchanges : (e n g : ℕ) (x s : List ℕ) → Tail x s → Tail (or_empty (skip_exchanges e n g x)) s
tail-exchanges e n g x s t =
    tail_walk (λ k. true) (skip_exchange n g) s (tail_walk (λ p. not (names g p)) (skip_block n g) s (λ y u. tail-block n g y s u) n) e x t

pub exchanges-short : (e n g : ℕ) (x : List ℕ) → length (or_empty (skip_exchanges e n g x)) ≤ length x
exchanges-short e n g x = tail-short (or_empty (skip_exchanges e n g x)) x (tail-exchanges e n g x x (record { at = 0; is = refl }))

tail-exchange : (e : ℕ) (s : List ℕ) → Tail (exchange_in e s) s
unfolding exchange_in
tail-exchange e s =
    let n = n_in s in
    let g = good_in s in
    tail_walk (λ k. true) (skip_exchange n g) s (tail_walk (λ p. not (names g p)) (skip_block n g) s (λ y u. tail-block n g y s u) n) e
    (or_empty (skip_sender s (behind_books s))) (tail-sender (behind_books s) s (tail-behind s))

pub behind-there : (s : List ℕ) → drop (length s - length (behind_books s)) s ≡ behind_books s
behind-there s = tail-offset (behind_books s) s (tail-behind s)

pub behind-short : (s : List ℕ) → length (behind_books s) ≤ length s
behind-short s = tail-short (behind_books s) s (tail-behind s)

pub exchange-there : (e : ℕ) (s : List ℕ) → drop (exchange_at e s) s ≡ exchange_in e s
exchange-there e s = tail-offset (exchange_in e s) s (tail-exchange e s)

pub exchange-short : (e : ℕ) (s : List ℕ) → length (exchange_in e s) ≤ length s
exchange-short e s = tail-short (exchange_in e s) s (tail-exchange e s)

pub ruleset walks = (behind-short, exchange-short)

-- by the parts of a plan that is taken
pub exchange-of : (e : ℕ) (s : List ℕ) → plan_cause s ≡ 0 → exchange_of (plan_of s) e s ≡ exchange_at e s
unfolding plan_of exchange_of exchange_in walk
exchange-of e s h =
    rw h (ap (λ (x : List ℕ). length s - length (or_empty (skip_exchanges e (n_in s) (good_in s) x))) (exchange-there 0 s))
