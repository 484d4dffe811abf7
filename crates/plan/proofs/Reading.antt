-- What the code finds behind n and t of a plan, as the definitions say it, and a plan for which there is no cause. Assumes nothing.
use mathlib.Core.Path.{◌≡◌, refl, sym, ap, ◌∙◌}
use mathlib.Core.Bool.{Bool, true, false, cond, not, ◌&&◌}
use mathlib.Core.List.{List}
use mathlib.Core.Option.{Option, none, some}
use Rattle.std.specs.Prelude as prelude
use Rattle.std.specs.Prelude.{IfSome, Some, None}
use Prim.Native.Nat.{ℕ, ◌+◌, ◌^◌, ◌≤◌}
use native.Mathlib.Omega.{arith}
use borrow.Author.Tests.{lt-ltb, le-ltb}
use lib.Dec.{eqb}
use lib.ListN.{length}
use Rattle.limits.specs.Limits.{max_parties, max_plan, numbered, group_cause}
use Rattle.limits.proofs.Booleans.{both}
use Rattle.limits.proofs.Ranges.{numbered-range}
use Rattle.bitmap.specs.Bitmap.{names, only}
use Rattle.plan.specs.Layout.{member, skip_block}
use Rattle.plan.specs.Layout.{map_width, and_then, or_empty, skip_entries, books_fit, fields, n_in, t_in, options_in, has_sender, sender_in, good_at, good_in, books_in, walk}
use Rattle.plan.specs.Layout.{holders, behind_books, skip_sender, exchanges, skip_exchanges, exchange_in, end_of, empty, laid_out}
use Rattle.plan.specs.Plan.{plan_cause}
use Rattle.plan.specs.Private.{BehindIs, BehindOf, Header, sender_of, holders_by, skip_sender_by}
use Rattle.plan.specs.declared.Sender.{Sender}
use Rattle.plan.specs.declared.Behind.{Behind}

-- the books, a bad sender's block and the exchanges, which start where the header ends
module _ (books : ℕ) (s : List ℕ) (h : Header books s) where
  end_is : end_of s ≡ and_then (and_then (skip_entries (n_in s) (holders s) (books_in s)) (skip_sender s)) (skip_exchanges exchanges (n_in s) (good_in s))
  unfolding end_of
  end_is =
      rw (
        le-ltb (length s) (good_at s + map_width) h.room,
        lt-ltb (options_in s) (2 ^ length fields) h.known,
        lt-ltb (good_in s) (2 ^ n_in s) h.few,
      )

  module _ (x : List ℕ) (a : skip_entries (n_in s) (holders s) (books_in s) ≡ some x) where
    pub behind-is : behind_books s ≡ x
    unfolding behind_books
    behind-is = ap or_empty a

    module _ (y : List ℕ) (c : skip_sender s x ≡ some y) where
      pub first-is : exchange_in 0 s ≡ y
      unfolding exchange_in walk
      first-is = ap (λ (l : List ℕ). or_empty (skip_sender s l)) behind-is ∙ ap or_empty c

      pub end-at : (z : List ℕ) → skip_exchanges exchanges (n_in s) (good_in s) y ≡ some z → laid_out s ≡ eqb (length z) 0
      unfolding laid_out
      end-at z q = rw (end_is, a, c, q)

-- the sender of a plan: by it the map of those whose books are listed, and what stands behind a bad one's block; a good one is one of the parties
module _ (s : List ℕ) where
  pub holders-source : holders s ≡ holders_by (sender_of s) (good_in s)
  unfolding holders
  holders-source = go (has_sender s)
    where
      go : (b : Bool) → cond b (cond (b && member (n_in s) (good_in s) (sender_in s)) (only (sender_in s)) 0) (good_in s)
          ≡ holders_by (cond b (Some (record { number = sender_in s; good = b && member (n_in s) (good_in s) (sender_in s) })) None) (good_in s)
      go true = refl
      go false = refl

  pub sender-source : (x : List ℕ) → skip_sender s x ≡ skip_sender_by (sender_of s) (n_in s) (good_in s) x
  sender-source x = go (has_sender s) (member (n_in s) (good_in s) (sender_in s))
    where
      go : (b m : Bool) → cond (b && not m) (skip_block (n_in s) (good_in s) x) (some x)
          ≡ skip_sender_by (cond b (Some (record { number = sender_in s; good = b && m })) None) (n_in s) (good_in s) x
      go true true = refl
      go true false = refl
      go false m = refl

  -- a good sender is one of the parties
  pub sender-few : n_in s ≤ max_parties → IfSome {T = Sender} (sender_of s) (λ x. x.good ≡ true → (1 ≤ x.number) × (x.number ≤ max_parties))
  sender-few few = go (has_sender s)
    where
      go : (b : Bool) → IfSome {T = Sender} (cond b (Some (record { number = sender_in s; good = b && member (n_in s) (good_in s) (sender_in s) })) None)
          (λ x. x.good ≡ true → (1 ≤ x.number) × (x.number ≤ max_parties))
      go true = λ e.
          let r = numbered-range (n_in s) (sender_in s) (both (numbered (n_in s) (sender_in s)) (names (good_in s) (sender_in s)) e).0 in
          (r.0, omega (arith, r.1))
      go false = tt

same-then : (o : Option (List ℕ)) (f g : List ℕ → Option (List ℕ)) → ((x : List ℕ) → f x ≡ g x) → and_then o f ≡ and_then o g
same-then none f g e = refl
same-then (some x) f g e = e x

-- what the code finds behind the books
module _ (b : ℕ) (x s : List ℕ) (h : Header b s) (n g m : ℕ) (q : prelude.Option Sender) (n-is : n ≡ n_in s) (g-is : g ≡ good_in s)
    (q-is : q ≡ sender_of s) (m-is : m ≡ holders_by q g) (x-is : x ≡ books_in s) where
  pub holders-are : m ≡ holders s
  holders-are = m-is ∙ rw (q-is, g-is) (sym (holders-source s))

  books_are : skip_entries n m x ≡ skip_entries (n_in s) (holders s) (books_in s)
  books_are = rw (n-is, holders-are, x-is)

  sender_is : (y : List ℕ) → skip_sender s y ≡ skip_sender_by q n g y
  sender_is y = sender-source s y ∙ rw (q-is, n-is, g-is)

  laid-is : laid_out s ≡ empty (and_then (and_then (skip_entries n m x) (skip_sender_by q n g)) (skip_exchanges exchanges n g))
  unfolding laid_out
  laid-is =
      rw (end_is b s h, books_are, n-is, g-is)
      (ap (λ (o : Option (List ℕ)). empty (and_then o (skip_exchanges exchanges (n_in s) (good_in s))))
      (same-then (skip_entries (n_in s) (holders s) (books_in s)) (skip_sender s) (skip_sender_by q (n_in s) (good_in s)) (λ y. sender-source s y ∙ rw q-is)))

  pub laid-none : BehindIs None (record { n = n; good = g }) m q x → laid_out s ≡ false
  laid-none e = laid-is ∙ e

  pub laid-some : (y : Behind) → BehindOf y (record { n = n; good = g }) m q x
      → (laid_out s ≡ true) × (y.packets.now ≡ behind_books s) × (y.exchanges.now ≡ exchange_in 0 s)
  laid-some y f =
      let p : skip_entries (n_in s) (holders s) (books_in s) ≡ some y.packets.now = sym books_are ∙ f.packets-are in
      let e : skip_sender s y.packets.now ≡ some y.exchanges.now = sender_is y.packets.now ∙ f.exchanges-are in
      (laid-is ∙ rw (f.packets-are, f.exchanges-are) f.all, sym (behind-is b s h y.packets.now p), sym (first-is b s h y.packets.now p y.exchanges.now e))

-- a plan for which there is no cause
pub fine : (s : List ℕ) → 2 ≤ length s → group_cause (n_in s) (t_in s) ≡ 0 → length s ≤ max_plan → laid_out s ≡ true
    → has_sender s && not (numbered (n_in s) (sender_in s)) ≡ false → books_fit (n_in s) (holders s) (books_in s) ≡ true → plan_cause s ≡ 0
unfolding plan_cause
fine s two group fits laid sender h = rw (le-ltb (length s) 2 two, group, le-ltb max_plan (length s) fits, laid, sender, h)
