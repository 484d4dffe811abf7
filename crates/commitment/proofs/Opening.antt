-- Causes 1 to 4 of n, t, a party's own number and its message's length: one law for each outcome, and what holds where none applies. A cause is a
-- chain of tests, which is 0 only if every test fails. Assumes nothing.
use mathlib.Core.Path.{◌≡◌, refl}
use mathlib.Core.Bool.{Bool, true, false, cond, not}
use mathlib.Core.List.{List}
use Prim.Native.Nat.{ℕ, suc, ◌<◌, ◌≤◌}
use native.Mathlib.Omega.{arith}
use borrow.Author.Tests.{lt-ltb, le-ltb, eq-eqb, ltb-false, eqb-true, eqb-false, not-false}
use lib.Dec.{ltb, eqb}
use lib.ListN.{length}
use Rattle.limits.specs.Limits.{max_message, numbered, group_cause}
use Rattle.limits.proofs.Ranges.{numbered_within, numbered-range}
use Rattle.limits.proofs.Group.{group_of}
use Rattle.commitment.specs.Commitment.{open_cause}
use Rattle.commitment.specs.Private.{Coded}

-- of a chain of tests that gives 0 the first fails, and the rest gives 0
pub spared : (t : Bool) (k r : ℕ) → cond t (suc k) r ≡ 0 → (t ≡ false) × (r ≡ 0)
spared true k r e = absurd (omega arith)
spared false k r e = (refl, e)

-- the same where the first is a cause of its own
pub cleared : (k r : ℕ) → cond (not (eqb k 0)) k r ≡ 0 → (k ≡ 0) × (r ≡ 0)
cleared k r e = go (eqb k 0) refl e
  where
    go : (t : Bool) → eqb k 0 ≡ t → cond (not t) k r ≡ 0 → (k ≡ 0) × (r ≡ 0)
    go false q h = absurd (eqb-false k 0 q h)
    go true q h = (eqb-true k 0 q, h)

-- causes 1 to 4 of an opening
module _ (n t own len : ℕ) where
  module _ (group : group_cause n t ≡ 0) (first : 1 ≤ own) (last : own ≤ n) where
    pub open-long : max_message < len → open_cause n t own len ≡ 4
    unfolding open_cause
    open-long h =
        rw (eq-eqb (group_cause n t) 0 group, numbered_within n own first last, lt-ltb max_message len h)

    pub open-fine : len ≤ max_message → open_cause n t own len ≡ 0
    unfolding open_cause
    open-fine h =
        rw (eq-eqb (group_cause n t) 0 group, numbered_within n own first last, le-ltb max_message len h)

  -- with no message only causes 1 to 3 are left, and they are those of any length
  pub open-seat : (open_cause n t own 0 ≡ 0 → ⊥) → open_cause n t own len ≡ open_cause n t own 0
  unfolding open_cause
  open-seat d = go (eqb (group_cause n t) 0) (numbered n own) refl refl
    where
      go : (g o : Bool) → eqb (group_cause n t) 0 ≡ g → numbered n own ≡ o → open_cause n t own len ≡ open_cause n t own 0
      go false o e f = rw e
      go true false e f = rw (e, f)
      go true true e f = absurd (d (rw (e, f)))

-- where none applies, the arguments are within their bounds
pub open-bounds : (n t own len : ℕ) → open_cause n t own len ≡ 0
    → (group_cause n t ≡ 0) × (1 ≤ own) × (own ≤ n) × (len ≤ max_message)
unfolding open_cause
open-bounds n t own len e =
    let g = cleared (group_cause n t) (cond (not (numbered n own)) 3 (cond (ltb max_message len) 4 0)) e in
    let h = spared (not (numbered n own)) 2 (cond (ltb max_message len) 4 0) g.1 in
    let o = numbered-range n own (not-false (numbered n own) h.0) in
    let k = spared (ltb max_message len) 3 0 h.1 in
    (g.0, o.0, o.1, ltb-false max_message len k.0)

-- a message within the limits
pub open-coded : (n t own : ℕ) (m : List ℕ) → open_cause n t own (length m) ≡ 0 → Coded n t m
open-coded n t own m e =
    let b = open-bounds n t own (length m) e in
    let g = group_of n t b.0 in
    record { low = g.low; high = g.high; faults = g.faults; short = b.3 }
