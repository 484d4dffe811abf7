-- What causes 1 and 2 say of n and t: within the bounds neither applies, and where neither applies the bounds hold. Assumes nothing.
use mathlib.Core.Path.{◌≡◌, refl}
use mathlib.Core.Bool.{Bool, true, false, cond, not}
use Prim.Native.Nat.{ℕ, ◌<◌, ◌≤◌, ◌*◌}
use native.Mathlib.Omega.{arith}
use borrow.Author.Tests.{lt-leb, leb-false}
use lib.Dec.{leb}
use Rattle.limits.specs.Limits.{max_parties, parties, group_cause}
use Rattle.limits.proofs.Ranges.{parties-some, parties-range}

-- n parties with the fault limit t, within the limits
pub record Group (n t : ℕ) : Type 0 where
  pub low : 1 ≤ n
  pub high : n ≤ max_parties
  pub faults : 2 * t < n

module _ (n t : ℕ) where
  pub group-fine : 1 ≤ n → n ≤ max_parties → 2 * t < n → group_cause n t ≡ 0
  unfolding group_cause
  group-fine low high h = rw (parties-some n low high, lt-leb n (2 * t) h)

-- a cause is 0 only where neither applies
none-holds : (a b : Bool) → ◌≡◌ {A = ℕ} (cond (not a) 1 (cond b 2 0)) 0 → (a ≡ true) × (b ≡ false)
none-holds false b e = absurd (omega arith)
none-holds true true e = absurd (omega arith)
none-holds true false e = (refl, refl)

pub group_of : (n t : ℕ) → group_cause n t ≡ 0 → Group n t
unfolding group_cause
group_of n t e =
    let h = none-holds (parties n) (leb n (2 * t)) e in
    let (low, high) = parties-range n h.0 in
    record { low = low; high = high; faults = leb-false n (2 * t) h.1 }
