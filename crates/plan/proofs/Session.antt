-- The session's number of a plan: the one that is given, or 0; it has four bytes. Assumes nothing.
use mathlib.Core.Path.{◌≡◌}
use mathlib.Core.Bool.{Bool, true, false, cond}
use mathlib.Core.List.{List}
use Prim.Native.Nat.{ℕ, ◌<◌, ◌^◌}
use native.Mathlib.Omega.{arith}
use lib.ListN.{drop}
use Rattle.buffer.specs.Bounds.{Bytes}
use Rattle.buffer.proofs.Bounds.{drop-bytes}
use Rattle.buffer.proofs.Numbers.{number-bytes}
use Rattle.plan.specs.Layout.{field_at, options_in, session_option, has_session, session_in, session_of}
use Rattle.plan.specs.Plan.{plan_cause, plan_of}

module _ (s : List ℕ) where
  pub session-given : has_session s ≡ true → session_of s ≡ session_in s
  unfolding session_of
  session-given h = rw h

  pub session-absent : has_session s ≡ false → session_of s ≡ 0
  unfolding session_of
  session-absent h = rw h

  -- in a plan that is taken
  pub session-is : plan_cause s ≡ 0 → (plan_of s).session ≡ session_of s
  unfolding plan_of
  session-is e = rw e

  module _ (b : Bytes s) where
    pub session-below : session_of s < 2 ^ 32
    unfolding session_of
    session-below = go (has_session s)
      where
        go : (given : Bool) → cond given (session_in s) 0 < 2 ^ 32
        go true = let at = field_at (options_in s) session_option in number-bytes (drop at s) (drop-bytes at s b)
        go false = omega arith
