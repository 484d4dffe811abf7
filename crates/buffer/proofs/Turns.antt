-- Loops over entries: with i of n passed, there is one more to pass, or there is none. Assumes nothing.
use mathlib.Core.Path.{◌≡◌, refl}
use mathlib.Core.Bool.{false, cond}
use mathlib.Core.List.{List}
use Prim.Native.Nat.{ℕ, suc, ◌+◌, ◌-◌, ◌<◌, ◌≤◌}
use native.Mathlib.Omega.{arith}
use lib.Dec.{eqb, ltb}
use lib.ListN.{length}
use Rattle.buffer.specs.Entries.{size, body, rest, fills, entry_at}

module _ (n i : ℕ) (s : List ℕ) where
  pub fills-some : i < n → fills (n - i) s ≡ cond (ltb (length s) (2 + size s)) false (fills (n - (i + 1)) (rest s))
  unfolding fills
  fills-some h = let e : n - i ≡ suc (n - (i + 1)) = omega arith in rw e refl

  pub fills-none : n ≤ i → fills (n - i) s ≡ eqb (length s) 0
  unfolding fills
  fills-none h = let e : n - i ≡ 0 = omega arith in rw e refl

  pub entry-some : i < n → entry_at (n - i) s ≡ entry_at (n - (i + 1)) (rest s)
  unfolding entry_at
  entry-some h = let e : n - i ≡ suc (n - (i + 1)) = omega arith in rw e refl

  pub entry-none : n ≤ i → entry_at (n - i) s ≡ body s
  unfolding entry_at
  entry-none h = let e : n - i ≡ 0 = omega arith in rw e refl

pub ruleset fills_turns = (fills-some, fills-none)

pub ruleset entry_turns = (entry-some, entry-none)
