-- The ranges of n and of a party's number: the test holds within the bounds, and the bounds where it holds, also from an answer that is the
-- test and is not turned down. Assumes nothing.
use mathlib.Core.Path.{◌≡◌, sym, ◌∙◌}
use mathlib.Core.Bool.{Bool, true, false, not}
use Prim.Native.Nat.{ℕ, ◌≤◌}
use borrow.Author.Tests.{le-leb, leb-true, not-false}
use lib.Dec.{leb}
use Rattle.limits.specs.Limits.{max_parties, parties, numbered}
use Rattle.limits.proofs.Booleans.{both}

module _ (n : ℕ) where
  pub parties-some : 1 ≤ n → n ≤ max_parties → parties n ≡ true
  unfolding parties
  parties-some low high = simp le-leb

  pub parties-range : parties n ≡ true → (1 ≤ n) × (n ≤ max_parties)
  unfolding parties
  parties-range e = let h = both (leb 1 n) (leb n max_parties) e in (leb-true 1 n h.0, leb-true n max_parties h.1)

  pub parties-told : {r : Bool} → r ≡ parties n → not r ≡ false → (1 ≤ n) × (n ≤ max_parties)
  parties-told {r} e h = parties-range (sym e ∙ not-false r h)

  module _ (j : ℕ) where
    pub numbered_within : 1 ≤ j → j ≤ n → numbered n j ≡ true
    unfolding numbered
    numbered_within low high = simp le-leb

    pub numbered-range : numbered n j ≡ true → (1 ≤ j) × (j ≤ n)
    unfolding numbered
    numbered-range e = let h = both (leb 1 j) (leb j n) e in (leb-true 1 j h.0, leb-true j n h.1)

    pub numbered-told : {r : Bool} → r ≡ numbered n j → not r ≡ false → (1 ≤ j) × (j ≤ n)
    numbered-told {r} e h = numbered-range (sym e ∙ not-false r h)
