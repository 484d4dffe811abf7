-- Giving a book or a packet of a bad sender's block, where n is within its limits. Assumes nothing.
use mathlib.Core.Path.{◌≡◌}
use mathlib.Core.Bool.{true, false}
use mathlib.Core.List.{List}
use Prim.Native.Nat.{ℕ, ◌≤◌}
use Rattle.limits.specs.Limits.{max_parties}
use Rattle.limits.proofs.Ranges.{parties-some}
use Rattle.buffer.specs.Given.{gave, written}
use Rattle.buffer.specs.Given.{Refused}
use Rattle.plan.specs.Layout.{member, party_entry, block_entry}
use Rattle.plan.specs.Plan.{book_given, block_given}

module _ (n g q : ℕ) (s out : List ℕ) where
  module _ (low : 1 ≤ n) (high : n ≤ max_parties) where
    pub book-none : member n g q ≡ false → book_given n g q s out ≡ gave (Refused 3) out
    unfolding book_given
    book-none h = rw (parties-some n low high, h)

    pub book-some : member n g q ≡ true → book_given n g q s out ≡ written (party_entry n g q s) out
    unfolding book_given
    book-some h = rw (parties-some n low high, h)

module _ (n i : ℕ) (s out : List ℕ) where
  pub block-given : 1 ≤ n → n ≤ max_parties → block_given n i s out ≡ written (block_entry n i s) out
  unfolding block_given
  block-given low high = rw (parties-some n low high)
