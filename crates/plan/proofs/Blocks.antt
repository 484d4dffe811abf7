-- An entry as it is written is passed, and a party that has none has no bytes. Assumes nothing.
use mathlib.Core.Path.{◌≡◌, ap}
use mathlib.Core.Bool.{false}
use mathlib.Core.List.{List, []}
use mathlib.Core.Option.{some}
use Prim.Native.Nat.{ℕ, ◌+◌}
use borrow.Author.Tests.{le-ltb}
use lib.ListN.{length}
use Rattle.buffer.specs.Entries.{size}
use Rattle.buffer.proofs.Entries.{rest-drop, entry, entry-rest}
use Rattle.buffer.proofs.Entries as entries
use Rattle.plan.specs.Layout.{member, skip_entry, party_entry}

-- an entry as it is written
pub entry-skipped : (m r : List ℕ) → skip_entry (entry m r) ≡ some r
unfolding skip_entry
entry-skipped m r = rw (le-ltb (length (entry m r)) (2 + size (entry m r)) (entries.entry_whole m r)) (ap some (entry-rest m r))

-- a party's entry
module _ (n map q : ℕ) (s : List ℕ) where
  pub entry-none : member n map q ≡ false → party_entry n map q s ≡ []
  unfolding party_entry
  entry-none h = rw h
