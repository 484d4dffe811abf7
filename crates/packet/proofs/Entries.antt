-- The entry at a place: one law for each outcome, from plain facts about numbers, and what is read of an entry of an inbox that is laid out
-- well, whose rest is laid out well again. By the tests of the definitions. Assumes nothing.
use mathlib.Core.Path.{◌≡◌, ap, ◌∙◌}
use mathlib.Core.Bool.{true}
use mathlib.Core.List.{List}
use Prim.Native.Nat.{ℕ, suc, ◌+◌, ◌≤◌}
use native.Mathlib.Omega.{arith}
use borrow.Author.Tests.{le-ltb}
use lib.ListN.{length, take, drop}
use Rattle.limits.specs.Limits.{max_parties}
use Rattle.limits.proofs.Ranges.{parties-some}
use Rattle.buffer.specs.Entries.{size, fills}
use Rattle.buffer.proofs.Entries.{whole}
use Rattle.packet.specs.Format.{read_of}
use Rattle.packet.specs.Answer.{placed, read_at, ToldEntry, told_entry, next_at, entry_read}
use Rattle.packet.specs.Private.{body_at}
use Rattle.packet.specs.Packet.{Entry}
use Rattle.packet.specs.Packet.{Packet}
use Rattle.packet.proofs.Reading.{at_read}
use Rattle.packet.proofs.Slices.{drop-take}

-- what is told of an answer has the answer itself
pub entry-one : {a b : Entry} → told_entry a ≡ told_entry b → a ≡ b
entry-one e = ap (λ (t : ToldEntry). t.answer) e

module _ (n : ℕ) (s : List ℕ) (at : ℕ) where
  module _ (low : 1 ≤ n) (high : n ≤ max_parties) where
    module _ (inside : next_at s at ≤ length s) where
      pub entry_whole : entry_read n s at ≡ record { packet = read_at n (take (next_at s at) s) (at + 2); next = next_at s at }
      unfolding entry_read
      entry_whole = rw (parties-some n low high, le-ltb (length s) (next_at s at) inside)

      -- the entry's bytes, behind its length
      pub entry-read : entry_read n s at ≡ record { packet = placed (at + 2) (read_of n (body_at at s)); next = next_at s at }
      entry-read =
          entry_whole
          ∙ ap (λ (p : Packet). record { packet = p; next = next_at s at })
          (at_read n (take (next_at s at) s) (at + 2) low high
          ∙ ap (λ (p : List ℕ). placed (at + 2) (read_of n p)) (drop-take (at + 2) (size (drop at s)) s))

-- an entry of an inbox, with m entries after it
pub record Stands (n m at : ℕ) (s : List ℕ) : Type 0 where
  pub inside : next_at s at ≤ length s
  pub read : entry_read n s at ≡ record { packet = placed (at + 2) (read_of n (body_at at s)); next = next_at s at }
  pub tail : fills m (drop (next_at s at) s) ≡ true

pub entry-stands : (n m k at : ℕ) (s : List ℕ) → 1 ≤ n → n ≤ max_parties → k ≡ suc m → fills k (drop at s) ≡ true → Stands n m at s
entry-stands n m k at s low high e h =
    let t = whole m k at s e h in
    let inside : next_at s at ≤ length s = omega (arith, t.inside) in
    record { inside = inside; read = entry-read n s at low high inside; tail = t.tail }

-- what the reader gave of it: the packet, by its place, and where the next entry begins
pub record Reads (n at : ℕ) (s : List ℕ) (e : Entry) : Type 0 where
  pub packet-is : e.packet ≡ placed (at + 2) (read_of n (body_at at s))
  pub next-is : e.next ≡ next_at s at

pub entry-reads : (n m at : ℕ) (s : List ℕ) → Stands n m at s → (e : Entry) → told_entry e ≡ told_entry (entry_read n s at) → Reads n at s e
entry-reads n m at s h e q =
    let r = entry-one q ∙ h.read in
    record { packet-is = ap (λ (x : Entry). x.packet) r; next-is = ap (λ (x : Entry). x.next) r }
