-- The outcomes of the definitions of writing, one law for each, from plain facts about numbers. By the tests of the definitions.
-- Assumes nothing.
use mathlib.Core.Path.{◌≡◌, refl}
use mathlib.Core.Bool.{Bool, true, false, cond, not, ◌||◌}
use mathlib.Core.List.{List}
use Prim.Native.Nat.{ℕ, ◌-◌, ◌≤◌}
use native.Mathlib.Omega.{arith}
use borrow.Author.Tests.{le-ltb, eq-eqb, ltb-false, eqb-true}
use lib.Dec.{ltb, eqb}
use lib.ListN.{length, take}
use Rattle.limits.specs.Limits.{max_parties, max_path, max_share, parties, numbered}
use Rattle.limits.proofs.Ranges.{parties-some, parties-range, numbered_within, numbered-range}
use Rattle.buffer.specs.Given.{written}
use Rattle.merkle.specs.Shares.{sides_of}
use Rattle.merkle.proofs.Descend.{sides-fit}
use Rattle.packet.specs.Format.{packet_of, entry_of}
use Rattle.packet.specs.Answer.{write_cause, write_of, write_entry_of}

pub cause-fine : (n number len count : ℕ) → 1 ≤ n → n ≤ max_parties → 1 ≤ number → number ≤ n → 1 ≤ len → len ≤ max_share
    → count ≡ length (sides_of n number) → write_cause n number len count ≡ 0
unfolding write_cause
cause-fine n number len count low high first last some short h =
    rw (
      parties-some n low high,
      numbered_within n number first last,
      le-ltb len 1 some,
      le-ltb max_share len short,
      eq-eqb count (length (sides_of n number)) h,
    )

-- a cause is 0 only where no test holds
none-holds : (a b c d e : Bool) → ◌≡◌ {A = ℕ} (cond (not a) 1 (cond (not b) 3 (cond (c || d || not e) 10 0))) 0
    → (a ≡ true) × (b ≡ true) × (c ≡ false) × (d ≡ false) × (e ≡ true)
none-holds false b c d e h = absurd (omega arith)
none-holds true false c d e h = absurd (omega arith)
none-holds true true true d e h = absurd (omega arith)
none-holds true true false true e h = absurd (omega arith)
none-holds true true false false false h = absurd (omega arith)
none-holds true true false false true h = (refl, refl, refl, refl, refl)

-- a packet that is written
pub record Fine (n number len count : ℕ) : Type 0 where
  pub low : 1 ≤ n
  pub high : n ≤ max_parties
  pub first : 1 ≤ number
  pub last : number ≤ n
  pub some : 1 ≤ len
  pub short : len ≤ max_share
  pub hashes : count ≡ length (sides_of n number)
  pub few : count ≤ max_path

pub fine_of : (n number len count : ℕ) → write_cause n number len count ≡ 0 → Fine n number len count
unfolding write_cause
fine_of n number len count e =
    let h =
    none-holds (parties n) (numbered n number) (ltb len 1) (ltb max_share len) (eqb count (length (sides_of n number))) e in
    let (low, high) = parties-range n h.0 in
    let (first, last) = numbered-range n number h.1 in
    let hashes : count ≡ length (sides_of n number) = eqb-true count (length (sides_of n number)) h.4 in record {
      low = low;
      high = high;
      first = first;
      last = last;
      some = ltb-false len 1 h.2;
      short = ltb-false max_share len h.3;
      hashes = hashes;
      few = omega (arith, sides-fit n (number - 1) high (omega arith));
    }

module _ (n number : ℕ) (share : List ℕ) (path : List (List ℕ)) (count : ℕ) (out : List ℕ) where
  module _ (fine : write_cause n number (length share) count ≡ 0) where
    pub write-written : write_of n number share path count out ≡ written (packet_of number share (take count path)) out
    unfolding write_of
    write-written = rw (eq-eqb (write_cause n number (length share) count) 0 fine)

    pub entry-written : write_entry_of n number share path count out
        ≡ written (entry_of (packet_of number share (take count path))) out
    unfolding write_entry_of
    entry-written = rw (eq-eqb (write_cause n number (length share) count) 0 fine)
