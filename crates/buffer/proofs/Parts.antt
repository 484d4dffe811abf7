-- Parts of lists, and what is written into one: how long a part is, where it ends, and a write into what follows a place. By the laws of `take`
-- and `drop`. Assumes nothing.
use mathlib.Core.Path.{◌≡◌, ap}
use mathlib.Core.List.{List, [], ◌++◌, append-nil}
use Prim.Native.Nat.{ℕ, ◌+◌, ◌-◌, ◌≤◌}
use native.Mathlib.Nat.{add-sub_cancel_left, zero-add}
use native.Mathlib.Omega.{arith}
use lib.ListN.{length, take, drop, length-drop, drop_of_length-le}
use lib.Seq.{drop-drop, take_all, length-take-le}
use Rattle.buffer.specs.Splice.{spliced}

-- len bytes from a place on
module _ (s : List ℕ) (from len : ℕ) where
  pub length_part : from + len ≤ length s → length (take len (drop from s)) ≡ len
  length_part h = length-take-le len (drop from s) (omega (arith, length-drop from s))

  -- the same, by where they end
  pub part-ends : take (from + len - from) (drop from s) ≡ take len (drop from s)
  part-ends = ap (λ (k : ℕ). take k (drop from s)) (add-sub_cancel_left from len)

-- all that follows a place
pub part-rest : (s : List ℕ) (from : ℕ) → take (length s - from) (drop from s) ≡ drop from s
part-rest s from = take_all (length s - from) (drop from s) (omega (arith, length-drop from s))

-- bytes written at the start of what follows place `at`
pub tail-spliced : (o bs : List ℕ) (at k : ℕ) → k ≡ length o - at
    → take at o ++ (spliced (drop at o) 0 bs ++ drop k (drop at o)) ≡ spliced o at bs
unfolding spliced
tail-spliced o bs at k e =
    let none : drop k (drop at o) ≡ [] = drop_of_length-le (drop at o) {i = k} (omega (arith, length-drop at o)) in
    rw none (simp (zero-add, append-nil, drop-drop))
