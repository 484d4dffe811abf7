-- Places in a list, kept within it: an entry's bytes and what follows it, where the list may be too short for them. Assumes nothing.
use mathlib.Core.Path.{◌≡◌, refl, sym, ap, ◌∙◌}
use mathlib.Core.List.{List, []}
use Prim.Native.Nat.{ℕ, zero, suc, ◌+◌, ◌-◌, ◌<◌, ◌≤◌, min}
use native.Mathlib.Omega.{arith}
use Rattle.std.proofs.lemmas.List as lists
use lib.ListN.{length, get_or, take, drop, length-take, length-drop}
use Rattle.buffer.specs.Entries.{size, body, rest, bodies, entry_at}
use Rattle.buffer.proofs.Entries.{body-drop}

-- past the end nothing stands, as at the end
pub drop_min : (a : ℕ) (s : List ℕ) → drop (min a (length s)) s ≡ drop a s
drop_min a s = lists.drop_min a s

-- k bytes from a place on, or as many as there are
pub take_min : (from k : ℕ) (s : List ℕ) → from ≤ length s
    → take (min (from + k) (length s) - from) (drop from s) ≡ take k (drop from s)
take_min from k s h =
    let e : min (from + k) (length s) - from ≡ min k (length (drop from s)) = omega (arith, length-drop from s) in
    rw e (lists.take_min k (drop from s))

-- the entry at a place: where its bytes start, and where they end
module _ (at start end : ℕ) (s : List ℕ) (a : start ≡ min (at + 2) (length s))
    (b : end ≡ min (start + size (drop at s)) (length s)) where
  pub entry-body : body (drop at s) ≡ take (end - start) (drop start s)
  entry-body =
      body-drop at s ∙ ap (take (size (drop at s))) (sym (ap (λ (k : ℕ). drop k s) a ∙ drop_min (at + 2) s))
      ∙ sym (take_min start (size (drop at s)) s (omega arith))
      ∙ ap (λ (k : ℕ). take (k - start) (drop start s)) (sym b)

-- the entry behind j others, among n
pub entry-of-bodies : (n j : ℕ) (s : List ℕ) → j < n → get_or (bodies n s) j [] ≡ entry_at j s
unfolding bodies entry_at
entry-of-bodies zero j s h = absurd (omega arith)
entry-of-bodies (suc n) zero s h = refl
entry-of-bodies (suc n) (suc j) s h = entry-of-bodies n j (rest s) (omega arith)

pub entry-within : (j : ℕ) (s : List ℕ) → length (entry_at j s) ≤ length s
unfolding entry_at body rest
entry-within zero s = omega (arith, length-take (size s) (drop 2 s), length-drop 2 s)
entry-within (suc j) s = omega (arith, entry-within j (rest s), length-drop (2 + size s) s)
