-- A message within the limits, among n parties: the lengths of its shares, that they can be hashed, that n - t of them rebuild it, and the path of a
-- share. By the laws of the coder and the tree. Assumes nothing.
use mathlib.Core.Path.{◌≡◌, ap, ◌∙◌}
use mathlib.Core.Logic.{◌⊎◌, inl, inr}
use mathlib.Core.List.{List, []}
use Prim.Native.Nat.{ℕ, ◌+◌, ◌-◌, ◌*◌, ◌/◌, ◌≤◌, ◌<◌}
use native.Mathlib.Omega.{arith}
use lib.ListN.{length, get_or, take, drop}
use Rattle.limits.specs.Limits.{max_share}
use Rattle.buffer.specs.Bounds.{Bytes}
use Rattle.erasure.specs.Coding.{share_length, share, shares}
use Rattle.erasure.specs.Rebuild.{present, point, recovered, message}
use Rattle.erasure.proofs.Frame.{share-positive, share-most, length-share}
use Rattle.erasure.proofs.Present.{taken}
use Rattle.erasure.proofs.Complete.{complete}
use Rattle.merkle.specs.Shares.{shares_cause, leaves_of, sides_of, path_of}
use Rattle.merkle.proofs.Sound.{Wide}
use Rattle.merkle.proofs.Trees.{path-counted, path-hashes-wide}
use Rattle.commitment.specs.Private.{Coded}
use Rattle.commitment.proofs.Shared.{one_of, shares-fine, length-shares, share-at}

module _ (n t : ℕ) (m : List ℕ) (c : Coded n t m) where
  -- the length of its shares
  pub share-some : 1 ≤ share_length (n - t) (length m)
  share-some = share-positive (n - t) (length m) (omega (arith, c))

  -- each has bytes
  pub share-there : (j : ℕ) → 1 ≤ length (share (n - t) j m)
  share-there j = omega (arith, length-share (n - t) j m, share-some)

  pub share-fits : share_length (n - t) (length m) ≤ max_share
  share-fits = omega (arith, c, share-most (n - t) (length m) (omega (arith, c)))

  pub all-length : length (shares n (n - t) m) ≡ n * share_length (n - t) (length m)
  all-length = length-shares n (n - t) m

  each-length : length (shares n (n - t) m) / n ≡ share_length (n - t) (length m)
  each-length = one_of n (share_length (n - t) (length m)) (length (shares n (n - t) m)) c.low all-length

  pub fine : (session : ℕ) → shares_cause session n (length (shares n (n - t) m)) ≡ 0
  fine session = shares-fine session n (share_length (n - t) (length m)) (shares n (n - t) m) c.low c.high share-fits all-length

  -- share j, cut from all
  pub cut : (j : ℕ) → 1 ≤ j → j ≤ n
      → take (length (shares n (n - t) m) / n) (drop ((j - 1) * (length (shares n (n - t) m) / n)) (shares n (n - t) m))
      ≡ share (n - t) j m
  cut j first last =
      ap (λ (s : ℕ). take s (drop ((j - 1) * s) (shares n (n - t) m))) each-length ∙ share-at (n - t) m n j first last

  -- n entries, each empty or its share of that number, of which at least n - t are not empty
  module _ (es : List (List ℕ)) (all : length es ≡ n)
      (each : (k : ℕ) → k < n → (get_or es k [] ≡ []) ⊎ (get_or es k [] ≡ share (n - t) (1 + k) m)) (enough : n - t ≤ length (present 1 es)) where
    used : (i : ℕ) → i < n - t → (point (present 1 es) i).share ≡ share (n - t) (point (present 1 es) i).number m
    used i l =
        let T = taken 1 es in
        let inside : i < length (present 1 es) = omega (arith, enough) in
        let j : ℕ = (point (present 1 es) i).number in
        let e : 1 + (j - 1) ≡ j = omega (arith, T.from i inside) in
        go j e (T.place i inside) (T.full i inside) (each (j - 1) (omega (arith, T.from i inside, T.below i inside, all)))
      where
        go : (j : ℕ) → 1 + (j - 1) ≡ j → (point (present 1 es) i).share ≡ get_or es (j - 1) [] → 1 ≤ length (point (present 1 es) i).share
            → (get_or es (j - 1) [] ≡ []) ⊎ (get_or es (j - 1) [] ≡ share (n - t) (1 + (j - 1)) m)
            → (point (present 1 es) i).share ≡ share (n - t) j m
        go j e s f (inl q) = absurd (omega (arith, f, ap length s, ap length q))
        go j e s f (inr q) = s ∙ q ∙ ap (λ (k : ℕ). share (n - t) k m) e

    pub rebuilds : Bytes m → recovered (n - t) (present 1 es) ≡ message m
    rebuilds small =
        complete (n - t) m es (omega (arith, c.low, c.faults)) (omega (arith, all, c.high)) small c.short enough used

module _ (H : List ℕ → List ℕ) (wide : (s : List ℕ) → length (H s) ≡ 32) (session n t : ℕ) (m : List ℕ) (c : Coded n t m) (j : ℕ) (first : 1 ≤ j)
    (last : j ≤ n) where
  -- the path of share j, without blanks
  abbrev pub path_to : List (List ℕ)
  path_to = take (length (sides_of n j)) (path_of H n j (leaves_of H session n (shares n (n - t) m)))

  pub path-count : length path_to ≡ length (sides_of n j)
  path-count = path-counted H wide session n (shares n (n - t) m) (fine n t m c session) j first last

  pub path-each : Wide 32 path_to
  path-each = path-hashes-wide H wide session n (shares n (n - t) m) (fine n t m c session) j first last
