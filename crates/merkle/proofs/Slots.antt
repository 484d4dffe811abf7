-- The node hashes of a tree lie from left to right, so that each node's stands in the slot of its right tree's first leaf: there root and path are
-- read, and there the recursion over the halves writes. By induction on the shape. Assumes nothing.
use mathlib.Core.Path.{◌≡◌, refl, sym, ap, ap₂, ◌∙◌}
use mathlib.Core.Bool.{Bool, true, false}
use mathlib.Core.List.{List, [], ◌∷◌, ◌++◌, append_assoc}
use Prim.Native.Nat.{ℕ, suc, ◌+◌, ◌-◌, ◌≤◌, ◌<◌}
use native.Mathlib.Nat.{zero-add}
use native.Mathlib.Omega.{arith}
use lib.ListN.{length, get_or, take, drop, set, replicate, length-append, take-append-drop}
use lib.Seq.{length-take-le, drop-cons, drop-drop, append_snoc, take_at, drop-append-add, get_or_at, set_at}
use Rattle.limits.specs.Limits.{max_parties, parties}
use Rattle.merkle.specs.Tree.{Shape, leaf, node, split, shape, size, node_string}
use Rattle.merkle.specs.Hashes.{top_hash, path_hashes, node_hashes, top_at, path_at}
use Rattle.merkle.specs.Shares.{blank, nodes_of, rooted, rooted_in, root_of, rooted_of, path_in, path_of}
use Rattle.merkle.proofs.Way.{Way, left, right, way}
use Rattle.merkle.proofs.Shape.{split-largest, shape-leaf, shape-node, size-shape}
use Rattle.merkle.proofs.Descend.{drop-replicate}
use Rattle.merkle.proofs.Outcomes.{nodes-all}

module _ (H : List ℕ → List ℕ) where
  -- a tree has one node fewer than leaves
  length-nodes : (t : Shape) (i : ℕ) (hs : List (List ℕ)) → length (node_hashes H t i hs) + 1 ≡ size t
  unfolding node_hashes size
  length-nodes leaf i hs = refl
  length-nodes (node l r) i hs =
      let R = node_hashes H r (i + size l) hs in
      omega (arith, length-append (node_hashes H l i hs) (top_hash H (node l r) i hs ∷ R), length-nodes l i hs, length-nodes r (i + size l) hs)

  -- the list ns has the node hashes of t behind `front`, which ends with the slot of the tree's first leaf
  pub record Lie (t : Shape) (i : ℕ) (hs ns : List (List ℕ)) : Type 0 where
    pub front : List (List ℕ)
    pub back : List (List ℕ)
    pub start : length front ≡ i + 1
    pub whole : ns ≡ front ++ (node_hashes H t i hs ++ back)

  module _ (l r : Shape) (i : ℕ) (hs ns : List (List ℕ)) (p : Lie (node l r) i hs ns) where
    abbrev L : List (List ℕ)
    L = node_hashes H l i hs

    abbrev R : List (List ℕ)
    R = node_hashes H r (i + size l) hs

    abbrev top : List ℕ
    top = top_hash H (node l r) i hs

    halves : ns ≡ p.front ++ (L ++ (top ∷ (R ++ p.back)))
    unfolding node_hashes
    halves = p.whole ∙ ap (λ (x : List (List ℕ)). p.front ++ x) (append_assoc L (top ∷ R) p.back)

    lie-left : Lie l i hs ns
    lie-left = record { front = p.front; back = top ∷ (R ++ p.back); start = p.start; whole = halves }

    -- the slot of the node
    before-slot : length (p.front ++ L) ≡ i + size l
    before-slot = omega (arith, length-append p.front L, length-nodes l i hs, p.start)

    at_slot : ns ≡ (p.front ++ L) ++ (top ∷ (R ++ p.back))
    at_slot = halves ∙ sym (append_assoc p.front L (top ∷ (R ++ p.back)))

    lie-right : Lie r (i + size l) hs ns
    lie-right =
        record {
          front = (p.front ++ L) ++ (top ∷ []);
          back = p.back;
          start = length-append (p.front ++ L) (top ∷ []) ∙ ap (λ (n : ℕ). n + 1) before-slot;
          whole = at_slot ∙ sym (append_snoc (p.front ++ L) top (R ++ p.back));
        }

    slot : get_or ns (i + size l) [] ≡ top
    slot =
        ap (λ (x : List (List ℕ)). get_or x (i + size l) []) at_slot
        ∙ get_or_at (p.front ++ L) top (R ++ p.back) [] (i + size l) before-slot

  -- root and path are read there
  pub top_at-read : (t : Shape) (i : ℕ) (hs ns : List (List ℕ)) → Lie t i hs ns → top_at t i hs ns ≡ top_hash H t i hs
  unfolding top_at top_hash
  top_at-read leaf i hs ns p = refl
  top_at-read (node l r) i hs ns p = slot l r i hs ns p

  pub path_at-read : (t : Shape) (m i : ℕ) (hs ns : List (List ℕ)) → Lie t i hs ns → path_at t m i hs ns ≡ path_hashes H t m i hs
  unfolding path_at path_hashes
  path_at-read leaf m i hs ns p = refl
  path_at-read (node l r) m i hs ns p =
      go (way l m) (path_at-read l m i hs ns (lie-left l r i hs ns p))
      (path_at-read r (m - size l) (i + size l) hs ns (lie-right l r i hs ns p))
    where
      go : Way l m → path_at l m i hs ns ≡ path_hashes H l m i hs
          → path_at r (m - size l) (i + size l) hs ns ≡ path_hashes H r (m - size l) (i + size l) hs
          → path_at (node l r) m i hs ns ≡ path_hashes H (node l r) m i hs
      go (left e h) x y =
          rw (e, path_at, path_hashes)
          (ap₂ (λ (a : List (List ℕ)) (b : List ℕ). a ++ (b ∷ [])) x (top_at-read r (i + size l) hs ns (lie-right l r i hs ns p)))
      go (right e h) x y =
          rw (e, path_at, path_hashes)
          (ap₂ (λ (a : List (List ℕ)) (b : List ℕ). a ++ (b ∷ [])) y (top_at-read l i hs ns (lie-left l r i hs ns p)))

  -- so the root and the path that are read from the node hashes of the leaves are those of the leaves
  lie-all : (n : ℕ) (leaves back : List (List ℕ)) → Lie (shape n) 0 leaves (blank ∷ (node_hashes H (shape n) 0 leaves ++ back))
  lie-all n leaves back = record { front = blank ∷ []; back = back; start = refl; whole = refl }

  pub root-read : (n : ℕ) (leaves : List (List ℕ)) → rooted_in n leaves (nodes_of H n leaves) ≡ rooted_of H n leaves
  unfolding rooted rooted_in root_of rooted_of nodes_of
  root-read n leaves = go (parties n) refl
    where
      go : (b : Bool) → parties n ≡ b → rooted_in n leaves (nodes_of H n leaves) ≡ rooted_of H n leaves
      go true e = rw (e, top_at-read (shape n) 0 leaves _ (lie-all n leaves (replicate (max_parties - n) blank)))
      go false e = rw e

  pub path-read : (n j : ℕ) (leaves : List (List ℕ)) → path_in n j leaves (nodes_of H n leaves) ≡ path_of H n j leaves
  unfolding path_in path_of nodes_of
  path-read n j leaves = go (parties n) refl
    where
      go : (b : Bool) → parties n ≡ b → path_in n j leaves (nodes_of H n leaves) ≡ path_of H n j leaves
      go true e =
          rw (e, path_at-read (shape n) (j - 1) 0 leaves _ (lie-all n leaves (replicate (max_parties - n) blank)))
      go false e = rw e

  -- the array that is filled from the first leaf on is blank
  pub nodes-filled : (n : ℕ) (leaves : List (List ℕ)) → 1 ≤ n → n ≤ max_parties
      → take (0 + 1) (replicate max_parties blank) ++ (node_hashes H (shape n) 0 leaves ++ drop (0 + n) (replicate max_parties blank))
      ≡ nodes_of H n leaves
  nodes-filled n leaves low high =
      ap (λ (x : List (List ℕ)). blank ∷ (node_hashes H (shape n) 0 leaves ++ x))
      (ap (λ (j : ℕ). drop j (replicate max_parties blank)) (zero-add n) ∙ drop-replicate n max_parties blank high)
      ∙ sym (nodes-all H n leaves low high)

  -- the root over one leaf, and over two or more
  pub top-leaf : (n i : ℕ) (hs : List (List ℕ)) → n < 2 → top_hash H (shape n) i hs ≡ get_or hs i []
  unfolding top_hash
  top-leaf n i hs h = rw (shape-leaf n h)

  pub top-halves : (n i : ℕ) (hs : List (List ℕ)) → 2 ≤ n → top_hash H (shape n) i hs
      ≡ H (node_string (top_hash H (shape (split n)) i hs) (top_hash H (shape (n - split n)) (i + split n) hs))
  unfolding top_hash
  top-halves n i hs h = rw (shape-node n h, top_hash, size-shape (split n) (split-largest n h).positive)

  -- a tree over one leaf has no node
  pub fill_end : (n i : ℕ) (hs N : List (List ℕ)) → 1 ≤ n → n < 2
      → N ≡ take (i + 1) N ++ (node_hashes H (shape n) i hs ++ drop (i + n) N)
  unfolding node_hashes
  fill_end n i hs N low high =
      let e : n ≡ 1 = omega arith in
      rw (shape-leaf n high, node_hashes, e) (sym (take-append-drop (i + 1) N))

  -- the halves of a tree over n leaves, written into N one after the other, and then the node's hash
  module _ (n k i : ℕ) (hs N M O : List (List ℕ)) (two : 2 ≤ n) (halved : k ≡ split n) (fits : i + n ≤ length N) where
    parts : (1 ≤ k) × (k < n)
    parts = let s = split-largest n two in (omega arith, omega arith)

    abbrev Lefts : List (List ℕ)
    Lefts = node_hashes H (shape k) i hs

    abbrev Rights : List (List ℕ)
    Rights = node_hashes H (shape (n - k)) (i + k) hs

    -- what stands before the node's slot, in it, and after the tree
    abbrev before : List (List ℕ)
    before = take (i + 1) N ++ Lefts

    abbrev old : List ℕ
    old = get_or N (i + k) []

    abbrev after : List (List ℕ)
    after = drop (i + n) N

    length_before : length before ≡ i + k
    length_before =
        let p = parts in
        let l : length (take (i + 1) N) ≡ i + 1 = length-take-le (i + 1) N (omega arith) in
        omega (arith, length-append (take (i + 1) N) Lefts, length-nodes (shape k) i hs, size-shape k p.0)

    length-next : length (before ++ (old ∷ [])) ≡ i + k + 1
    length-next = length-append before (old ∷ []) ∙ ap (λ (j : ℕ). j + 1) length_before

    module _ (e : M ≡ take (i + 1) N ++ (Lefts ++ drop (i + k) N))
        (f : O ≡ take (i + k + 1) M ++ (Rights ++ drop (i + k + (n - k)) M)) where
      first : M ≡ (before ++ (old ∷ [])) ++ drop (suc (i + k)) N
      first =
          let p = parts in
          e ∙ sym (append_assoc (take (i + 1) N) Lefts (drop (i + k) N))
          ∙ ap (λ (x : List (List ℕ)). before ++ x) (drop-cons N (i + k) [] (omega arith))
          ∙ sym (append_snoc before old (drop (suc (i + k)) N))

      past : drop (i + k + (n - k)) M ≡ after
      past =
          let p = parts in
          let m = n - k - 1 in
          let a : i + k + (n - k) ≡ length (before ++ (old ∷ [])) + m = omega (arith, length-next) in
          let b : suc (i + k) + m ≡ i + n = omega arith in
          ap₂ drop a first ∙ drop-append-add (before ++ (old ∷ [])) (drop (suc (i + k)) N) m ∙ drop-drop m (suc (i + k)) N
          ∙ ap (λ (j : ℕ). drop j N) b

      both : O ≡ (before ++ (old ∷ [])) ++ (Rights ++ after)
      both =
          f ∙ ap₂ (λ (x y : List (List ℕ)). x ++ (Rights ++ y))
          (ap (take (i + k + 1)) first ∙ take_at (before ++ (old ∷ [])) (drop (suc (i + k)) N) (i + k + 1) length-next) past

      apart : O ≡ before ++ (old ∷ (Rights ++ after))
      apart = both ∙ append_snoc before old (Rights ++ after)

      -- the node's hash is written into its slot
      pub fill-node : (h : List ℕ) → h ≡ top_hash H (shape n) i hs
          → set O (i + k) h ≡ take (i + 1) N ++ (node_hashes H (shape n) i hs ++ after)
      unfolding node_hashes
      fill-node h q =
          let all : node_hashes H (shape n) i hs ≡ Lefts ++ (h ∷ Rights) =
          rw (q, shape-node n two, ← halved, node_hashes, size-shape k parts.0)
          in
          ap (λ (l : List (List ℕ)). set l (i + k) h) apart
          ∙ set_at before old (Rights ++ after) h (i + k) length_before
          ∙ append_assoc (take (i + 1) N) Lefts (h ∷ (Rights ++ after))
          ∙ ap (λ (l : List (List ℕ)). take (i + 1) N ++ l)
          (sym (append_assoc Lefts (h ∷ Rights) after) ∙ ap (λ (l : List (List ℕ)). l ++ after) (sym all))

-- for `Part::fill`, and for what reads the filled array
pub ruleset fills = (top-leaf, top-halves, fill_end, fill-node)

pub ruleset reads = (root-read, path-read, nodes-filled)
