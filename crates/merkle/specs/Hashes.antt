-- The root, the audit path and all node hashes made from leaf hashes that lie in one list, hs: the first leaf of the tree is entry i of the list.
-- Root and path are also read where the hashes of leaves and nodes lie. Assumes nothing.
use Rattle.std.specs.Prelude.{cond, List, [], ◌∷◌, ◌++◌, ℕ, ◌+◌, ◌-◌, ltb, get_or}
use Rattle.merkle.specs.Tree.{Shape, leaf, node, size, node_string}

module _ (H : List ℕ → List ℕ) where
  -- the root
  unfoldable pub top_hash : Shape → ℕ → List (List ℕ) → List ℕ
  top_hash leaf i hs = get_or hs i []
  top_hash (node l r) i hs = H (node_string (top_hash l i hs) (top_hash r (i + size l) hs))

  -- the audit path of leaf m of the tree, entry i + m of the list, from the leaf upward
  unfoldable pub path_hashes : Shape → ℕ → ℕ → List (List ℕ) → List (List ℕ)
  path_hashes leaf m i hs = []
  path_hashes (node l r) m i hs =
      cond (ltb m (size l))
      (path_hashes l m i hs ++ (top_hash r (i + size l) hs ∷ []))
      (path_hashes r (m - size l) (i + size l) hs ++ (top_hash l i hs ∷ []))

  -- the hashes of the nodes from left to right: that of a node between those of its left tree and those of its right one
  unfoldable pub node_hashes : Shape → ℕ → List (List ℕ) → List (List ℕ)
  node_hashes leaf i hs = []
  node_hashes (node l r) i hs = node_hashes l i hs ++ (top_hash (node l r) i hs ∷ node_hashes r (i + size l) hs)

-- the root, read from the leaf hashes hs and the node hashes ns: a node whose right tree begins with entry g of hs has its hash in entry g of ns
unfoldable pub top_at : Shape → ℕ → List (List ℕ) → List (List ℕ) → List ℕ
top_at leaf i hs ns = get_or hs i []
top_at (node l r) i hs ns = get_or ns (i + size l) []

-- the audit path of leaf m, read so
unfoldable pub path_at : Shape → ℕ → ℕ → List (List ℕ) → List (List ℕ) → List (List ℕ)
path_at leaf m i hs ns = []
path_at (node l r) m i hs ns =
    cond (ltb m (size l))
    (path_at l m i hs ns ++ (top_at r (i + size l) hs ns ∷ []))
    (path_at r (m - size l) (i + size l) hs ns ++ (top_at l i hs ns ∷ []))
