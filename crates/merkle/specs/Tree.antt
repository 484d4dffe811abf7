-- The Merkle tree of RFC 6962, section 2.1, over any hash H of strings of bytes. The leaves are given as leaf strings: what is hashed for
-- a leaf, with its first byte 0x00. Assumes nothing.
use Rattle.std.specs.Prelude.{cond, List, [], ◌∷◌, ◌++◌, ℕ, zero, suc, ◌+◌, ◌-◌, ◌*◌, ltb, get_or, take, drop}

-- the largest power of two smaller than n, for n at least 2: 1 doubled as long as the double is smaller than n, at most n times
unfoldable pub split_from : ℕ → ℕ → ℕ → ℕ
split_from zero k n = k
split_from (suc fuel) k n = cond (ltb (k * 2) n) (split_from fuel (k * 2) n) k

unfoldable pub split : ℕ → ℕ
split n = split_from n 1 n

-- the shape of the tree over n leaves: one leaf, or the trees over the first split n leaves and over the others (no tree is more
-- than n high, so n steps suffice; the tree over n leaves has n of them: `size-shape`)
pub data Shape : Type 0 where
  leaf : Shape
  node : Shape → Shape → Shape

unfoldable pub shape_of : ℕ → ℕ → Shape
shape_of zero n = leaf
shape_of (suc fuel) n = cond (ltb n 2) leaf (node (shape_of fuel (split n)) (shape_of fuel (n - split n)))

unfoldable pub shape : ℕ → Shape
shape n = shape_of n n

-- the number of leaves
unfoldable pub size : Shape → ℕ
size leaf = 1
size (node l r) = size l + size r

-- what is hashed for a node: 0x01, the left hash, the right hash
unfoldable pub node_string : List ℕ → List ℕ → List ℕ
node_string a b = 0x01 ∷ (a ++ b)

-- on which side of the way from a leaf to the root a sibling stands
pub data Side : Type 0 where
  on_left on_right : Side

-- the sides of the siblings of leaf m (from 0), from the leaf upward; an audit path is as long as this list
unfoldable pub sides : Shape → ℕ → List Side
sides leaf m = []
sides (node l r) m = cond (ltb m (size l)) (sides l m ++ (on_right ∷ [])) (sides r (m - size l) ++ (on_left ∷ []))

-- the node string of a hash and its sibling
unfoldable pub beside : Side → List ℕ → List ℕ → List ℕ
beside on_right h sibling = node_string h sibling
beside on_left h sibling = node_string sibling h

module _ (H : List ℕ → List ℕ) where
  -- MTH: the root of the tree over the leaf strings ds
  unfoldable pub root : Shape → List (List ℕ) → List ℕ
  root leaf ds = H (get_or ds 0 [])
  root (node l r) ds = H (node_string (root l (take (size l) ds)) (root r (drop (size l) ds)))

  -- PATH: the audit path of leaf m, from the leaf upward
  unfoldable pub path : Shape → ℕ → List (List ℕ) → List (List ℕ)
  path leaf m ds = []
  path (node l r) m ds =
      cond (ltb m (size l))
      (path l m (take (size l) ds) ++ (root r (drop (size l) ds) ∷ []))
      (path r (m - size l) (drop (size l) ds) ++ (root l (take (size l) ds) ∷ []))

  -- the hash that a path leads to from the hash h, upward: each step hashes the node string of the hash so far and its sibling
  unfoldable pub folded : List Side → List (List ℕ) → List ℕ → List ℕ
  folded [] p h = h
  folded (d ∷ ds) [] h = h
  folded (d ∷ ds) (sibling ∷ p) h = folded ds p (H (beside d h sibling))
