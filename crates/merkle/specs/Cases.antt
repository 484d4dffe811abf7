-- Worked examples: how long the audit paths of small trees are, and the tree of RFC 6962, 2.1.3. Assumes nothing.
use Rattle.std.specs.Prelude.{◌≡◌, List, [], ◌∷◌, map, ℕ, length}
use Rattle.std.proofs.Math.Path.{refl}
use Rattle.merkle.specs.Tree.{split_from, split, shape_of, shape, size, sides, node_string, root, path}
use Rattle.merkle.specs.Hashes.{top_hash, node_hashes, top_at, path_at}

-- n 3: 2, 2, 1
pub three : map (λ (m : ℕ). length (sides (shape 3) m)) (0 ∷ 1 ∷ 2 ∷ []) ≡ 2 ∷ 2 ∷ 1 ∷ []
unfolding split_from split shape_of shape size sides
three = refl

-- n 5: 3, 3, 3, 3, 1
pub five : map (λ (m : ℕ). length (sides (shape 5) m)) (0 ∷ 1 ∷ 2 ∷ 3 ∷ 4 ∷ []) ≡ 3 ∷ 3 ∷ 3 ∷ 3 ∷ 1 ∷ []
unfolding split_from split shape_of shape size sides
five = refl

-- n 9: 4 but for the last leaf
pub nine : map (λ (m : ℕ). length (sides (shape 9) m)) (0 ∷ 1 ∷ 2 ∷ 3 ∷ 4 ∷ 5 ∷ 6 ∷ 7 ∷ 8 ∷ []) ≡ 4 ∷ 4 ∷ 4 ∷ 4 ∷ 4 ∷ 4 ∷ 4 ∷ 4 ∷ 1 ∷ []
unfolding split_from split shape_of shape size sides
nine = refl

-- the example of RFC 6962, 2.1.3, for any hash: seven leaves a, b, c, d, e, f, j; g and h over the first four, i over e and f,
-- k over g and h, l over i and j
module _ (H : List ℕ → List ℕ) (d0 d1 d2 d3 d4 d5 d6 : List ℕ) where
  abbrev leaves : List (List ℕ)
  leaves = d0 ∷ d1 ∷ d2 ∷ d3 ∷ d4 ∷ d5 ∷ d6 ∷ []

  abbrev g : List ℕ
  g = H (node_string (H d0) (H d1))

  abbrev h : List ℕ
  h = H (node_string (H d2) (H d3))

  abbrev i : List ℕ
  i = H (node_string (H d4) (H d5))

  abbrev k : List ℕ
  k = H (node_string g h)

  abbrev l : List ℕ
  l = H (node_string i (H d6))

  pub seven-root : root H (shape 7) leaves ≡ H (node_string k l)
  unfolding root shape shape_of split split_from size
  seven-root = refl

  pub seven-paths : (path H (shape 7) 0 leaves ≡ H d1 ∷ h ∷ l ∷ [])
      × (path H (shape 7) 3 leaves ≡ H d2 ∷ g ∷ l ∷ [])
      × (path H (shape 7) 4 leaves ≡ H d5 ∷ H d6 ∷ k ∷ [])
      × (path H (shape 7) 6 leaves ≡ i ∷ k ∷ [])
  unfolding root path shape shape_of split split_from size
  seven-paths = (refl, refl, refl, refl)

  -- its node hashes from left to right, and root and path read from where they lie
  abbrev hashes : List (List ℕ)
  hashes = map H leaves

  abbrev nodes : List (List ℕ)
  nodes = [] ∷ g ∷ k ∷ h ∷ H (node_string k l) ∷ i ∷ l ∷ []

  pub seven-nodes : [] ∷ node_hashes H (shape 7) 0 hashes ≡ nodes
  unfolding node_hashes top_hash shape shape_of split split_from size
  seven-nodes = refl

  pub seven-read : (top_at (shape 7) 0 hashes nodes ≡ H (node_string k l)) × (path_at (shape 7) 4 0 hashes nodes ≡ H d5 ∷ H d6 ∷ k ∷ [])
  unfolding top_at path_at shape shape_of split split_from size
  seven-read = (refl, refl)
