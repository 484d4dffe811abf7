-- The strings that are hashed for a tree and for the check of a path, and what two different strings with one hash are. Assumes nothing.
use Rattle.std.specs.Prelude.{◌≡◌, ◌≢◌, ℕ, get_or, take, drop}
use mathlib.Core.List.{List, [], ◌∷◌, ◌++◌, Memᴰ}
use Rattle.merkle.specs.Tree.{Shape, leaf, node, size, node_string, Side, beside, root}

module _ (H : List ℕ → List ℕ) where
  -- the leaf and node strings of the tree over the leaf strings ds
  unfoldable pub tree_strings : Shape → List (List ℕ) → List (List ℕ)
  tree_strings leaf ds = get_or ds 0 [] ∷ []
  tree_strings (node l r) ds =
      node_string (root H l (take (size l) ds)) (root H r (drop (size l) ds))
      ∷ (tree_strings l (take (size l) ds) ++ tree_strings r (drop (size l) ds))

  -- the node strings on the way that a path leads from the hash h
  unfoldable pub fold_strings : List Side → List (List ℕ) → List ℕ → List (List ℕ)
  fold_strings [] p h = []
  fold_strings (d ∷ ds) [] h = []
  fold_strings (d ∷ ds) (sibling ∷ p) h = beside d h sibling ∷ fold_strings ds p (H (beside d h sibling))

  -- the strings hashed in checking a path from the leaf string s: that string, and the node strings on the way
  unfoldable pub check_strings : List Side → List (List ℕ) → List ℕ → List (List ℕ)
  check_strings ds p s = s ∷ fold_strings ds p (H s)

  -- two different strings with one hash, the first of the list xs and the second of the list ys
  pub record Collision (xs ys : List (List ℕ)) : Type 0 where
    pub first : List ℕ
    pub second : List ℕ
    pub first-in : Memᴰ first xs
    pub second-in : Memᴰ second ys
    pub differ : first ≢ second
    pub same : H first ≡ H second
