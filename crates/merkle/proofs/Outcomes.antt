-- Nodes, root and path where n and j are within their ranges. By the tests of the definitions. Assumes nothing.
use mathlib.Core.Path.{◌≡◌}
use mathlib.Core.List.{List, ◌∷◌, ◌++◌}
use Prim.Native.Nat.{ℕ, ◌-◌, ◌≤◌}
use lib.ListN.{length, replicate}
use Rattle.limits.specs.Limits.{max_parties, max_path}
use Rattle.limits.proofs.Ranges.{parties-some, numbered_within}
use Rattle.merkle.specs.Tree.{shape, sides}
use Rattle.merkle.specs.Hashes.{path_hashes, node_hashes, path_at}
use Rattle.merkle.specs.Shares.{blank, nodes_of, rooted, root_of, rooted_of, path_in, path_of}

module _ (H : List ℕ → List ℕ) (n : ℕ) (leaves : List (List ℕ)) where
  pub nodes-all : 1 ≤ n → n ≤ max_parties
      → nodes_of H n leaves ≡ blank ∷ (node_hashes H (shape n) 0 leaves ++ replicate (max_parties - n) blank)
  unfolding nodes_of
  nodes-all low high = rw (parties-some n low high)

pub root-made : (H : List ℕ → List ℕ) (n : ℕ) (leaves : List (List ℕ)) → 1 ≤ n → n ≤ max_parties
    → rooted_of H n leaves ≡ record { cause = 0; root = root_of H n leaves }
unfolding rooted rooted_of
root-made H n leaves low high = rw (parties-some n low high)

-- with the length of the path, in any form
pub path-at : (n j : ℕ) (leaves nodes : List (List ℕ)) → 1 ≤ n → n ≤ max_parties → 1 ≤ j → j ≤ n → (count : ℕ)
    → count ≡ length (sides (shape n) (j - 1))
    → path_in n j leaves nodes ≡ path_at (shape n) (j - 1) 0 leaves nodes ++ replicate (max_path - count) blank
unfolding path_in
path-at n j leaves nodes low high first last count e = rw (parties-some n low high, numbered_within n j first last, e)

module _ (H : List ℕ → List ℕ) (n j : ℕ) (leaves : List (List ℕ)) where
  pub path-hashes : 1 ≤ n → n ≤ max_parties → 1 ≤ j → j ≤ n → (count : ℕ) → count ≡ length (sides (shape n) (j - 1))
      → path_of H n j leaves ≡ path_hashes H (shape n) (j - 1) 0 leaves ++ replicate (max_path - count) blank
  unfolding path_of
  path-hashes low high first last count e = rw (parties-some n low high, numbered_within n j first last, e)
