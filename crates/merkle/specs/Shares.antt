-- The tree over the shares of a message (document 01, "Field, shares, tree"): leaf strings, root, audit path and path check. What is said of leaves is said
-- under a session's number, which stands in every leaf string unless it is 0 (document 02, No. 6: a sitting's number). The hash is a parameter; document 01's is SHA-256, at
-- which the contracts cite these. Assumes nothing.
use Rattle.std.specs.Prelude.{Bool, true, false, cond, not, ◌&&◌, List, [], ◌∷◌, ◌++◌, map, ℕ, ◌+◌, ◌-◌, ◌*◌, ◌/◌, ◌%◌, ltb, eqb, length, take, drop, replicate}
use Rattle.limits.specs.Limits.{max_parties, max_path, max_hashed, parties, numbered}
use Rattle.buffer.specs.Splice.{tabulate}
use Rattle.buffer.specs.Numbers.{four_bytes}
use Rattle.merkle.specs.Tree.{Side, shape, sides, folded}
use Rattle.merkle.specs.Strings.{tree_strings, check_strings}
use Rattle.merkle.specs.Hashes.{top_hash, path_hashes, node_hashes, top_at, path_at}
use Rattle.merkle.specs.Answer.{Count, not_counted, count_of, Check, not_checked, answer_of}
use Rattle.merkle.specs.Answer.{Rooted}

-- a session's number in a leaf string: four bytes, the highest first; under number 0 none
unfoldable pub session_bytes : ℕ → List ℕ
session_bytes session = cond (eqb session 0) [] (four_bytes session)

-- leaf string: 0x00, the session's number, the share's number in one byte, the share
unfoldable pub leaf_string : ℕ → ℕ → List ℕ → List ℕ
leaf_string session j share = 0x00 ∷ (session_bytes session ++ (j ∷ share))

-- how many bytes stand before the share
unfoldable pub front_length : ℕ → ℕ
front_length session = 2 + length (session_bytes session)

-- the leaf strings of n shares of equal length that lie one behind the other
unfoldable pub leaf_strings : ℕ → ℕ → List ℕ → List (List ℕ)
leaf_strings session n shares = tabulate n (λ i. leaf_string session (i + 1) (take (length shares / n) (drop (i * (length shares / n)) shares)))

-- 32 zeros
abbrev pub blank : List ℕ
blank = replicate 32 0

-- why n shares of len bytes together are not hashed: n out of its range (1), a leaf string too long to hash (4; a share's length is
-- len / n, rounded down), not n equal shares (8, here by our own choice); 0: they are
unfoldable pub shares_cause : ℕ → ℕ → ℕ → ℕ
shares_cause session n len =
    cond (not (parties n)) 1
    (cond (ltb max_hashed (front_length session + len / n)) 4
    (cond (not (eqb (len % n) 0)) 8
    0))

-- the sides of the siblings of share j of n, from the leaf upward
abbrev pub sides_of : ℕ → ℕ → List Side
sides_of n j = sides (shape n) (j - 1)

-- how many hashes the audit path of share j of n has: causes 1 and 3
unfoldable pub path_length_of : ℕ → ℕ → Count
path_length_of n j = cond (not (parties n)) (not_counted 1) (cond (not (numbered n j)) (not_counted 3) (count_of (length (sides_of n j))))

-- a root over n leaf hashes in an answer: cause 1, and a blank, where n is out of its range
unfoldable pub rooted : ℕ → List ℕ → Rooted
rooted n top = cond (not (parties n)) (record { cause = 1; root = blank }) (record { cause = 0; root = top })

-- where the root over the first n leaf hashes stands among them and the hashes of their nodes (nodes_of, below: then it is the root, proved in
-- `Slots`), as an answer
unfoldable pub rooted_in : ℕ → List (List ℕ) → List (List ℕ) → Rooted
rooted_in n leaves nodes = rooted n (top_at (shape n) 0 leaves nodes)

-- the audit path of share j, read so, and blanks up to the greatest length of a path; all blank where n or j is out of its range
unfoldable pub path_in : ℕ → ℕ → List (List ℕ) → List (List ℕ) → List (List ℕ)
path_in n j leaves nodes =
    cond (parties n && numbered n j)
    (path_at (shape n) (j - 1) 0 leaves nodes ++ replicate (max_path - length (sides_of n j)) blank)
    (replicate max_path blank)

-- the two lists are equal
unfoldable pub same : List ℕ → List ℕ → Bool
same [] [] = true
same [] (b ∷ bs) = false
same (a ∷ as') [] = false
same (a ∷ as') (b ∷ bs) = eqb a b && same as' bs

module _ (H : List ℕ → List ℕ) where
  -- the leaf hashes, and blanks up to the greatest number of parties; all blank where a cause applies
  unfoldable pub leaves_of : ℕ → ℕ → List ℕ → List (List ℕ)
  leaves_of session n shares =
      cond (eqb (shares_cause session n (length shares)) 0) (map H (leaf_strings session n shares) ++ replicate (max_parties - n) blank)
      (replicate max_parties blank)

  -- the root over the first n leaf hashes, and the same as an answer
  unfoldable pub root_of : ℕ → List (List ℕ) → List ℕ
  root_of n leaves = top_hash H (shape n) 0 leaves

  unfoldable pub rooted_of : ℕ → List (List ℕ) → Rooted
  rooted_of n leaves = rooted n (root_of n leaves)

  -- the audit path of share j, and blanks up to the greatest length of a path; all blank where n or j is out of its range
  unfoldable pub path_of : ℕ → ℕ → List (List ℕ) → List (List ℕ)
  path_of n j leaves =
      cond (parties n && numbered n j)
      (path_hashes H (shape n) (j - 1) 0 leaves ++ replicate (max_path - length (sides_of n j)) blank)
      (replicate max_path blank)

  -- the node hashes over the first n leaf hashes: a node whose right tree begins with leaf hash g (from 0) has entry g. Entry 0 and those from n on
  -- are blank, and all where n is out of its range
  unfoldable pub nodes_of : ℕ → List (List ℕ) → List (List ℕ)
  nodes_of n leaves =
      cond (parties n) (blank ∷ (node_hashes H (shape n) 0 leaves ++ replicate (max_parties - n) blank)) (replicate max_parties blank)

  -- the path check: of a path of at least `count` hashes the first `count` are as many as n and j give, and fold to the root
  unfoldable pub passes : ℕ → ℕ → ℕ → List ℕ → List (List ℕ) → ℕ → List ℕ → Bool
  passes session n j share path count root =
      eqb count (length (sides_of n j)) && same (folded H (sides_of n j) (take count path) (H (leaf_string session j share))) root

  -- the strings hashed in coding n shares: their leaf strings and the node strings
  unfoldable pub coding_strings : ℕ → ℕ → List ℕ → List (List ℕ)
  coding_strings session n shares = tree_strings H (shape n) (leaf_strings session n shares)

  -- the strings hashed in a check that is not refused: none where the path's length is wrong
  unfoldable pub strings_of : ℕ → ℕ → ℕ → List ℕ → List (List ℕ) → ℕ → List (List ℕ)
  strings_of session n j share path count =
      cond (eqb count (length (sides_of n j))) (check_strings H (sides_of n j) (take count path) (leaf_string session j share)) []

  -- the public check: causes 1, 3, 4 and 7, else yes or no
  unfoldable pub check_of : ℕ → ℕ → ℕ → List ℕ → List (List ℕ) → ℕ → List ℕ → Check
  check_of session n j share path count root =
      cond (not (parties n)) (not_checked 1)
      (cond (not (numbered n j)) (not_checked 3)
      (cond (ltb max_hashed (front_length session + length share)) (not_checked 4)
      (cond (not (eqb (length root) 32)) (not_checked 7)
      (answer_of (passes session n j share path count root)))))
