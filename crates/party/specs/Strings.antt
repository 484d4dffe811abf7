-- The strings of the path checks that a party makes of an inbox, in the order of its senders. The hash of the tree is a parameter H.
-- Assumes nothing.
use Rattle.std.specs.Prelude.{cond, List, [], ◌∷◌, ◌++◌, ℕ, ◌+◌, eqb}
use Rattle.packet.specs.Class.{Class, silent, faulty, valid, class_of, class_strings}

-- these strings, unless a packet of this class ends the search
abbrev pub unless_valid : Class → List (List ℕ) → List (List ℕ)
unless_valid silent ss = ss
unless_valid faulty ss = ss
unless_valid (valid x p) ss = []

module _ (H : List ℕ → List ℕ) where
  -- all path checks: each other sender's packet is checked that bears the number demanded of it; of senders numbered from j on
  unfoldable pub judged_strings : ℕ → ℕ → ℕ → (ℕ → ℕ) → ℕ → List (List ℕ) → List (List ℕ)
  judged_strings session n own number j [] = []
  judged_strings session n own number j (p ∷ ps) =
      cond (eqb j own) [] (class_strings H session n (number j) p) ++ judged_strings session n own number (j + 1) ps

  -- in step 4 the own number is demanded. What is relayed is settled by the checks up to the first that passes
  abbrev pub all_share_strings : ℕ → ℕ → ℕ → ℕ → List (List ℕ) → List (List ℕ)
  all_share_strings session n own j ps = judged_strings session n own (λ k. own) j ps

  unfoldable pub share_strings : ℕ → ℕ → ℕ → List ℕ → ℕ → List (List ℕ) → List (List ℕ)
  share_strings session n own z j [] = []
  share_strings session n own z j (p ∷ ps) =
      cond (eqb j own) (share_strings session n own z (j + 1) ps)
      (class_strings H session n own p ++ unless_valid (class_of H session n own z p) (share_strings session n own z (j + 1) ps))

  -- in step 5 each sender's own number is demanded
  abbrev pub relay_strings : ℕ → ℕ → ℕ → ℕ → List (List ℕ) → List (List ℕ)
  relay_strings session n own j ps = judged_strings session n own (λ k. k) j ps
