-- The audit path of a leaf, folded from the leaf's hash, leads to the root. By induction on the shape: the last step of the path is
-- the step at the root. Assumes nothing.
use mathlib.Core.Path.{◌≡◌, refl, ap, ◌∙◌}
use mathlib.Core.List.{List, []}
use Prim.Native.Nat.{ℕ, zero, suc, ◌+◌, ◌-◌, ◌≤◌, ◌<◌}
use native.Mathlib.Omega.{arith}
use lib.ListN.{get_or, take, drop}
use lib.Seq.{get_or-take, get_or-drop}
use Rattle.merkle.specs.Tree.{Shape, leaf, node, size, node_string, on_left, on_right, sides, beside, root, path, folded}
use Rattle.merkle.proofs.Way.{Way, left, right, way, length-path}
use Rattle.merkle.proofs.Fold.{folded-append}

-- leaf m of the right tree
pub get_or-right : (k : ℕ) (ds : List (List ℕ)) (m : ℕ) → k ≤ m → get_or (drop k ds) (m - k) [] ≡ get_or ds m []
get_or-right k ds m h =
    let e : k + (m - k) ≡ m = omega arith in
    get_or-drop k ds (m - k) [] ∙ ap (λ (j : ℕ). get_or ds j []) e

module _ (H : List ℕ → List ℕ) where
  abbrev Accepts : Shape → ℕ → List (List ℕ) → Type 0
  Accepts t m ds = folded H (sides t m) (path H t m ds) (H (get_or ds m [])) ≡ root H t ds

  pub complete : (t : Shape) (m : ℕ) (ds : List (List ℕ)) → m < size t
      → folded H (sides t m) (path H t m ds) (H (get_or ds m [])) ≡ root H t ds
  unfolding folded path sides root size beside
  complete leaf zero ds h = refl
  complete leaf (suc m) ds h = absurd (omega arith)
  complete (node l r) m ds h = go (way l m) (complete l m (take (size l) ds)) (complete r (m - size l) (drop (size l) ds))
    where
      go : Way l m → (m < size l → Accepts l m (take (size l) ds))
          → (m - size l < size r → Accepts r (m - size l) (drop (size l) ds)) → Accepts (node l r) m ds
      go (left e i) p q =
          let f : Accepts l m (take (size l) ds) = p i in
          rw (e, path, sides, ← get_or-take (size l) ds m [] i)
          (folded-append H (sides l m) (path H l m (take (size l) ds)) on_right _ _ (length-path H l m (take (size l) ds))
          ∙ ap (λ (x : List ℕ). H (node_string x (root H r (drop (size l) ds)))) f)
      go (right e i) p q =
          let f : Accepts r (m - size l) (drop (size l) ds) = q (omega arith) in
          rw (e, path, sides, ← get_or-right (size l) ds m i)
          (folded-append H (sides r (m - size l)) (path H r (m - size l) (drop (size l) ds)) on_left _ _
          (length-path H r (m - size l) (drop (size l) ds))
          ∙ ap (λ (x : List ℕ). H (node_string (root H l (take (size l) ds)) x)) f)
