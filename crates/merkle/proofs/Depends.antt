-- A root, a path and a check depend on the hash only at the strings that are named as hashed: two hashes that agree on these give the
-- same. By induction on the shape, and on the path. Assumes nothing.
use mathlib.Core.Path.{◌≡◌, refl, ap, ap₂, ◌∙◌}
use mathlib.Core.List.Memᴰ
use mathlib.Core.List.{List, [], ◌∷◌, ◌++◌, Memᴰ}
use Prim.Native.Nat.{ℕ, ◌-◌}
use lib.ListN.{get_or, take, drop}
use Rattle.merkle.specs.Tree.{Shape, leaf, node, size, node_string, Side, beside, root, path, folded}
use Rattle.merkle.specs.Strings.{tree_strings, fold_strings, check_strings}
use Rattle.merkle.proofs.Way.{Way, left, right, way}

module _ (H K : List ℕ → List ℕ) where
  -- the two hashes agree on the strings of a list
  abbrev pub Agree : List (List ℕ) → Type 0
  Agree xs = (x : List ℕ) → Memᴰ x xs → H x ≡ K x

  agree_left : (l r : Shape) (ds : List (List ℕ)) → Agree (tree_strings H (node l r) ds)
      → Agree (tree_strings H l (take (size l) ds))
  unfolding tree_strings
  agree_left l r ds f x i = f x (Memᴰ.tail (Memᴰ.append_left (tree_strings H r (drop (size l) ds)) i))

  agree_right : (l r : Shape) (ds : List (List ℕ)) → Agree (tree_strings H (node l r) ds)
      → Agree (tree_strings H r (drop (size l) ds))
  unfolding tree_strings
  agree_right l r ds f x i = f x (Memᴰ.tail (Memᴰ.append_right (tree_strings H l (take (size l) ds)) i))

  pub root-depends : (t : Shape) (ds : List (List ℕ)) → Agree (tree_strings H t ds) → root H t ds ≡ root K t ds
  unfolding root tree_strings
  root-depends leaf ds f = f (get_or ds 0 []) (Memᴰ.head refl)
  root-depends (node l r) ds f =
      f (node_string (root H l (take (size l) ds)) (root H r (drop (size l) ds))) (Memᴰ.head refl)
      ∙ ap₂ (λ (a b : List ℕ). K (node_string a b)) (root-depends l (take (size l) ds) (agree_left l r ds f))
      (root-depends r (drop (size l) ds) (agree_right l r ds f))

  pub tree_strings-depends : (t : Shape) (ds : List (List ℕ)) → Agree (tree_strings H t ds)
      → tree_strings H t ds ≡ tree_strings K t ds
  unfolding tree_strings
  tree_strings-depends leaf ds f = refl
  tree_strings-depends (node l r) ds f =
      let fl = agree_left l r ds f in
      let fr = agree_right l r ds f in
      rw (
        root-depends l (take (size l) ds) fl,
        root-depends r (drop (size l) ds) fr,
        tree_strings-depends l (take (size l) ds) fl,
        tree_strings-depends r (drop (size l) ds) fr,
      )

  pub path-depends : (t : Shape) (m : ℕ) (ds : List (List ℕ)) → Agree (tree_strings H t ds) → path H t m ds ≡ path K t m ds
  unfolding path
  path-depends leaf m ds f = refl
  path-depends (node l r) m ds f =
      go (way l m) (path-depends l m (take (size l) ds) (agree_left l r ds f))
      (path-depends r (m - size l) (drop (size l) ds) (agree_right l r ds f))
    where
      go : Way l m → path H l m (take (size l) ds) ≡ path K l m (take (size l) ds)
          → path H r (m - size l) (drop (size l) ds) ≡ path K r (m - size l) (drop (size l) ds)
          → path H (node l r) m ds ≡ path K (node l r) m ds
      go (left e i) p q =
          rw (e, path)
          (ap₂ (λ (a : List (List ℕ)) (b : List ℕ). a ++ (b ∷ [])) p (root-depends r (drop (size l) ds) (agree_right l r ds f)))
      go (right e i) p q =
          rw (e, path)
          (ap₂ (λ (a : List (List ℕ)) (b : List ℕ). a ++ (b ∷ [])) q (root-depends l (take (size l) ds) (agree_left l r ds f)))

  pub folded-depends : (a : List Side) (p : List (List ℕ)) (h : List ℕ) → Agree (fold_strings H a p h)
      → folded H a p h ≡ folded K a p h
  unfolding folded fold_strings
  folded-depends [] p h f = refl
  folded-depends (d ∷ a) [] h f = refl
  folded-depends (d ∷ a) (x ∷ p) h f =
      folded-depends a p (H (beside d h x)) (λ y i. f y (Memᴰ.tail i))
      ∙ ap (folded K a p) (f (beside d h x) (Memᴰ.head refl))

  pub check-depends : (a : List Side) (p : List (List ℕ)) (s : List ℕ) → Agree (check_strings H a p s)
      → folded H a p (H s) ≡ folded K a p (K s)
  unfolding check_strings
  check-depends a p s f =
      folded-depends a p (H s) (λ y i. f y (Memᴰ.tail i)) ∙ ap (folded K a p) (f s (Memᴰ.head refl))
