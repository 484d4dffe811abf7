-- A path that leads from a string to a tree's root starts at the tree's own leaf string, or else two different strings with one hash
-- are among those hashed in the check and in the tree; and two lists of leaf strings with one root are equal, or else two such strings
-- are among those hashed in the two trees. By induction on the shape: the two strings at the top differ, or are equal and so are
-- their halves. The hash is any function whose results are w long. Assumes nothing.
use mathlib.Core.Path.{◌≡◌, refl, sym, ap, ap₂, ◌∙◌}
use mathlib.Core.Logic.{◌⊎◌, inl, inr}
use mathlib.Core.List.Memᴰ
use mathlib.Core.List.{List, [], ◌∷◌, ◌++◌, List-discrete, Memᴰ}
use Prim.Native.Nat.{ℕ, zero, suc, ◌+◌, ◌-◌, ◌≤◌, ◌<◌}
use native.Mathlib.Decide.{ℕ_discrete}
use native.Mathlib.Omega.{arith}
use lib.ListN.{length, get_or, take, drop, length-append, length-drop, take-append-drop}
use lib.Seq.{get_or-take, take_at, drop_at, take-suc, take_all, length-take-le}
use Rattle.merkle.specs.Tree.{Shape, leaf, node, size, node_string, Side, on_left, on_right, sides, beside, root, folded}
use Rattle.merkle.specs.Strings.{tree_strings, check_strings, Collision}
use Rattle.merkle.proofs.Way.{Way, left, right, way, sides-left, sides-right}
use Rattle.merkle.proofs.Fold.{folded-append, check_strings-append}
use Rattle.merkle.proofs.Complete.{get_or-right}

-- equal node strings with left hashes of one length have equal hashes
left-same : (w : ℕ) (a b c d : List ℕ) → length a ≡ w → length c ≡ w → node_string a b ≡ node_string c d → a ≡ c
unfolding node_string
left-same w a b c d x y e =
    let f : a ++ b ≡ c ++ d = ap (drop 1) e in
    sym (take_at a b w x) ∙ ap (take w) f ∙ take_at c d w y

right-same : (w : ℕ) (a b c d : List ℕ) → length a ≡ w → length c ≡ w → node_string a b ≡ node_string c d → b ≡ d
unfolding node_string
right-same w a b c d x y e =
    let f : a ++ b ≡ c ++ d = ap (drop 1) e in
    sym (drop_at a b w x) ∙ ap (drop w) f ∙ drop_at c d w y

-- a list is its first elements and its last
init-last : (p : List (List ℕ)) (k : ℕ) → length p ≡ k + 1 → p ≡ take k p ++ (get_or p k [] ∷ [])
init-last p k e = sym (take_all (suc k) p (omega arith)) ∙ take-suc p k [] (omega arith)

module _ (H : List ℕ → List ℕ) where
  widen : {xs xs' ys ys' : List (List ℕ)} → ((x : List ℕ) → Memᴰ x xs → Memᴰ x xs')
      → ((y : List ℕ) → Memᴰ y ys → Memᴰ y ys') → Collision H xs ys → Collision H xs' ys'
  widen f g k =
      record {
        first = k.first;
        second = k.second;
        first-in = f k.first k.first-in;
        second-in = g k.second k.second-in;
        differ = k.differ;
        same = k.same;
      }

  -- two strings with one hash are equal, or collide
  meet : (x y : List ℕ) (xs ys : List (List ℕ)) (P : Type 0) → Memᴰ x xs → Memᴰ y ys → H x ≡ H y
      → (x ≡ y → P ⊎ Collision H xs ys) → P ⊎ Collision H xs ys
  meet x y xs ys P i j e f = go (List-discrete ℕ_discrete x y)
    where
      go : Dec (x ≡ y) → P ⊎ Collision H xs ys
      go (yes q) = f q
      go (no d) = inr (record { first = x; second = y; first-in = i; second-in = j; differ = d; same = e })

  -- the last step of a check against the top string of a tree
  step : (a : List Side) (p : List (List ℕ)) (d : Side) (q s y : List ℕ) (ys : List (List ℕ)) (P : Type 0) → length a ≡ length p
      → folded H (a ++ (d ∷ [])) (p ++ (q ∷ [])) (H s) ≡ H y
      → (beside d (folded H a p (H s)) q ≡ y → P ⊎ Collision H (check_strings H a p s) ys)
      → P ⊎ Collision H (check_strings H (a ++ (d ∷ [])) (p ++ (q ∷ [])) s) (y ∷ ys)
  step a p d q s y ys P n e f =
      rw (check_strings-append H a p d q s n)
      (meet x y (check_strings H a p s ++ (x ∷ [])) (y ∷ ys) P (Memᴰ.append_right (check_strings H a p s) (Memᴰ.head refl))
      (Memᴰ.head refl) (sym (folded-append H a p d q (H s) n) ∙ e) (λ g. more (f g)))
    where
      x : List ℕ
      x = beside d (folded H a p (H s)) q

      more : P ⊎ Collision H (check_strings H a p s) ys → P ⊎ Collision H (check_strings H a p s ++ (x ∷ [])) (y ∷ ys)
      more (inl g) = inl g
      more (inr k) = inr (widen (λ z h. Memᴰ.append_left (x ∷ []) h) (λ z h. Memᴰ.tail h) k)

-- every hash of a path is w long
abbrev pub Wide : ℕ → List (List ℕ) → Type 0
Wide w p = (i : ℕ) → i < length p → length (get_or p i []) ≡ w

pub wide-take : (w k : ℕ) (p : List (List ℕ)) → k ≤ length p → Wide w p → Wide w (take k p)
wide-take w k p h z i j =
    let n : i < k = omega (arith, length-take-le k p h) in
    ap length (get_or-take k p i [] n) ∙ z i (omega arith)

module _ (H : List ℕ → List ℕ) (w : ℕ) (wide : (s : List ℕ) → length (H s) ≡ w) where
  pub root-length : (t : Shape) (ds : List (List ℕ)) → length (root H t ds) ≡ w
  unfolding root
  root-length leaf ds = wide _
  root-length (node l r) ds = wide _

  pub folded-length : (a : List Side) (p : List (List ℕ)) (s : List ℕ) → length (folded H a p (H s)) ≡ w
  unfolding folded
  folded-length [] p s = wide s
  folded-length (d ∷ a) [] s = wide s
  folded-length (d ∷ a) (x ∷ p) s = folded-length a p (beside d (H s) x)

  abbrev Outcome : Shape → ℕ → List (List ℕ) → List ℕ → List (List ℕ) → Type 0
  Outcome t m ds s p = (s ≡ get_or ds m []) ⊎ Collision H (check_strings H (sides t m) p s) (tree_strings H t ds)

  abbrev Sound : Shape → ℕ → List (List ℕ) → List ℕ → List (List ℕ) → Type 0
  Sound t m ds s p = length p ≡ length (sides t m) → Wide w p → folded H (sides t m) p (H s) ≡ root H t ds → Outcome t m ds s p

  -- at a node: p is the path in the left tree, or in the right one, and q the sibling of that tree
  module _ (l r : Shape) (m : ℕ) (ds : List (List ℕ)) (s : List ℕ) (p : List (List ℕ)) where
    at_left : m < size l → Outcome l m (take (size l) ds) s p
        → (s ≡ get_or ds m [])
        ⊎ Collision H (check_strings H (sides l m) p s) (tree_strings H l (take (size l) ds) ++ tree_strings H r (drop (size l) ds))
    at_left i (inl g) = inl (g ∙ get_or-take (size l) ds m [] i)
    at_left i (inr k) = inr (widen H (λ x h. h) (λ y h. Memᴰ.append_left (tree_strings H r (drop (size l) ds)) h) k)

    at_right : size l ≤ m → Outcome r (m - size l) (drop (size l) ds) s p
        → (s ≡ get_or ds m [])
        ⊎ Collision H (check_strings H (sides r (m - size l)) p s)
        (tree_strings H l (take (size l) ds) ++ tree_strings H r (drop (size l) ds))
    at_right i (inl g) = inl (g ∙ get_or-right (size l) ds m i)
    at_right i (inr k) = inr (widen H (λ x h. h) (λ y h. Memᴰ.append_right (tree_strings H l (take (size l) ds)) h) k)

    step_left : (q : List ℕ) → m < size l → length p ≡ length (sides l m)
        → (folded H (sides l m) p (H s) ≡ root H l (take (size l) ds) → Outcome l m (take (size l) ds) s p)
        → folded H (sides l m ++ (on_right ∷ [])) (p ++ (q ∷ [])) (H s) ≡ root H (node l r) ds
        → (s ≡ get_or ds m [])
        ⊎ Collision H (check_strings H (sides l m ++ (on_right ∷ [])) (p ++ (q ∷ [])) s) (tree_strings H (node l r) ds)
    unfolding root tree_strings beside
    step_left q i n f e =
        let a = root H l (take (size l) ds) in
        let b = root H r (drop (size l) ds) in
        let c = folded H (sides l m) p (H s) in
        step H (sides l m) p on_right q s (node_string a b)
        (tree_strings H l (take (size l) ds) ++ tree_strings H r (drop (size l) ds))
        (s ≡ get_or ds m []) (sym n) e
        (λ x. at_left i (f (left-same w c q a b (folded-length (sides l m) p s) (root-length l (take (size l) ds)) x)))

    step_right : (q : List ℕ) → size l ≤ m → length p ≡ length (sides r (m - size l)) → length q ≡ w
        → (folded H (sides r (m - size l)) p (H s) ≡ root H r (drop (size l) ds) → Outcome r (m - size l) (drop (size l) ds) s p)
        → folded H (sides r (m - size l) ++ (on_left ∷ [])) (p ++ (q ∷ [])) (H s) ≡ root H (node l r) ds
        → (s ≡ get_or ds m [])
        ⊎ Collision H (check_strings H (sides r (m - size l) ++ (on_left ∷ [])) (p ++ (q ∷ [])) s) (tree_strings H (node l r) ds)
    unfolding root tree_strings beside
    step_right q i n z f e =
        let a = root H l (take (size l) ds) in
        let b = root H r (drop (size l) ds) in
        let c = folded H (sides r (m - size l)) p (H s) in
        step H (sides r (m - size l)) p on_left q s (node_string a b)
        (tree_strings H l (take (size l) ds) ++ tree_strings H r (drop (size l) ds))
        (s ≡ get_or ds m []) (sym n) e
        (λ x. at_right i (f (right-same w q c a b z (root-length l (take (size l) ds)) x)))

  pub sound : (t : Shape) (m : ℕ) (ds : List (List ℕ)) (s : List ℕ) (p : List (List ℕ)) → m < size t
      → length p ≡ length (sides t m) → Wide w p → folded H (sides t m) p (H s) ≡ root H t ds
      → (s ≡ get_or ds m []) ⊎ Collision H (check_strings H (sides t m) p s) (tree_strings H t ds)
  unfolding size sides folded root check_strings tree_strings
  sound leaf zero ds s p h n z e =
      meet H s (get_or ds 0 []) (check_strings H [] p s) (get_or ds 0 [] ∷ []) (s ≡ get_or ds 0 [])
      (Memᴰ.head refl) (Memᴰ.head refl) e (λ q. inl q)
  sound leaf (suc m) ds s p h n z e = absurd (omega arith)
  sound (node l r) m ds s p h n z e =
      go (way l m) (sound l m (take (size l) ds) s (take (length (sides l m)) p))
      (sound r (m - size l) (drop (size l) ds) s (take (length (sides r (m - size l))) p)) n e
    where
      go : Way l m → (m < size l → Sound l m (take (size l) ds) s (take (length (sides l m)) p))
          → (m - size l < size r → Sound r (m - size l) (drop (size l) ds) s (take (length (sides r (m - size l))) p))
          → length p ≡ length (sides (node l r) m) → folded H (sides (node l r) m) p (H s) ≡ root H (node l r) ds
          → Outcome (node l r) m ds s p
      go (left t i) f g n e =
          let k = length (sides l m) in
          let n' : length p ≡ k + 1 = n ∙ ap length (sides-left l r m t) ∙ length-append (sides l m) (on_right ∷ []) in
          let u : length (take k p) ≡ k = length-take-le k p (omega arith) in
          let v : p ≡ take k p ++ (get_or p k [] ∷ []) = init-last p k n' in
          let x : folded H (sides l m ++ (on_right ∷ [])) (take k p ++ (get_or p k [] ∷ [])) (H s) ≡ root H (node l r) ds =
          sym (ap₂ (λ (c : List Side) (y : List (List ℕ)). folded H c y (H s)) (sides-left l r m t) v) ∙ e in
          rw (sides-left l r m t, v)
          (step_left l r m ds s (take k p) (get_or p k []) i u (f i u (wide-take w k p (omega arith) z)) x)
      go (right t i) f g n e =
          let k = length (sides r (m - size l)) in
          let n' : length p ≡ k + 1 = n ∙ ap length (sides-right l r m t) ∙ length-append (sides r (m - size l)) (on_left ∷ []) in
          let u : length (take k p) ≡ k = length-take-le k p (omega arith) in
          let v : p ≡ take k p ++ (get_or p k [] ∷ []) = init-last p k n' in
          let x : folded H (sides r (m - size l) ++ (on_left ∷ [])) (take k p ++ (get_or p k [] ∷ [])) (H s) ≡ root H (node l r) ds =
          sym (ap₂ (λ (c : List Side) (y : List (List ℕ)). folded H c y (H s)) (sides-right l r m t) v) ∙ e in
          rw (sides-right l r m t, v)
          (step_right l r m ds s (take k p) (get_or p k []) i u (z k (omega arith))
          (g (omega arith) u (wide-take w k p (omega arith) z)) x)

  abbrev Same : Shape → List (List ℕ) → List (List ℕ) → Type 0
  Same t ds es = (ds ≡ es) ⊎ Collision H (tree_strings H t ds) (tree_strings H t es)

  pub same-roots : (t : Shape) (ds es : List (List ℕ)) → length ds ≡ size t → length es ≡ size t → root H t ds ≡ root H t es
      → (ds ≡ es) ⊎ Collision H (tree_strings H t ds) (tree_strings H t es)
  unfolding size root tree_strings
  same-roots leaf ds es h i e =
      meet H (get_or ds 0 []) (get_or es 0 []) (get_or ds 0 [] ∷ []) (get_or es 0 [] ∷ []) (ds ≡ es)
      (Memᴰ.head refl) (Memᴰ.head refl) e
      (λ q. inl (init-last ds 0 h ∙ ap (λ (x : List ℕ). x ∷ []) q ∙ sym (init-last es 0 i)))
  same-roots (node l r) ds es h i e =
      both (same-roots l (take (size l) ds) (take (size l) es)
      (length-take-le (size l) ds (omega arith)) (length-take-le (size l) es (omega arith)))
      (same-roots r (drop (size l) ds) (drop (size l) es)
      (omega (arith, length-drop (size l) ds)) (omega (arith, length-drop (size l) es)))
    where
      a : List ℕ
      a = root H l (take (size l) ds)

      b : List ℕ
      b = root H r (drop (size l) ds)

      c : List ℕ
      c = root H l (take (size l) es)

      d : List ℕ
      d = root H r (drop (size l) es)

      halves : Same l (take (size l) ds) (take (size l) es) → Same r (drop (size l) ds) (drop (size l) es) → Same (node l r) ds es
      halves (inl x) (inl y) =
          inl (sym (take-append-drop (size l) ds) ∙ ap₂ (λ (u v : List (List ℕ)). u ++ v) x y ∙ take-append-drop (size l) es)
      halves (inl x) (inr y) =
          inr (widen H (λ z j. Memᴰ.tail (Memᴰ.append_right (tree_strings H l (take (size l) ds)) j))
          (λ z j. Memᴰ.tail (Memᴰ.append_right (tree_strings H l (take (size l) es)) j)) y)
      halves (inr x) y =
          inr (widen H (λ z j. Memᴰ.tail (Memᴰ.append_left (tree_strings H r (drop (size l) ds)) j))
          (λ z j. Memᴰ.tail (Memᴰ.append_left (tree_strings H r (drop (size l) es)) j)) x)

      both : (a ≡ c → Same l (take (size l) ds) (take (size l) es)) → (b ≡ d → Same r (drop (size l) ds) (drop (size l) es))
          → Same (node l r) ds es
      both f g =
          meet H (node_string a b) (node_string c d) (tree_strings H (node l r) ds) (tree_strings H (node l r) es) (ds ≡ es)
          (Memᴰ.head refl) (Memᴰ.head refl) e
          (λ x. halves (f (left-same w a b c d (root-length l _) (root-length l _) x))
          (g (right-same w a b c d (root-length l _) (root-length l _) x)))
