-- One step from a node down to the half that holds a leaf: where the node divides, where the halves lie, what the step says of sides,
-- root and path, and how arrays note it. By the law of a node's shape, in the two cases of the test. Assumes nothing.
use mathlib.Core.Path.{◌≡◌, refl, sym, ap, ◌∙◌}
use mathlib.Core.Bool.{true, false}
use mathlib.Core.List.{List, [], ◌∷◌, ◌++◌}
use Prim.Native.Nat.{ℕ, suc, ◌+◌, ◌-◌, ◌*◌, ◌^◌, ◌≤◌, ◌<◌}
use native.Mathlib.Nat.{two-pow-succ}
use native.Mathlib.Numerals.{add-one}
use native.Mathlib.Omega.{arith}
use borrow.Author.Tests.{lt-ltb, le-ltb}
use lib.Dec.{ltb}
use lib.ListN.{length, get_or, drop, set, replicate, length-append, length-replicate, replicate-append-replicate}
use lib.Pow.{pow_mono, pow_pos}
use lib.Seq.{drop_at, drop-cons, set_at, append_snoc}
use Rattle.limits.specs.Limits.{max_parties, max_path}
use Rattle.merkle.specs.Tree.{Shape, leaf, node, split, shape, size, sides, on_left, on_right}
use Rattle.merkle.specs.Hashes.{top_at, path_at}
use Rattle.merkle.proofs.Way.{Way, left, right, way, sides-left, sides-right}
use Rattle.merkle.proofs.Hashes.{path_at-left, path_at-right}
use Rattle.merkle.proofs.Shape.{pow_below, split-largest, split-most}
use Rattle.merkle.proofs.Shape.{shape-leaf, shape-node, size-shape, sides-bound}

-- a power of two smaller than n, whose double is not, is split n
pub split-only : (n k e : ℕ) → k ≡ 2 ^ e → k < n → n ≤ k * 2 → k ≡ split n
split-only n k e p h i =
    let h' : 2 ≤ n = omega (arith, pow_pos e) in
    let s = split-largest n h' in
    let x = s.exponent in
    let j : x < suc e = pow_below x (suc e) (omega (arith, two-pow-succ e, s.power, s.below)) in
    let f : 2 ^ x ≤ 2 ^ e = pow_mono {i = x} {j = e} (omega arith) in
    let g : 2 ^ e ≤ split n = split-most n e h' (omega arith) in
    omega (arith, s.power)

-- a path array has room for every way
pub parties-path : max_parties ≤ 2 ^ max_path
parties-path = omega arith

pub sides-fit : (n m : ℕ) → n ≤ max_parties → m < n → length (sides (shape n) m) ≤ max_path
sides-fit n m h i = sides-bound max_path n m (omega (arith, parties-path)) i

-- a tree over less than two leaves
pub sides-end : (n m : ℕ) → n < 2 → sides (shape n) m ≡ []
unfolding sides
sides-end n m h = rw (shape-leaf n h)

pub path-end : (n m i : ℕ) (hs ns : List (List ℕ)) → n < 2 → path_at (shape n) m i hs ns ≡ []
unfolding path_at
path-end n m i hs ns h = rw (shape-leaf n h)

pub top-end : (n i : ℕ) (hs ns : List (List ℕ)) → n < 2 → top_at (shape n) i hs ns ≡ get_or hs i []
unfolding top_at
top-end n i hs ns h = rw (shape-leaf n h)

-- the root over two leaves or more
pub top-node : (n i : ℕ) (hs ns : List (List ℕ)) → 2 ≤ n → top_at (shape n) i hs ns ≡ get_or ns (i + split n) []
unfolding top_at
top-node n i hs ns h = rw (shape-node n h, top_at, size-shape (split n) (split-largest n h).positive)

-- one step down from the root over two leaves or more, to the half that holds leaf `at`
module _ (width at : ℕ) (two : 2 ≤ width) where
  left-size : size (shape (split width)) ≡ split width
  left-size = size-shape (split width) (split-largest width two).positive

  module _ (h : at < split width) where
    goes-left : ltb at (size (shape (split width))) ≡ true
    goes-left = rw left-size (lt-ltb at (split width) h)

    pub left-sides : sides (shape width) at ≡ sides (shape (split width)) at ++ (on_right ∷ [])
    left-sides = rw (shape-node width two) (sides-left (shape (split width)) (shape (width - split width)) at goes-left)

    pub left-path : (first : ℕ) (hs ns : List (List ℕ)) → path_at (shape width) at first hs ns
        ≡ path_at (shape (split width)) at first hs ns ++ (top_at (shape (width - split width)) (first + split width) hs ns ∷ [])
    left-path first hs ns =
        rw (shape-node width two)
        (path_at-left (shape (split width)) (shape (width - split width)) at first hs ns goes-left ∙ rw left-size)

  module _ (h : split width ≤ at) where
    goes-right : ltb at (size (shape (split width))) ≡ false
    goes-right = rw left-size (le-ltb at (split width) h)

    pub right-sides : sides (shape width) at ≡ sides (shape (width - split width)) (at - split width) ++ (on_left ∷ [])
    right-sides =
        rw (shape-node width two)
        (sides-right (shape (split width)) (shape (width - split width)) at goes-right ∙ rw left-size)

    pub right-path : (first : ℕ) (hs ns : List (List ℕ)) → path_at (shape width) at first hs ns
        ≡ path_at (shape (width - split width)) (at - split width) (first + split width) hs ns
        ++ (top_at (shape (split width)) first hs ns ∷ [])
    right-path first hs ns =
        rw (shape-node width two)
        (path_at-right (shape (split width)) (shape (width - split width)) at first hs ns goes-right ∙ rw left-size)

-- what is left of equal elements
pub drop-replicate : {A : Type 0} (k n : ℕ) (a : A) → k ≤ n → drop k (replicate n a) ≡ replicate (n - k) a
drop-replicate k n a h =
    let e : n ≡ k + (n - k) = omega arith in
    ap (λ (j : ℕ). drop k (replicate j a)) e
    ∙ ap (drop k) (sym (replicate-append-replicate k (n - k) a))
    ∙ drop_at (replicate k a) (replicate (n - k) a) k (length-replicate k a)

-- a path has as many hashes as sides
pub length-path_at : (t : Shape) (m i : ℕ) (hs ns : List (List ℕ)) → length (path_at t m i hs ns) ≡ length (sides t m)
unfolding path_at sides
length-path_at leaf m i hs ns = refl
length-path_at (node l r) m i hs ns =
    go (way l m) (length-path_at l m i hs ns) (length-path_at r (m - size l) (i + size l) hs ns)
  where
    go : Way l m → length (path_at l m i hs ns) ≡ length (sides l m)
        → length (path_at r (m - size l) (i + size l) hs ns) ≡ length (sides r (m - size l))
        → length (path_at (node l r) m i hs ns) ≡ length (sides (node l r) m)
    go (left e h) p q = rw (e, path_at, sides) (simp length-append (omega arith))
    go (right e h) p q = rw (e, path_at, sides) (simp length-append (omega arith))

-- a hash written behind k others
pub path-put : (p old : List (List ℕ)) (k : ℕ) (h : List ℕ) → length p ≡ k → k < length old
    → set (p ++ drop k old) k h ≡ (p ++ (h ∷ [])) ++ drop (k + 1) old
path-put p old k h e i =
    ap (λ (l : List (List ℕ)). set (p ++ l) k h) (drop-cons old k [] i)
    ∙ set_at p (get_or old k []) (drop (suc k) old) h k e
    ∙ sym (append_snoc p h (drop (suc k) old))
    ∙ ap (λ (j : ℕ). (p ++ (h ∷ [])) ++ drop j old) (sym (add-one k))

-- what `Spot::down` says of its halves
pub ruleset descends = (sides-fit, sides-end, path-end, left-sides, left-path, right-sides, right-path)

-- what `Tree::top` reads
pub ruleset tops = (top-end, top-node)
