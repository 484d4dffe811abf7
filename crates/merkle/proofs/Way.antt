-- At a node, leaf m lies in the left tree or in the right one, and its sides are those in that tree with one more; an audit path is
-- as long as the list of its sides. By the two cases of the test in the definitions. Assumes nothing.
use mathlib.Core.Path.{◌≡◌, refl}
use mathlib.Core.Bool.{Bool, true, false}
use mathlib.Core.List.{List, [], ◌∷◌, ◌++◌}
use Prim.Native.Nat.{ℕ, ◌-◌, ◌≤◌, ◌<◌}
use native.Mathlib.Omega.{arith}
use borrow.Author.Tests.{ltb-true, ltb-false}
use lib.Dec.{ltb}
use lib.ListN.{length, take, drop, length-append}
use Rattle.merkle.specs.Tree.{Shape, leaf, node, size, on_left, on_right, sides, path}

-- which way leaf m lies from a node with the left tree l
pub data Way (l : Shape) (m : ℕ) : Type 0 where
  left : ltb m (size l) ≡ true → m < size l → Way l m
  right : ltb m (size l) ≡ false → size l ≤ m → Way l m

pub way : (l : Shape) (m : ℕ) → Way l m
way l m = go (ltb m (size l)) refl
  where
    go : (b : Bool) → ltb m (size l) ≡ b → Way l m
    go true e = left e (ltb-true m (size l) e)
    go false e = right e (ltb-false m (size l) e)

pub sides-left : (l r : Shape) (m : ℕ) → ltb m (size l) ≡ true → sides (node l r) m ≡ sides l m ++ (on_right ∷ [])
unfolding sides
sides-left l r m e = rw (e, sides)

pub sides-right : (l r : Shape) (m : ℕ) → ltb m (size l) ≡ false → sides (node l r) m ≡ sides r (m - size l) ++ (on_left ∷ [])
unfolding sides
sides-right l r m e = rw (e, sides)

module _ (H : List ℕ → List ℕ) where
  pub length-path : (t : Shape) (m : ℕ) (ds : List (List ℕ)) → length (sides t m) ≡ length (path H t m ds)
  unfolding path sides
  length-path leaf m ds = refl
  length-path (node l r) m ds =
      go (way l m) (length-path l m (take (size l) ds)) (length-path r (m - size l) (drop (size l) ds))
    where
      go : Way l m → length (sides l m) ≡ length (path H l m (take (size l) ds))
          → length (sides r (m - size l)) ≡ length (path H r (m - size l) (drop (size l) ds))
          → length (sides (node l r) m) ≡ length (path H (node l r) m ds)
      go (left e i) p q = rw (e, path, sides) (simp length-append (omega arith))
      go (right e i) p q = rw (e, path, sides) (simp length-append (omega arith))
