-- The root and the audit path made from a list of leaf hashes are those of the leaf strings. By induction on the shape.
-- Assumes nothing.
use mathlib.Core.Path.{◌≡◌, refl, sym, ap, ap₂, ◌∙◌}
use mathlib.Core.Bool.{true, false}
use mathlib.Core.List.{List, [], ◌∷◌, ◌++◌}
use Prim.Native.Nat.{ℕ, ◌+◌, ◌-◌, ◌<◌}
use native.Mathlib.Omega.{arith}
use lib.Dec.{ltb}
use lib.ListN.{get_or, take, drop}
use lib.Seq.{get_or-take, get_or-drop}
use Rattle.merkle.specs.Tree.{Shape, leaf, node, size, node_string, root, path}
use Rattle.merkle.specs.Hashes.{top_hash, path_hashes, top_at, path_at}
use Rattle.merkle.proofs.Way.{Way, left, right, way}

module _ (H : List ℕ → List ℕ) where
  -- from entry i on, the list hs holds the hashes of the first n leaf strings of ds
  abbrev pub Hashed : ℕ → ℕ → List (List ℕ) → List (List ℕ) → Type 0
  Hashed n i hs ds = (k : ℕ) → k < n → get_or hs (i + k) [] ≡ H (get_or ds k [])

  hashed-left : (n k i : ℕ) (hs ds : List (List ℕ)) → Hashed (n + k) i hs ds → Hashed n i hs (take n ds)
  hashed-left n k i hs ds f j h = f j (omega arith) ∙ ap H (sym (get_or-take n ds j [] h))

  hashed-right : (n k i : ℕ) (hs ds : List (List ℕ)) → Hashed (n + k) i hs ds → Hashed k (i + n) hs (drop n ds)
  hashed-right n k i hs ds f j h =
      let e : (i + n) + j ≡ i + (n + j) = omega arith in
      ap (λ (x : ℕ). get_or hs x []) e ∙ f (n + j) (omega arith) ∙ ap H (sym (get_or-drop n ds j []))

  pub top_hash-root : (t : Shape) (i : ℕ) (hs ds : List (List ℕ)) → Hashed (size t) i hs ds → top_hash H t i hs ≡ root H t ds
  unfolding top_hash root size
  top_hash-root leaf i hs ds f =
      let e : i ≡ i + 0 = omega arith in
      ap (λ (x : ℕ). get_or hs x []) e ∙ f 0 (omega arith)
  top_hash-root (node l r) i hs ds f =
      ap₂ (λ (a b : List ℕ). H (node_string a b))
      (top_hash-root l i hs (take (size l) ds) (hashed-left (size l) (size r) i hs ds f))
      (top_hash-root r (i + size l) hs (drop (size l) ds) (hashed-right (size l) (size r) i hs ds f))

  pub path_hashes-path : (t : Shape) (m i : ℕ) (hs ds : List (List ℕ)) → Hashed (size t) i hs ds
      → path_hashes H t m i hs ≡ path H t m ds
  unfolding path_hashes path size
  path_hashes-path leaf m i hs ds f = refl
  path_hashes-path (node l r) m i hs ds f =
      go (way l m) (path_hashes-path l m i hs (take (size l) ds) fl)
      (path_hashes-path r (m - size l) (i + size l) hs (drop (size l) ds) fr)
    where
      fl : Hashed (size l) i hs (take (size l) ds)
      fl = hashed-left (size l) (size r) i hs ds f

      fr : Hashed (size r) (i + size l) hs (drop (size l) ds)
      fr = hashed-right (size l) (size r) i hs ds f

      go : Way l m → path_hashes H l m i hs ≡ path H l m (take (size l) ds)
          → path_hashes H r (m - size l) (i + size l) hs ≡ path H r (m - size l) (drop (size l) ds)
          → path_hashes H (node l r) m i hs ≡ path H (node l r) m ds
      go (left e h) p q =
          rw (e, path_hashes, path)
          (ap₂ (λ (a : List (List ℕ)) (b : List ℕ). a ++ (b ∷ [])) p (top_hash-root r (i + size l) hs (drop (size l) ds) fr))
      go (right e h) p q =
          rw (e, path_hashes, path)
          (ap₂ (λ (a : List (List ℕ)) (b : List ℕ). a ++ (b ∷ [])) q (top_hash-root l i hs (take (size l) ds) fl))

-- a path read where the hashes lie, by the tree in which its leaf lies
pub path_at-left : (l r : Shape) (m i : ℕ) (hs ns : List (List ℕ)) → ltb m (size l) ≡ true
    → path_at (node l r) m i hs ns ≡ path_at l m i hs ns ++ (top_at r (i + size l) hs ns ∷ [])
unfolding path_at
path_at-left l r m i hs ns e = rw (e, path_at)

pub path_at-right : (l r : Shape) (m i : ℕ) (hs ns : List (List ℕ)) → ltb m (size l) ≡ false
    → path_at (node l r) m i hs ns ≡ path_at r (m - size l) (i + size l) hs ns ++ (top_at l i hs ns ∷ [])
unfolding path_at
path_at-right l r m i hs ns e = rw (e, path_at)
