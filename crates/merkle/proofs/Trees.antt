-- What the tree over n shares gives, for any hash of 32 bytes: the path made for a share passes, a path that passes is that of the tree's own share,
-- two lists of shares with one root are one, and the same shares have another root under another session number, each unless two different strings with one
-- hash are among those hashed; and roots, paths and checks depend on the hash only at the strings hashed. By the laws for all shapes and hashes.
-- Assumes nothing.
use mathlib.Core.Path.{◌≡◌, refl, sym, ap, ap₂, subst, ◌∙◌}
use mathlib.Core.Logic.{◌⊎◌, inl, inr, ◌≢◌}
use mathlib.Core.Bool.{Bool, true, false}
use mathlib.Core.List.{List, [], ◌∷◌, ◌++◌}
use Prim.Native.Nat.{ℕ, zero, suc, ◌+◌, ◌-◌, ◌*◌, ◌/◌, ◌^◌, ◌≤◌, ◌<◌}
use native.Mathlib.Nat.{zero-mul, suc-mul}
use native.Mathlib.Omega.{arith}
use borrow.Author.Tests.{eq-eqb, ltb-true, ltb-false}
use lib.Dec.{ltb}
use lib.ListN.{length, get_or, take, drop, replicate, length-append, length-drop, get_or-append, get_or-eq_default}
use lib.Seq.{get_or-take, get_or_at, take_at, take-add, take_all, length-take-le}
use Rattle.limits.specs.Limits.{max_path, max_hashed}
use Rattle.buffer.proofs.Rows.{row_inside}
use Rattle.merkle.specs.Tree.{Shape, leaf, node, shape, size, sides, root, path, folded}
use Rattle.merkle.specs.Strings.{tree_strings, check_strings, Collision}
use Rattle.merkle.specs.Shares.{leaf_string, leaf_strings, front_length, blank, shares_cause, leaves_of, root_of, sides_of, path_of, same, passes}
use Rattle.merkle.specs.Shares.{coding_strings, strings_of, check_of}
use Rattle.merkle.specs.Answer.{checked, answer_of}
use Rattle.merkle.specs.Answer.{Yes}
use Rattle.merkle.proofs.Way.{Way, left, right, way, length-path}
use Rattle.merkle.proofs.Shape.{size-shape}
use Rattle.merkle.proofs.Complete.{complete}
use Rattle.merkle.proofs.Sound.{Wide, root-length, sound, same-roots}
use Rattle.merkle.proofs.Depends.{Agree, root-depends, path-depends, check-depends}
use Rattle.merkle.proofs.Judged.{Even, even-of, even-whole, same_refl, passes_same, passes-true, check-judged}
use Rattle.merkle.proofs.Rows.{share_at}
use Rattle.merkle.proofs.Shares.{leaf_string-injective, leaf_string-session, length-leaf_strings, get_or-leaf_strings, tree-root, tree-path}

-- every hash of an audit path is as long as a hash
module _ (H : List ℕ → List ℕ) (w : ℕ) (wide : (s : List ℕ) → length (H s) ≡ w) where
  wide-more : (p : List (List ℕ)) (h : List ℕ) → Wide w p → length h ≡ w → Wide w (p ++ (h ∷ []))
  wide-more p h f e i k = go (ltb i (length p)) refl
    where
      go : (b : Bool) → ltb i (length p) ≡ b → length (get_or (p ++ (h ∷ [])) i []) ≡ w
      go true t =
          let inside : i < length p = ltb-true i (length p) t in
          ap length (get_or-append p (h ∷ []) [] i inside) ∙ f i inside
      go false t =
          let last : length p ≡ i = omega (arith, ltb-false i (length p) t, length-append p (h ∷ [])) in
          ap length (get_or_at p h [] [] i last) ∙ e

  wide-path : (t : Shape) (m : ℕ) (ds : List (List ℕ)) → Wide w (path H t m ds)
  unfolding path
  wide-path leaf m ds = λ i k. absurd (omega arith)
  wide-path (node l r) m ds =
      go (way l m) (wide-path l m (take (size l) ds)) (wide-path r (m - size l) (drop (size l) ds))
    where
      go : Way l m → Wide w (path H l m (take (size l) ds)) → Wide w (path H r (m - size l) (drop (size l) ds))
          → Wide w (path H (node l r) m ds)
      go (left e i) p q =
          rw (e, path) (wide-more (path H l m (take (size l) ds)) _ p (root-length H w wide r (drop (size l) ds)))
      go (right e i) p q =
          rw (e, path) (wide-more (path H r (m - size l) (drop (size l) ds)) _ q (root-length H w wide l (take (size l) ds)))

-- a path whose first `count` hashes are there
module _ (w count : ℕ) (hashes : List (List ℕ)) (there : (i : ℕ) → i < count → length (get_or hashes i []) ≡ suc w) where
  enough : count ≤ length hashes
  enough = go (ltb (length hashes) count) refl
    where
      go : (b : Bool) → ltb (length hashes) count ≡ b → count ≤ length hashes
      go true t =
          let none : length (get_or hashes (length hashes) []) ≡ 0 = ap length (get_or-eq_default hashes [] (omega arith)) in
          absurd (omega (arith, there (length hashes) (ltb-true (length hashes) count t)))
      go false t = ltb-false (length hashes) count t

  wide-there : Wide (suc w) (take count hashes)
  wide-there i h =
      let inside : i < count = omega (arith, length-take-le count hashes enough) in
      ap length (get_or-take count hashes i [] inside) ∙ there i inside

-- lists are one as far as their rows of s bytes are
rows_same : (k s : ℕ) (a b : List ℕ) → ((i : ℕ) → i < k → share_at s a i ≡ share_at s b i) → take (k * s) a ≡ take (k * s) b
rows_same zero s a b f = rw zero-mul
rows_same (suc k) s a b f =
    rw (suc-mul k s, take-add (k * s) s a, take-add (k * s) s b)
    (ap₂ (λ (u v : List ℕ). u ++ v) (rows_same k s a b (λ i h. f i (omega arith))) (f k (omega arith)))

module _ (H : List ℕ → List ℕ) (wide : (s : List ℕ) → length (H s) ≡ 32)
    (session n : ℕ) (shares : List ℕ) (fine : shares_cause session n (length shares) ≡ 0) where
  abbrev even : Even session n (length shares)
  even = even-of session n (length shares) fine

  -- the shares are told by their leaf strings
  shares-same : (others : List ℕ) → length others ≡ length shares → leaf_strings session n others ≡ leaf_strings session n shares → others ≡ shares
  shares-same others e f =
      let s : ℕ = length shares / n in
      let whole : n * s ≡ length shares = even-whole session n (length shares) even in
      let other : length others / n ≡ s = ap (λ (k : ℕ). k / n) e in
      let rows : (i : ℕ) → i < n → share_at s others i ≡ share_at s shares i =
      (λ i h. ap (λ (k : ℕ). share_at k others i) (sym other)
      ∙ (leaf_string-injective session (sym (get_or-leaf_strings session n others i h) ∙ ap (λ (l : List (List ℕ)). get_or l i []) f
      ∙ get_or-leaf_strings session n shares i h)).1) in
      sym (take_all (n * s) others (omega arith)) ∙ rows_same n s others shares rows ∙ take_all (n * s) shares (omega arith)

  -- the root's length
  pub length-root : length (root_of H n (leaves_of H session n shares)) ≡ 32
  length-root =
      ap length (tree-root H session n shares fine even.low even.high)
      ∙ root-length H 32 wide (shape n) (leaf_strings session n shares)

  -- one root, one list of shares
  pub roots-differ : (others : List ℕ) → shares_cause session n (length others) ≡ 0 → length others ≡ length shares
      → root_of H n (leaves_of H session n others) ≡ root_of H n (leaves_of H session n shares)
      → (others ≡ shares) ⊎ Collision H (coding_strings H session n others) (coding_strings H session n shares)
  unfolding coding_strings
  roots-differ others g e r =
      go (same-roots H 32 wide (shape n) (leaf_strings session n others) (leaf_strings session n shares)
      (length-leaf_strings session n others ∙ sym (size-shape n even.low))
      (length-leaf_strings session n shares ∙ sym (size-shape n even.low))
      (sym (tree-root H session n others g even.low even.high) ∙ r ∙ tree-root H session n shares fine even.low even.high))
    where
      go : (leaf_strings session n others ≡ leaf_strings session n shares) ⊎ Collision H (coding_strings H session n others) (coding_strings H session n shares)
          → (others ≡ shares) ⊎ Collision H (coding_strings H session n others) (coding_strings H session n shares)
      go (inl f) = inl (shares-same others e f)
      go (inr k) = inr k

  -- the root depends on the hash only at the strings hashed
  pub root-hashed : (K : List ℕ → List ℕ) → Agree H K (coding_strings H session n shares)
      → root_of H n (leaves_of H session n shares) ≡ root K (shape n) (leaf_strings session n shares)
  unfolding coding_strings
  root-hashed K f =
      tree-root H session n shares fine even.low even.high ∙ root-depends H K (shape n) (leaf_strings session n shares) f

  module _ (j : ℕ) (one : 1 ≤ j) (last : j ≤ n) where
    -- the leaf string of share j
    own-leaf : get_or (leaf_strings session n shares) (j - 1) [] ≡ leaf_string session j (share_at (length shares / n) shares (j - 1))
    own-leaf =
        let e : j - 1 + 1 ≡ j = omega arith in
        get_or-leaf_strings session n shares (j - 1) (omega arith)
        ∙ ap (λ (k : ℕ). leaf_string session k (share_at (length shares / n) shares (j - 1))) e

    inside-tree : j - 1 < size (shape n)
    inside-tree = omega (arith, size-shape n even.low)

    -- share j has s bytes
    own-length : length (share_at (length shares / n) shares (j - 1)) ≡ length shares / n
    own-length =
        let s : ℕ = length shares / n in
        length-take-le s (drop ((j - 1) * s) shares)
        (omega (arith, row_inside n (j - 1) s (omega arith), even-whole session n (length shares) even, length-drop ((j - 1) * s) shares))

    -- the path made, without its blanks
    pub path-made : take (length (sides_of n j)) (path_of H n j (leaves_of H session n shares)) ≡ path H (shape n) (j - 1) (leaf_strings session n shares)
    path-made =
        ap (take (length (sides_of n j))) (tree-path H session n shares fine even.low even.high j one last)
        ∙ take_at (path H (shape n) (j - 1) (leaf_strings session n shares)) (replicate (max_path - length (sides_of n j)) blank)
        (length (sides_of n j)) (sym (length-path H (shape n) (j - 1) (leaf_strings session n shares)))

    -- it has a hash for each side, of 32 bytes
    pub path-counted : length (take (length (sides_of n j)) (path_of H n j (leaves_of H session n shares))) ≡ length (sides_of n j)
    path-counted = ap length path-made ∙ sym (length-path H (shape n) (j - 1) (leaf_strings session n shares))

    pub path-hashes-wide : Wide 32 (take (length (sides_of n j)) (path_of H n j (leaves_of H session n shares)))
    path-hashes-wide = subst (Wide 32) (sym path-made) (wide-path H 32 wide (shape n) (j - 1) (leaf_strings session n shares))

    pub path-wide : (i : ℕ) → i < length (sides_of n j) → length (get_or (path_of H n j (leaves_of H session n shares)) i []) ≡ 32
    path-wide i h =
        ap length (sym (get_or-take (length (sides_of n j)) (path_of H n j (leaves_of H session n shares)) i [] h)
        ∙ ap (λ (p : List (List ℕ)). get_or p i []) path-made)
        ∙ wide-path H 32 wide (shape n) (j - 1) (leaf_strings session n shares) i
        (omega (arith, length-path H (shape n) (j - 1) (leaf_strings session n shares)))

    -- the path made passes
    pub path-passes : passes H session n j (take (length shares / n) (drop ((j - 1) * (length shares / n)) shares))
        (path_of H n j (leaves_of H session n shares)) (length (sides_of n j)) (root_of H n (leaves_of H session n shares)) ≡ true
    path-passes =
        let share : List ℕ = share_at (length shares / n) shares (j - 1) in
        let top : List ℕ = root_of H n (leaves_of H session n shares) in
        let leads : folded H (sides_of n j) (take (length (sides_of n j)) (path_of H n j (leaves_of H session n shares)))
        (H (leaf_string session j share)) ≡ top =
        ap₂ (λ (p : List (List ℕ)) (x : List ℕ). folded H (sides_of n j) p (H x)) path-made (sym own-leaf)
        ∙ complete H (shape n) (j - 1) (leaf_strings session n shares) inside-tree
        ∙ sym (tree-root H session n shares fine even.low even.high) in
        passes_same H session n j share (path_of H n j (leaves_of H session n shares)) (length (sides_of n j)) top refl
        ∙ ap (λ (x : List ℕ). same x top) leads
        ∙ same_refl top

    -- so the check says yes
    pub path-checks : check_of H session n j (take (length shares / n) (drop ((j - 1) * (length shares / n)) shares))
        (path_of H n j (leaves_of H session n shares)) (length (sides_of n j)) (root_of H n (leaves_of H session n shares)) ≡ checked Yes
    path-checks =
        let short : front_length session + length (share_at (length shares / n) shares (j - 1)) ≤ max_hashed = omega (arith, own-length, even.short) in
        check-judged H session n j (share_at (length shares / n) shares (j - 1)) (path_of H n j (leaves_of H session n shares)) (length (sides_of n j))
        (root_of H n (leaves_of H session n shares)) even.low even.high one last short length-root
        ∙ ap answer_of path-passes

    -- a path that passes is that of the tree's own share
    pub passes-sound : (share : List ℕ) (hashes : List (List ℕ)) (count : ℕ)
        → ((i : ℕ) → i < count → length (get_or hashes i []) ≡ 32)
        → passes H session n j share hashes count (root_of H n (leaves_of H session n shares)) ≡ true
        → (share ≡ take (length shares / n) (drop ((j - 1) * (length shares / n)) shares))
        ⊎ Collision H (strings_of H session n j share hashes count) (coding_strings H session n shares)
    unfolding coding_strings strings_of
    passes-sound share hashes count there p =
        let t = passes-true H session n j share hashes count (root_of H n (leaves_of H session n shares)) p in
        rw (eq-eqb count (length (sides_of n j)) t.0)
        (go (sound H 32 wide (shape n) (j - 1) (leaf_strings session n shares) (leaf_string session j share) (take count hashes) inside-tree
        (length-take-le count hashes (enough 31 count hashes there) ∙ t.0) (wide-there 31 count hashes there)
        (t.1 ∙ tree-root H session n shares fine even.low even.high)))
      where
        go : (leaf_string session j share ≡ get_or (leaf_strings session n shares) (j - 1) [])
            ⊎ Collision H (check_strings H (sides (shape n) (j - 1)) (take count hashes) (leaf_string session j share))
            (tree_strings H (shape n) (leaf_strings session n shares))
            → (share ≡ share_at (length shares / n) shares (j - 1))
            ⊎ Collision H (check_strings H (sides_of n j) (take count hashes) (leaf_string session j share))
            (tree_strings H (shape n) (leaf_strings session n shares))
        go (inl e) = inl (leaf_string-injective session (e ∙ own-leaf)).1
        go (inr k) = inr k

    -- the path depends on the hash only at the strings hashed
    pub path-hashed : (K : List ℕ → List ℕ) → Agree H K (coding_strings H session n shares)
        → path_of H n j (leaves_of H session n shares)
        ≡ path K (shape n) (j - 1) (leaf_strings session n shares) ++ replicate (max_path - length (sides_of n j)) blank
    unfolding coding_strings
    path-hashed K f =
        tree-path H session n shares fine even.low even.high j one last
        ∙ ap (λ (p : List (List ℕ)). p ++ replicate (max_path - length (sides_of n j)) blank)
        (path-depends H K (shape n) (j - 1) (leaf_strings session n shares) f)

-- the same shares under two session numbers: one root for both would be two different strings with one hash, since already the first leaf strings differ
pub sessions-differ : (H : List ℕ → List ℕ) → ((s : List ℕ) → length (H s) ≡ 32) → (s r n : ℕ) (shares : List ℕ)
    → shares_cause s n (length shares) ≡ 0 → shares_cause r n (length shares) ≡ 0 → s < 2 ^ 32 → r < 2 ^ 32 → s ≢ r
    → root_of H n (leaves_of H s n shares) ≡ root_of H n (leaves_of H r n shares)
    → Collision H (coding_strings H s n shares) (coding_strings H r n shares)
unfolding coding_strings
sessions-differ H wide s r n shares fine fine-too small little apart e =
    let even : Even s n (length shares) = even-of s n (length shares) fine in
    go even.low (same-roots H 32 wide (shape n) (leaf_strings s n shares) (leaf_strings r n shares)
    (length-leaf_strings s n shares ∙ sym (size-shape n even.low))
    (length-leaf_strings r n shares ∙ sym (size-shape n even.low))
    (sym (tree-root H s n shares fine even.low even.high) ∙ e ∙ tree-root H r n shares fine-too even.low even.high))
  where
    go : 1 ≤ n → (leaf_strings s n shares ≡ leaf_strings r n shares) ⊎ Collision H (coding_strings H s n shares) (coding_strings H r n shares)
        → Collision H (coding_strings H s n shares) (coding_strings H r n shares)
    go low (inl f) =
        absurd (apart (leaf_string-session s r 1 (share_at (length shares / n) shares 0) small little
        (sym (get_or-leaf_strings s n shares 0 low) ∙ ap (λ (l : List (List ℕ)). get_or l 0 []) f ∙ get_or-leaf_strings r n shares 0 low)))
    go low (inr k) = k

-- a check depends on the hash only at the strings hashed
pub check-hashed : (H : List ℕ → List ℕ) (session n j : ℕ) (share : List ℕ) (hashes : List (List ℕ)) (count : ℕ) (K : List ℕ → List ℕ)
    → count ≡ length (sides_of n j) → Agree H K (strings_of H session n j share hashes count)
    → folded H (sides_of n j) (take count hashes) (H (leaf_string session j share))
    ≡ folded K (sides_of n j) (take count hashes) (K (leaf_string session j share))
unfolding strings_of
check-hashed H session n j share hashes count K e f =
    check-depends H K (sides_of n j) (take count hashes) (leaf_string session j share) (rw (eq-eqb count (length (sides_of n j)) e) at f)
