-- The root and the audit path made from the leaf hashes of shares are those of the tree over the leaf strings of the shares. By the
-- laws of trees made from leaf hashes: entry k of the hashes is the hash of leaf string k. Assumes nothing.
use mathlib.Core.Path.{◌≡◌, refl, sym, ap, ◌∙◌}
use mathlib.Core.Bool.{Bool, true, false}
use mathlib.Core.List.{List, [], ◌∷◌, ◌++◌, map}
use Prim.Native.Nat.{ℕ, zero, suc, ◌+◌, ◌-◌, ◌*◌, ◌/◌, ◌^◌, ◌≤◌, ◌<◌}
use native.Mathlib.Nat.{zero-add}
use native.Mathlib.Omega.{arith}
use borrow.Author.Tests.{eqb-true}
use lib.Dec.{eqb}
use lib.ListN.{length, get_or, take, drop, replicate, length-map, length-append, get_or-append}
use lib.Seq.{drop-append_seam}
use Rattle.limits.specs.Limits.{max_parties, max_path}
use Rattle.buffer.specs.Numbers.{four_bytes, number}
use Rattle.buffer.proofs.Numbers.{number-back}
use Rattle.buffer.proofs.Tabulate.{length-tabulate, get_or-tabulate}
use Rattle.merkle.specs.Tree.{shape, size, root, path}
use Rattle.merkle.specs.Shares.{session_bytes, leaf_string, leaf_strings, blank, shares_cause, leaves_of, root_of, sides_of, path_of}
use Rattle.merkle.proofs.Shape.{size-shape}
use Rattle.merkle.proofs.Judged.{leaves-fine}
use Rattle.merkle.proofs.Hashes.{Hashed, top_hash-root, path_hashes-path}
use Rattle.merkle.proofs.Outcomes.{path-hashes}

-- under one session number a leaf string tells the share's number and the share
pub leaf_string-injective : (session : ℕ) {j k : ℕ} {a b : List ℕ} → leaf_string session j a ≡ leaf_string session k b → (j ≡ k) × (a ≡ b)
unfolding leaf_string
leaf_string-injective session {j} {k} {a} {b} e =
    let v : List ℕ = session_bytes session in
    let f : j ∷ a ≡ k ∷ b = sym (drop-append_seam v (j ∷ a)) ∙ ap (drop (suc (length v))) e ∙ drop-append_seam v (k ∷ b) in
    (ap (λ (s : List ℕ). get_or s 0 0) f, ap (drop 1) f)

-- a share has other leaf strings under other session numbers: one is longer than the other, or the four bytes differ
pub leaf_string-session : (s r j : ℕ) (share : List ℕ) → s < 2 ^ 32 → r < 2 ^ 32 → leaf_string s j share ≡ leaf_string r j share → s ≡ r
unfolding leaf_string session_bytes four_bytes
leaf_string-session s r j share small little e = go (eqb s 0) refl (eqb r 0) refl
  where
    long : length (session_bytes s) ≡ length (session_bytes r)
    long = omega (arith, ap length e, length-append (session_bytes s) (j ∷ share), length-append (session_bytes r) (j ∷ share))

    go : (b : Bool) → eqb s 0 ≡ b → (c : Bool) → eqb r 0 ≡ c → s ≡ r
    go true p true q = eqb-true s 0 p ∙ sym (eqb-true r 0 q)
    go true p false q = absurd (omega (arith, rw (p, q) at long))
    go false p true q = absurd (omega (arith, rw (p, q) at long))
    go false p false q =
        sym (number-back s (j ∷ share) small) ∙ ap (λ (l : List ℕ). number (drop 1 l)) (rw (p, q) at e) ∙ number-back r (j ∷ share) little

pub length-leaf_strings : (session n : ℕ) (shares : List ℕ) → length (leaf_strings session n shares) ≡ n
unfolding leaf_strings
length-leaf_strings session n shares = length-tabulate n _

-- leaf string k of n
pub get_or-leaf_strings : (session n : ℕ) (shares : List ℕ) (k : ℕ) → k < n
    → get_or (leaf_strings session n shares) k []
    ≡ leaf_string session (k + 1) (take (length shares / n) (drop (k * (length shares / n)) shares))
unfolding leaf_strings
get_or-leaf_strings session n shares k h =
    get_or-tabulate n (λ i. leaf_string session (i + 1) (take (length shares / n) (drop (i * (length shares / n)) shares))) k [] h

get_or-mapped : (f : List ℕ → List ℕ) (l : List (List ℕ)) (k : ℕ) → k < length l → get_or (map f l) k [] ≡ f (get_or l k [])
get_or-mapped f [] k h = absurd (omega arith)
get_or-mapped f (x ∷ l) zero h = refl
get_or-mapped f (x ∷ l) (suc k) h = get_or-mapped f l k (omega arith)

module _ (H : List ℕ → List ℕ) (session n : ℕ) (shares : List ℕ) (fine : shares_cause session n (length shares) ≡ 0) where
  -- entry k of the leaf hashes is the hash of leaf string k
  pub leaves-hashed : (k : ℕ) → k < n → get_or (leaves_of H session n shares) k [] ≡ H (get_or (leaf_strings session n shares) k [])
  leaves-hashed k h =
      let few : k < length (leaf_strings session n shares) = omega (arith, length-leaf_strings session n shares) in
      let inside : k < length (map H (leaf_strings session n shares)) = rw (length-map (leaf_strings session n shares) H) few in
      ap (λ (l : List (List ℕ)). get_or l k []) (leaves-fine H session n shares fine)
      ∙ get_or-append (map H (leaf_strings session n shares)) (replicate (max_parties - n) blank) [] k inside
      ∙ get_or-mapped H (leaf_strings session n shares) k few

  module _ (some : 1 ≤ n) (few : n ≤ max_parties) where
    hashed : Hashed H (size (shape n)) 0 (leaves_of H session n shares) (leaf_strings session n shares)
    hashed k h =
        let i : k < n = omega (arith, size-shape n some) in
        rw zero-add (leaves-hashed k i)

    -- the root
    pub tree-root : root_of H n (leaves_of H session n shares) ≡ root H (shape n) (leaf_strings session n shares)
    unfolding root_of
    tree-root = top_hash-root H (shape n) 0 (leaves_of H session n shares) (leaf_strings session n shares) hashed

    -- the audit path of share j, and blanks
    pub tree-path : (j : ℕ) → 1 ≤ j → j ≤ n → path_of H n j (leaves_of H session n shares)
        ≡ path H (shape n) (j - 1) (leaf_strings session n shares) ++ replicate (max_path - length (sides_of n j)) blank
    tree-path j one last =
        path-hashes H n j (leaves_of H session n shares) some few one last (length (sides_of n j)) refl
        ∙ ap (λ (p : List (List ℕ)). p ++ replicate (max_path - length (sides_of n j)) blank)
        (path_hashes-path H (shape n) (j - 1) 0 (leaves_of H session n shares) (leaf_strings session n shares) hashed)
