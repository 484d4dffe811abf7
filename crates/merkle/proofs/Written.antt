-- The leaf string as its front with the share behind it, the node string as it is put together in a buffer, and the hash of a string that is not
-- too long. By the laws of writing into a buffer. Assumes nothing.
use mathlib.Core.Path.{◌≡◌, ap, ◌∙◌}
use mathlib.Core.List.{List, [], ◌∷◌, ◌++◌, append-nil, append_assoc}
use Prim.Native.Nat.{ℕ, ◌+◌, ◌≤◌}
use native.Mathlib.Decide.{ℕ_discrete}
use native.Mathlib.Omega.{arith}
use borrow.Author.Tests.{eq-eqb, ne_eqb}
use lib.ListN.{length, take, drop, replicate, length-append, drop_of_length-le}
use lib.Seq.{take_at, drop_at}
use Rattle.limits.specs.Limits.{max_hashed}
use Rattle.buffer.specs.Numbers.{four_bytes}
use Rattle.std.specs.Prelude.{Result, Ok, IsOk}
use Rattle.cause.specs.declared.Cause.{Cause}
use Rattle.sha256.specs.Sha256.{sha256, hashed, hash_of}
use Rattle.sha256.proofs.Laws.{hash-ok, hash-digest}
use Rattle.merkle.specs.Tree.{node_string}
use Rattle.merkle.specs.Shares.{session_bytes, leaf_string, front_length}

pub length-leaf_string : (session j : ℕ) (s : List ℕ) → length (leaf_string session j s) ≡ front_length session + length s
unfolding leaf_string front_length
length-leaf_string session j s = omega (arith, length-append (session_bytes session) (j ∷ s))

-- how much stands before a share, by the session's number
pub front-none : (session : ℕ) → session ≡ 0 → front_length session ≡ 2
unfolding front_length session_bytes
front-none session e = rw (eq-eqb session 0 e)

pub front-some : (session : ℕ) → (session ≡ 0 → ⊥) → front_length session ≡ 6
unfolding front_length session_bytes four_bytes
front-some session e = rw (ne_eqb session 0 e)

pub front-short : (session : ℕ) → front_length session ≤ 6
front-short session = elim (ℕ_discrete session 0) [
  | yes e ↦ omega (arith, front-none session e)
  | no e ↦ omega (arith, front-some session e)
]

-- the leaf string, by the same
pub leaf-plain : (session j : ℕ) (s : List ℕ) → session ≡ 0 → leaf_string session j s ≡ 0x00 ∷ j ∷ s
unfolding leaf_string session_bytes
leaf-plain session j s e = rw (eq-eqb session 0 e)

pub leaf-numbered : (session j : ℕ) (s : List ℕ) → (session ≡ 0 → ⊥) → leaf_string session j s ≡ 0x00 ∷ (four_bytes session ++ (j ∷ s))
unfolding leaf_string session_bytes
leaf-numbered session j s e = rw (ne_eqb session 0 e)

pub leaf-behind : (session j : ℕ) (s : List ℕ) → leaf_string session j [] ++ s ≡ leaf_string session j s
unfolding leaf_string
leaf-behind session j s = ap (λ (l : List ℕ). 0x00 ∷ l) (append_assoc (session_bytes session) (j ∷ []) s)

-- the node string as two writes put it together, over zeros
pub node-written : (x y a b : List ℕ) → x ≡ a → y ≡ b → length a ≡ 32 → length b ≡ 32
    → 1 ∷ (take 32 (x ++ replicate 32 0) ++ (y ++ drop 32 (drop 32 (x ++ replicate 32 0)))) ≡ node_string a b
unfolding node_string
node-written x y a b e f ha hb =
    let z : List ℕ = replicate 32 0 in
    let past : length z ≤ 32 = omega arith in
    rw (e, f, take_at a z 32 ha, drop_at a z 32 ha, drop_of_length-le z past, append-nil)

pub length-node_string : (a b : List ℕ) → length a ≡ 32 → length b ≡ 32 → length (node_string a b) ≡ 65
unfolding node_string
length-node_string a b ha hb = omega (arith, length-append a b)

-- what hashing a leaf string gives, by its front of k bytes with the share behind it; and what hashing a node string gives
module _ (r : Result (List ℕ) Cause) where
  module _ (session j k : ℕ) (f s : List ℕ) (size : k ≡ front_length session) (front : take (front_length session) f ≡ leaf_string session j [])
      (given : hashed r ≡ hash_of (take k f ++ s)) (short : front_length session + length s ≤ max_hashed) where
    leaf-given : hashed r ≡ hash_of (leaf_string session j s)
    leaf-given = given ∙ ap hash_of (ap (λ (i : ℕ). take i f ++ s) size ∙ ap (λ (l : List ℕ). l ++ s) front ∙ leaf-behind session j s)

    leaf-short : length (leaf_string session j s) ≤ max_hashed
    leaf-short = omega (arith, length-leaf_string session j s)

    pub leaf-ok : IsOk r
    leaf-ok = hash-ok r (leaf_string session j s) leaf-given leaf-short

    pub leaf-digest : (d : List ℕ) → r ≡ Ok d → d ≡ sha256 (leaf_string session j s)
    leaf-digest d e = hash-digest r (leaf_string session j s) d leaf-given leaf-short e
