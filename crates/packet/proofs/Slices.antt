-- Parts of lists: a part of a part, and the hashes read from one. By the laws of `take` and `drop`. Assumes nothing.
use mathlib.Core.Path.{◌≡◌, refl, sym, ap, ap₂, ◌∙◌}
use mathlib.Core.List.{List, [], ◌∷◌}
use Prim.Native.Nat.{ℕ, zero, suc, ◌+◌, ◌-◌, ◌*◌, ◌≤◌}
use native.Mathlib.Omega.{arith}
use lib.ListN.{take, drop}
use lib.Seq.{take-take, drop-drop, take-nil, drop-nil}
use Rattle.packet.specs.Format.{hashes}

-- a part of a list's first bytes
pub drop-take : (a m : ℕ) (s : List ℕ) → drop a (take (a + m) s) ≡ take m (drop a s)
drop-take a m [] = ap (drop a) (take-nil (a + m)) ∙ drop-nil a ∙ sym (ap (take m) (drop-nil a) ∙ take-nil m)
drop-take zero m (x ∷ s) = let e : 0 + m ≡ m = omega arith in ap (λ (k : ℕ). take k (x ∷ s)) e
drop-take (suc a) m (x ∷ s) =
    let e : suc a + m ≡ suc (a + m) = omega arith in
    ap (λ (k : ℕ). drop (suc a) (take k (x ∷ s))) e ∙ drop-take a m s

-- the same, k bytes from a place on
drop-part : (a k at : ℕ) (s : List ℕ) → a ≤ k → drop a (take k (drop at s)) ≡ take (k - a) (drop (at + a) s)
drop-part a k at s h =
    let e : k ≡ a + (k - a) = omega arith in
    ap (λ (i : ℕ). drop a (take i (drop at s))) e ∙ drop-take a (k - a) (drop at s) ∙ ap (take (k - a)) (drop-drop a at s)

pub part-part : (a len k at : ℕ) (s : List ℕ) → a + len ≤ k → take len (drop a (take k (drop at s))) ≡ take len (drop (at + a) s)
part-part a len k at s h =
    ap (take len) (drop-part a k at s (omega arith)) ∙ take-take len (k - a) (drop (at + a) s) (omega arith)

pub hashes-take : (c k : ℕ) (s : List ℕ) → 32 * c ≤ k → hashes c (take k s) ≡ hashes c s
unfolding hashes
hashes-take zero k s h = refl
hashes-take (suc c) k s h =
    let e : k ≡ 32 + (k - 32) = omega arith in
    ap₂ {C = List (List ℕ)} (λ x l. x ∷ l) (take-take 32 k s (omega arith))
    (ap (λ (i : ℕ). hashes c (drop 32 (take i s))) e ∙ ap (hashes c) (drop-take 32 (k - 32) s)
    ∙ hashes-take c (k - 32) (drop 32 s) (omega arith))

pub hashes-part : (a c k at : ℕ) (s : List ℕ) → a + 32 * c ≤ k → hashes c (drop a (take k (drop at s)))
    ≡ hashes c (drop (at + a) s)
hashes-part a c k at s h =
    ap (hashes c) (drop-part a k at s (omega arith)) ∙ hashes-take c (k - a) (drop (at + a) s) (omega arith)
