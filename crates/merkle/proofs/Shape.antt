-- The number split n is the largest power of two smaller than n; the tree over n leaves has n leaves, divided at split n; and no
-- audit path is longer than the height of n. By induction on the fuel of the definitions, and on an exponent e with n at most 2 ^ e.
-- Assumes nothing.
use mathlib.Core.Path.{◌≡◌, refl, sym, ap₂, ◌∙◌}
use mathlib.Core.Bool.{Bool, true, false, cond}
use Prim.Native.Nat.{ℕ, zero, suc, ◌+◌, ◌-◌, ◌*◌, ◌^◌, ◌≤◌, ◌<◌}
use native.Mathlib.Nat.{two-pow-succ}
use native.Mathlib.Omega.{arith}
use borrow.Author.Tests.{ltb-true, ltb-false, leb-true, leb-false, lt-ltb, le-ltb}
use lib.Dec.{ltb, leb}
use lib.ListN.{length, length-append}
use lib.Pow.{pow_mono, pow_pos}
use Rattle.merkle.specs.Tree.{split_from, split, Shape, leaf, node, shape_of, shape, size, sides}
use Rattle.merkle.specs.Height.{height_from, height}
use Rattle.merkle.proofs.Way.{Way, left, right, way, sides-left, sides-right}

-- powers of two are ordered as their exponents
pub pow_below : (i j : ℕ) → 2 ^ i < 2 ^ j → i < j
pow_below i j h = go (ltb i j) refl
  where
    go : (b : Bool) → ltb i j ≡ b → i < j
    go true e = ltb-true i j e
    go false e = absurd (omega (arith, pow_mono (ltb-false i j e)))

-- k is the largest power of two smaller than n
pub record LargestPower (n k : ℕ) : Type 0 where
  pub exponent : ℕ
  pub power : k ≡ 2 ^ exponent
  pub positive : 1 ≤ k
  pub below : k < n
  pub double : n ≤ 2 * k

split_from-largest : (fuel k n e : ℕ) → k ≡ 2 ^ e → 1 ≤ k → k < n → n ≤ k + fuel → LargestPower n (split_from fuel k n)
unfolding split_from
split_from-largest zero k n e p h i j = absurd (omega arith)
split_from-largest (suc fuel) k n e p h i j = go (ltb (k * 2) n) refl (split_from-largest fuel (k * 2) n (suc e))
  where
    power' : k * 2 ≡ 2 ^ suc e
    power' = omega (arith, two-pow-succ e)

    go : (b : Bool) → ltb (k * 2) n ≡ b
        → (k * 2 ≡ 2 ^ suc e → 1 ≤ k * 2 → k * 2 < n → n ≤ k * 2 + fuel → LargestPower n (split_from fuel (k * 2) n))
        → LargestPower n (cond b (split_from fuel (k * 2) n) k)
    go true t f = f power' (omega arith) (ltb-true (k * 2) n t) (omega arith)
    go false t f =
        let u : n ≤ k * 2 = ltb-false (k * 2) n t in
        record { exponent = e; power = p; positive = h; below = i; double = omega arith }

pub split-largest : (n : ℕ) → 2 ≤ n → LargestPower n (split n)
unfolding split
split-largest n h = split_from-largest n 1 n 0 refl (omega arith) (omega arith) (omega arith)

-- a power of two smaller than n is at most split n
pub split-most : (n e : ℕ) → 2 ≤ n → 2 ^ e < n → 2 ^ e ≤ split n
split-most n e h i =
    let s = split-largest n h in
    let x = s.exponent in
    let j : e < suc x = pow_below e (suc x) (omega (arith, two-pow-succ x, s.power, s.double)) in
    let k : 2 ^ e ≤ 2 ^ x = pow_mono {i = e} {j = x} (omega arith) in
    omega (arith, s.power)

-- a tree over less than two leaves is a leaf, with any fuel
shape_of-leaf : (fuel n : ℕ) → n < 2 → shape_of fuel n ≡ leaf
unfolding shape_of
shape_of-leaf zero n h = refl
shape_of-leaf (suc fuel) n h = rw (lt-ltb n 2 h)

shape_of-node : (fuel n : ℕ) → 2 ≤ n → shape_of (suc fuel) n ≡ node (shape_of fuel (split n)) (shape_of fuel (n - split n))
unfolding shape_of
shape_of-node fuel n h = rw (le-ltb n 2 h)

-- any fuel of at least n gives the same shape
shape_of-same : (f g n : ℕ) → n ≤ f → n ≤ g → shape_of f n ≡ shape_of g n
shape_of-same zero g n h i = shape_of-leaf zero n (omega arith) ∙ sym (shape_of-leaf g n (omega arith))
shape_of-same (suc f) zero n h i = shape_of-leaf (suc f) n (omega arith) ∙ sym (shape_of-leaf zero n (omega arith))
shape_of-same (suc f) (suc g) n h i =
    go (ltb n 2) refl (shape_of-same f g (split n)) (shape_of-same f g (n - split n))
  where
    go : (b : Bool) → ltb n 2 ≡ b → (split n ≤ f → split n ≤ g → shape_of f (split n) ≡ shape_of g (split n))
        → (n - split n ≤ f → n - split n ≤ g → shape_of f (n - split n) ≡ shape_of g (n - split n))
        → shape_of (suc f) n ≡ shape_of (suc g) n
    go true e p q = shape_of-leaf (suc f) n (ltb-true n 2 e) ∙ sym (shape_of-leaf (suc g) n (ltb-true n 2 e))
    go false e p q =
        let k : 2 ≤ n = ltb-false n 2 e in
        let s = split-largest n k in
        let x : shape_of f (split n) ≡ shape_of g (split n) = p (omega arith) (omega arith) in
        let y : shape_of f (n - split n) ≡ shape_of g (n - split n) = q (omega arith) (omega arith) in
        shape_of-node f n k ∙ ap₂ node x y ∙ sym (shape_of-node g n k)

pub shape-fuel : (fuel n : ℕ) → n ≤ fuel → shape_of fuel n ≡ shape n
unfolding shape
shape-fuel fuel n h = shape_of-same fuel n n h (omega arith)

pub shape-leaf : (n : ℕ) → n < 2 → shape n ≡ leaf
unfolding shape
shape-leaf n h = shape_of-leaf n n h

pub shape-node : (n : ℕ) → 2 ≤ n → shape n ≡ node (shape (split n)) (shape (n - split n))
shape-node n h =
    let s = split-largest n h in
    sym (shape-fuel (suc n) n (omega arith)) ∙ shape_of-node n n h
    ∙ ap₂ node (shape-fuel n (split n) (omega arith)) (shape-fuel n (n - split n) (omega arith))

size-shape_of : (fuel n : ℕ) → 1 ≤ n → n ≤ fuel → size (shape_of fuel n) ≡ n
unfolding size
size-shape_of zero n h i = absurd (omega arith)
size-shape_of (suc fuel) n h i = go (ltb n 2) refl (size-shape_of fuel (split n)) (size-shape_of fuel (n - split n))
  where
    go : (b : Bool) → ltb n 2 ≡ b → (1 ≤ split n → split n ≤ fuel → size (shape_of fuel (split n)) ≡ split n)
        → (1 ≤ n - split n → n - split n ≤ fuel → size (shape_of fuel (n - split n)) ≡ n - split n)
        → size (shape_of (suc fuel) n) ≡ n
    go true e p q = rw (shape_of-leaf (suc fuel) n (ltb-true n 2 e)) (omega (arith, ltb-true n 2 e))
    go false e p q =
        let k : 2 ≤ n = ltb-false n 2 e in
        let s = split-largest n k in
        let x : size (shape_of fuel (split n)) ≡ split n = p (omega arith) (omega arith) in
        let y : size (shape_of fuel (n - split n)) ≡ n - split n = q (omega arith) (omega arith) in
        rw (shape_of-node fuel n k) (omega arith)

pub size-shape : (n : ℕ) → 1 ≤ n → size (shape n) ≡ n
unfolding shape
size-shape n h = size-shape_of n n h (omega arith)

-- where n is at most 2 ^ suc e, the larger part of n is at most 2 ^ e
split-fits : (e n : ℕ) → 2 ≤ n → n ≤ 2 ^ suc e → split n ≤ 2 ^ e
split-fits e n h i =
    let s = split-largest n h in
    let x = s.exponent in
    let j : x < suc e = pow_below x (suc e) (omega (arith, s.power, s.below)) in
    let k : 2 ^ x ≤ 2 ^ e = pow_mono {i = x} {j = e} (omega arith) in
    omega (arith, s.power)

-- an audit path in a tree over at most 2 ^ e leaves has at most e hashes
pub sides-bound : (e n m : ℕ) → n ≤ 2 ^ e → m < n → length (sides (shape n) m) ≤ e
unfolding sides
sides-bound zero n m h i = rw (shape-leaf n (omega arith)) (omega arith)
sides-bound (suc e) n m h i = go (ltb n 2) refl (sides-bound e (split n) m) (sides-bound e (n - split n) (m - split n))
  where
    go : (b : Bool) → ltb n 2 ≡ b → (split n ≤ 2 ^ e → m < split n → length (sides (shape (split n)) m) ≤ e)
        → (n - split n ≤ 2 ^ e → m - split n < n - split n → length (sides (shape (n - split n)) (m - split n)) ≤ e)
        → length (sides (shape n) m) ≤ suc e
    go true t p q = rw (shape-leaf n (ltb-true n 2 t)) (omega arith)
    go false t p q =
        let k : 2 ≤ n = ltb-false n 2 t in
        let s = split-largest n k in
        let f : split n ≤ 2 ^ e = split-fits e n k h in
        let l = shape (split n) in
        let r = shape (n - split n) in
        let z : size l ≡ split n = size-shape (split n) (omega arith) in
        rw (shape-node n k) (at-node s f l r z refl refl (way l m))
      where
        at-node : LargestPower n (split n) → split n ≤ 2 ^ e → (l r : Shape) → size l ≡ split n → l ≡ shape (split n)
            → r ≡ shape (n - split n)
            → Way l m → length (sides (node l r) m) ≤ suc e
        at-node s f l r z a b (left t i') =
            rw (sides-left l r m t, length-append, a) (omega (arith, p f (omega arith)))
        at-node s f l r z a b (right t i') =
            rw (sides-right l r m t, length-append, z, b) (omega (arith, q (omega arith) (omega arith)))

height_from-enough : (fuel e n : ℕ) → n ≤ fuel + 2 ^ e → n ≤ 2 ^ height_from fuel e n
unfolding height_from
height_from-enough zero e n h = omega arith
height_from-enough (suc fuel) e n h =
    go (leb n (2 ^ e)) refl (height_from-enough fuel (suc e) n (omega (arith, two-pow-succ e, pow_pos e)))
  where
    go : (b : Bool) → leb n (2 ^ e) ≡ b → n ≤ 2 ^ height_from fuel (suc e) n → n ≤ 2 ^ cond b e (height_from fuel (suc e) n)
    go true t f = leb-true n (2 ^ e) t
    go false t f = f

pub height-enough : (n : ℕ) → n ≤ 2 ^ height n
unfolding height
height-enough n = height_from-enough n 0 n (omega arith)

height_from-least : (fuel e n x : ℕ) → e ≤ x → n ≤ 2 ^ x → height_from fuel e n ≤ x
unfolding height_from
height_from-least zero e n x h i = h
height_from-least (suc fuel) e n x h i = go (leb n (2 ^ e)) refl (height_from-least fuel (suc e) n x)
  where
    go : (b : Bool) → leb n (2 ^ e) ≡ b → (suc e ≤ x → n ≤ 2 ^ x → height_from fuel (suc e) n ≤ x)
        → cond b e (height_from fuel (suc e) n) ≤ x
    go true t f = h
    go false t f = f (pow_below e x (omega (arith, leb-false n (2 ^ e) t))) i

pub height-least : (n e : ℕ) → n ≤ 2 ^ e → height n ≤ e
unfolding height
height-least n e h = height_from-least n 0 n e (omega arith) h

-- no audit path is longer than the height
pub sides-height : (n m : ℕ) → m < n → length (sides (shape n) m) ≤ height n
sides-height n m h = sides-bound (height n) n m (height-enough n) h
