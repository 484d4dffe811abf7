-- Laws of the arrays: the frame array holds the frame, and where a place in the frame lies in its blocks. Assumes nothing.
use mathlib.Core.Path.{◌≡◌, refl, sym, ap, ap₂, subst, ◌∙◌}
use mathlib.Core.List.{List, [], ◌∷◌, ◌++◌}
use Prim.Native.Nat.{ℕ, zero, suc, ◌+◌, ◌-◌, ◌*◌, ◌/◌, ◌%◌, ◌<◌, ◌≤◌}
use native.Mathlib.Nat.{mod-lt, mul-zero, mul-le-mul_right, div-lt_iff_lt-mul, add-zero, zero-add, zero-mul, suc-mul}
use native.Mathlib.Numerals.{add-one}
use native.Mathlib.Omega.{arith}
use lib.Arith.{digits_lt}
use lib.Bits.{bit_xor}
use lib.ListN.{length, get_or, take, drop, replicate, length-append, get_or-append}
use lib.Seq.{ext_get_or, get_or-drop, get_or-take, get_or-append-add, length-take-le, drop-drop}
use borrow.Rule.Slice.PartMut.{put_mid}
use Rattle.buffer.specs.Splice.{spliced, tabulate}
use Rattle.buffer.proofs.Splice.{spliced-more}
use Rattle.buffer.proofs.Tabulate.{length-tabulate, get_or-tabulate, tabulate-cong}
use Rattle.limits.specs.Limits.{max_parties, max_entry}
use Rattle.gf256.specs.Field.{product}
use Rattle.polynomial.specs.Polynomial.{value}
use Rattle.polynomial.proofs.Value.{value-cong}
use Rattle.buffer.specs.Bounds.{Bytes}
use Rattle.erasure.specs.Bytes.{bytes}
use Rattle.erasure.specs.Coding.{share_length, frame, block, share_byte, share_of, share, shares}
use Rattle.erasure.specs.Arrays.{shares_of}
use Rattle.erasure.proofs.Field.{byte-horner}
use Rattle.erasure.proofs.Frame.{get_or-zeros, zeros-past, get_or-block, share_byte-at}

-- byte i of b blocks of s bytes lies in a block, and within it
filled : (b s i : ℕ) → i < b * s → 0 < s
filled b zero i h = absurd (omega (arith, mul-zero b))
filled b (suc s) i h = omega arith

pub block-lt : (b s i : ℕ) → i < b * s → i / s < b
block-lt b s i h = (div-lt_iff_lt-mul {k = s} {x = i} {y = b} (filled b s i h)).1 h

pub byte-lt : (b s i : ℕ) → i < b * s → i % s < s
byte-lt b s i h = mod-lt i (filled b s i h)

pub all-zero : (n j : ℕ) → ◌≡◌ {A = ℕ} (get_or (replicate n 0) j 0) 0
all-zero = get_or-zeros

-- the first n elements of a list, where each is known
pub take-table : (l : List ℕ) (n : ℕ) (f : ℕ → ℕ) → n ≤ length l → ((i : ℕ) → i < n → get_or l i 0 ≡ f i) → take n l ≡ tabulate n f
take-table l n f h e =
    let long : length (take n l) ≡ n = length-take-le n l h in
    ext_get_or 0 (take n l) (tabulate n f) (long ∙ sym (length-tabulate n f))
    (λ i k. let b : i < n = subst (λ (m : ℕ). i < m) long k in get_or-take n l i 0 b ∙ e i b ∙ sym (get_or-tabulate n f i 0 b))

-- the bytes of b blocks are few enough to be counted
pub blocks-small : (b s : ℕ) → b ≤ max_parties → s ≤ max_entry → b * s ≤ max_parties * max_entry
blocks-small b s hb hs = omega (arith, mul-le-mul_right s hb)

pub inside : (b s k c : ℕ) → k < b → c < s → k * s + c < b * s
inside b s k c h g = digits_lt h g

-- Horner's rule: one block more, below those that the total counts
module _ (f : List ℕ) (s c j : ℕ) (small : Bytes f) (hj : j < 256) (hc : c < s) where
  pub share-more : (k n total : ℕ) → total ≡ value bytes n (λ i. get_or (block s f (k + 1 + i)) c 0) j
      → bit_xor (get_or f (k * s + c) 0) (product j total) ≡ value bytes (n + 1) (λ i. get_or (block s f (k + i)) c 0) j
  share-more k n total e =
      ap (λ (t : ℕ). bit_xor (get_or f (k * s + c) 0) (product j t)) (e ∙ value-cong bytes n j (λ i l. ap (λ (q : ℕ). get_or (block s f q) c 0) (next i)))
      ∙ ap (λ (x : ℕ). bit_xor x (product j (value bytes n (λ i. get_or (block s f (k + suc i)) c 0) j)))
      (sym (get_or-block s f k c hc) ∙ ap (λ (q : ℕ). get_or (block s f q) c 0) (sym (add-zero k)))
      ∙ sym (byte-horner n (λ i. get_or (block s f (k + i)) c 0) j (λ i. subst (λ (x : ℕ). x < 256) (sym (get_or-block s f (k + i) c hc)) (small ((k + i) * s + c))) hj)
      ∙ ap (λ (m : ℕ). value bytes m (λ i. get_or (block s f (k + i)) c 0) j) (sym (add-one n))
    where
      next : (i : ℕ) → k + 1 + i ≡ k + suc i
      next i = omega arith

pub share-all : (f : List ℕ) (b s c j : ℕ) → value bytes b (λ i. get_or (block s f (0 + i)) c 0) j ≡ share_byte b s f j c
unfolding share_byte
share-all f b s c j = value-cong bytes b j (λ i l. ap (λ (q : ℕ). get_or (block s f q) c 0) (zero-add i))

-- shares, one behind the other

pub length-shares_of : (n b s : ℕ) (f : List ℕ) → length (shares_of n b s f) ≡ n * s
unfolding shares_of share_of
length-shares_of zero b s f = sym (zero-mul s)
length-shares_of (suc n) b s f =
    length-append (shares_of n b s f) (share_of b s f (suc n))
    ∙ omega (arith, length-shares_of n b s f, length-tabulate s (share_byte b s f (suc n)), suc-mul n s)

pub shares-more : (o f : List ℕ) (b s j at number : ℕ) → at ≡ j * s → number ≡ j + 1 → at ≤ length o
    → spliced (spliced o 0 (shares_of j b s f)) at (share_of b s f number) ≡ spliced o 0 (shares_of (j + 1) b s f)
unfolding shares_of
shares-more o f b s j at number e q h =
    let here : at ≡ 0 + length (shares_of j b s f) = e ∙ sym (zero-add (length (shares_of j b s f)) ∙ length-shares_of j b s f) in
    ap₂ (λ (k i : ℕ). spliced (spliced o 0 (shares_of j b s f)) k (share_of b s f i)) here (q ∙ add-one j)
    ∙ spliced-more o 0 (shares_of j b s f) (share_of b s f (suc j)) (omega arith)
    ∙ ap (λ (n : ℕ). spliced o 0 (shares_of n b s f)) (sym (add-one j))

-- lists with the same bytes have the same shares
pub shares_of-cong : (n b s : ℕ) (f g : List ℕ) → ((i : ℕ) → get_or f i 0 ≡ get_or g i 0) → shares_of n b s f ≡ shares_of n b s g
unfolding shares_of share_of
shares_of-cong zero b s f g h = refl
shares_of-cong (suc n) b s f g h =
    ap₂ (λ (k l : List ℕ). k ++ l) (shares_of-cong n b s f g h)
    (tabulate-cong s (share_byte b s f (suc n)) (share_byte b s g (suc n))
    (λ c l. share_byte-at b s f (suc n) c l ∙ value-cong bytes b (suc n) (λ k q. h (k * s + c)) ∙ sym (share_byte-at b s g (suc n) c l)))

pub shares-frame : (n b : ℕ) (m : List ℕ) → shares n b m ≡ shares_of n b (share_length b (length m)) (frame b m)
unfolding shares shares_of share
shares-frame zero b m = refl
shares-frame (suc n) b m = ap (λ (l : List ℕ). l ++ share_of b (share_length b (length m)) (frame b m) (suc n)) (shares-frame n b m)

pub length-shares : (n b : ℕ) (m : List ℕ) → length (shares n b m) ≡ n * share_length b (length m)
length-shares n b m = ap length (shares-frame n b m) ∙ length-shares_of n b (share_length b (length m)) (frame b m)

-- a part that is written into an array: k is how long it is
module _ (a k : ℕ) (xs ys : List ℕ) (long : length ys ≡ k) (fits : a + k ≤ length xs) where
  pub put-inside : (c : ℕ) → c < k → get_or (put_mid a k xs ys) (a + c) 0 ≡ get_or ys c 0
  put-inside c h =
      let l : length (take a xs) ≡ a = length-take-le a xs (omega arith) in
      ap (λ (n : ℕ). get_or (put_mid a k xs ys) (n + c) 0) (sym l)
      ∙ get_or-append-add (take a xs) (ys ++ drop k (drop a xs)) c 0
      ∙ get_or-append ys (drop k (drop a xs)) 0 c (omega arith)

  pub put-below : (i : ℕ) → i < a → get_or (put_mid a k xs ys) i 0 ≡ get_or xs i 0
  put-below i h =
      get_or-append (take a xs) (ys ++ drop k (drop a xs)) 0 i (omega (arith, length-take-le a xs (omega arith)))
      ∙ get_or-take a xs i 0 h

  pub put-above : (i : ℕ) → a + k ≤ i → get_or (put_mid a k xs ys) i 0 ≡ get_or xs i 0
  put-above i h =
      let l : length (take a xs) ≡ a = length-take-le a xs (omega arith) in
      let r : length (take a xs) + (length ys + (i - a - k)) ≡ i = omega (arith, l) in
      let q : a + (k + (i - a - k)) ≡ i = omega arith in
      ap (λ (n : ℕ). get_or (put_mid a k xs ys) n 0) (sym r)
      ∙ get_or-append-add (take a xs) (ys ++ drop k (drop a xs)) (length ys + (i - a - k)) 0
      ∙ get_or-append-add ys (drop k (drop a xs)) (i - a - k) 0
      ∙ get_or-drop k (drop a xs) (i - a - k) 0 ∙ get_or-drop a xs (k + (i - a - k)) 0 ∙ ap (λ (n : ℕ). get_or xs n 0) q

  pub put-spliced : put_mid a k xs ys ≡ spliced xs a ys
  unfolding spliced
  put-spliced = ap (λ (l : List ℕ). take a xs ++ (ys ++ l)) (drop-drop k a xs ∙ ap (λ (n : ℕ). drop (a + n) xs) (sym long))

-- byte c of a part
pub part-byte : (s : List ℕ) (at n c : ℕ) → c < n → get_or (take (at + n - at) (drop at s)) c 0 ≡ get_or s (at + c) 0
part-byte s at n c h = get_or-take (at + n - at) (drop at s) c 0 (omega arith) ∙ get_or-drop at s c 0

-- two bytes and a message put into an array of zeros
pub frame-array : (hi lo k : ℕ) (x h y m : List ℕ) → ((i : ℕ) → get_or x i 0 ≡ 0) → h ≡ hi ∷ lo ∷ [] → y ≡ m → (i : ℕ)
    → get_or (put_mid 2 k (h ++ drop 2 x) y) i 0 ≡ get_or (hi ∷ lo ∷ m) i 0
frame-array hi lo k x h y m none e f i =
    let z : List ℕ = drop 2 x in
    ap₂ (λ (p q : List ℕ). get_or (put_mid 2 k (p ++ z) q) i 0) e f
    ∙ zeros-past (hi ∷ lo ∷ m) (drop k z)
    (λ j. get_or-drop k z j 0 ∙ get_or-drop 2 x (k + j) 0 ∙ none (2 + (k + j))) i
