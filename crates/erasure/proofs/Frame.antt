-- The frame of a message, its blocks and shares, byte by byte; a frame gives its message, and nothing else gives one. A list is
-- known by its length and elements. Assumes nothing.
use mathlib.Core.Path.{◌≡◌, refl, sym, ap, subst, ◌∙◌}
use mathlib.Core.Bool.{Bool, true, false, cond, not, ◌||◌}
use mathlib.Core.List.{List, [], ◌∷◌, ◌++◌}
use Prim.Native.Nat.{ℕ, zero, suc, ◌+◌, ◌-◌, ◌*◌, ◌/◌, ◌<◌, ◌≤◌}
use native.Mathlib.Nat.{mul_comm, mul-zero, suc-mul, mul-le-mul_left, mul-one, div-mul-le_self, lt-div-mul-add, div-lt_iff_lt-mul}
use native.Mathlib.Decide.{dec_lt}
use native.Mathlib.Omega.{arith}
use Rattle.std.specs.Int.{div_ceil}
use Rattle.std.proofs.lemmas.Grind.{div_ceil_times}
use borrow.Author.Tests.{le-ltb, eq-eqb, ne_eqb, ltb-false, eqb-true}
use lib.Dec.{ltb, eqb}
use lib.ListN.{length, get_or, take, drop, replicate, length-append, length-drop, length-replicate, get_or-eq_default}
use lib.Seq.{ext_get_or, get_or-take, get_or-drop, length-take-le, take-append_seam}
use Rattle.limits.specs.Limits.{max_message, max_share, max_parties, max_entry}
use Rattle.buffer.specs.Entries.{size, body, rest}
use Rattle.buffer.proofs.Parts.{part-rest}
use Rattle.buffer.proofs.Tabulate.{length-tabulate, get_or-tabulate}
use Rattle.polynomial.specs.Polynomial.{value}
use Rattle.polynomial.proofs.Value.{value-cong}
use Rattle.erasure.specs.Bytes.{bytes}
use Rattle.buffer.specs.Bounds.{Bytes}
use Rattle.erasure.specs.Coding.{share_length, headed, frame, block, share_byte, share_of, share}
use Rattle.erasure.specs.Rebuild.{other, unframed, cause, message}
use Rattle.erasure.proofs.Other.{other_none, none_other}

-- the length of a share is the least s with L + 2 ≤ b·s

module _ (b l : ℕ) (low : 1 ≤ b) where
  pub share-low : l + 2 ≤ b * share_length b l
  unfolding share_length
  share-low =
      let n : ℕ = l + 2 + (b - 1) in
      omega (arith, lt-div-mul-add {a = n} low, mul_comm b (n / b))

  pub share-high : b * share_length b l < l + 2 + b
  unfolding share_length
  share-high =
      let n : ℕ = l + 2 + (b - 1) in
      omega (arith, div-mul-le_self n b, mul_comm b (n / b))

  pub share-positive : 1 ≤ share_length b l
  share-positive = go (share_length b l) share-low
    where
      go : (s : ℕ) → l + 2 ≤ b * s → 1 ≤ s
      go zero h = absurd (omega (arith, mul-zero b))
      go (suc s) h = omega arith

  pub share-most : share_length b l ≤ l + 2
  unfolding share_length
  share-most =
      let n : ℕ = l + 2 + (b - 1) in
      let h : n < suc (l + 2) * b = omega (arith, suc-mul (l + 2) b, mul-le-mul_left (l + 2) low, mul-one (l + 2)) in
      let r : n / b < suc (l + 2) = (div-lt_iff_lt-mul low).1 h in
      omega arith

pub rounded_up : (n b : ℕ) → 1 ≤ b → div_ceil n b ≡ (n + (b - 1)) / b
rounded_up n b low =
    let q = div_ceil n b in
    let r = (n + (b - 1)) / b in
    let t = div_ceil_times n b low in
    let high : r < suc q = (div-lt_iff_lt-mul low).1 (omega (arith, suc-mul q b)) in
    elim (dec_lt r q) [
      | yes l ↦ absurd (omega (arith, (div-lt_iff_lt-mul {k = b} {x = n + (b - 1)} {y = q} low).0 l))
      | no o ↦ omega arith
    ]

-- the bytes of a frame

pub get_or-zeros : (n i : ℕ) → ◌≡◌ {A = ℕ} (get_or (replicate n 0) i 0) 0
get_or-zeros zero i = refl
get_or-zeros (suc n) zero = refl
get_or-zeros (suc n) (suc i) = get_or-zeros n i

-- zeros past the end of a list are what `get_or` gives there
pub zeros-past : (m z : List ℕ) → ((j : ℕ) → get_or z j 0 ≡ 0) → (i : ℕ) → get_or (m ++ z) i 0 ≡ get_or m i 0
zeros-past [] z h i = h i
zeros-past (x ∷ m) z h zero = refl
zeros-past (x ∷ m) z h (suc i) = zeros-past m z h i

module _ (b : ℕ) (m : List ℕ) where
  pub get_or-frame : (i : ℕ) → get_or (frame b m) i 0 ≡ get_or (headed m) i 0
  unfolding frame
  get_or-frame =
      let n : ℕ = b * share_length b (length m) - (length m + 2) in
      zeros-past (headed m) (replicate n 0) (get_or-zeros n)

  -- the two bytes of the length hold it
  pub size-frame : size (frame b m) ≡ length m
  unfolding size headed
  size-frame = omega (arith, get_or-frame 0, get_or-frame 1)

  pub frame-message : take (length m) (drop 2 (frame b m)) ≡ m
  unfolding frame headed
  frame-message = take-append_seam m (replicate (b * share_length b (length m) - (length m + 2)) 0)

  pub frame-zeros : (i : ℕ) → get_or (frame b m) (2 + length m + i) 0 ≡ 0
  unfolding headed
  frame-zeros i =
      let h : length (headed m) ≤ 2 + length m + i = omega arith in
      get_or-frame (2 + length m + i) ∙ get_or-eq_default (headed m) 0 h

  pub length-frame : 1 ≤ b → length (frame b m) ≡ b * share_length b (length m)
  unfolding frame headed
  length-frame low =
      let n : ℕ = b * share_length b (length m) - (length m + 2) in
      omega (arith, length-append m (replicate n 0), length-replicate {A = ℕ} n 0, share-low b (length m) low)

  pub frame-bytes : Bytes m → length m ≤ max_entry → Bytes (frame b m)
  unfolding headed
  frame-bytes hm h i = subst (λ (x : ℕ). x < 256) (sym (get_or-frame i)) (go i)
    where
      go : (i : ℕ) → get_or (headed m) i 0 < 256
      go zero = omega arith
      go (suc zero) = omega arith
      go (suc (suc i)) = hm i

  pub frame-bytes-message : Bytes (frame b m) → Bytes m
  unfolding headed
  frame-bytes-message h i = subst (λ (x : ℕ). x < 256) (get_or-frame (suc (suc i))) (h (suc (suc i)))

-- the byte that block k has at place c
pub get_or-block : (s : ℕ) (f : List ℕ) (k c : ℕ) → c < s → get_or (block s f k) c 0 ≡ get_or f (k * s + c) 0
unfolding block
get_or-block s f k c h = get_or-take s (drop (k * s) f) c 0 h ∙ get_or-drop (k * s) f c 0

pub share_byte-at : (b s : ℕ) (f : List ℕ) (j c : ℕ) → c < s
    → share_byte b s f j c ≡ value bytes b (λ k. get_or f (k * s + c) 0) j
unfolding share_byte
share_byte-at b s f j c h = value-cong bytes b j (λ k l. get_or-block s f k c h)

pub length-share : (b j : ℕ) (m : List ℕ) → length (share b j m) ≡ share_length b (length m)
unfolding share share_of
length-share b j m = length-tabulate (share_length b (length m)) (share_byte b (share_length b (length m)) (frame b m) j)

-- byte c of share j: the value at j of the polynomial of the frame's bytes c, s + c, 2·s + c, ..
pub get_or-share : (b j : ℕ) (m : List ℕ) (c : ℕ) → c < share_length b (length m)
    → get_or (share b j m) c 0 ≡ value bytes b (λ k. get_or (frame b m) (k * share_length b (length m) + c) 0) j
unfolding share share_of
get_or-share b j m c h =
    let s : ℕ = share_length b (length m) in
    get_or-tabulate s (share_byte b s (frame b m) j) c 0 h ∙ share_byte-at b s (frame b m) j c h

-- the tests of a frame

pub record Framed (b s : ℕ) (f m : List ℕ) : Type 0 where
  pub long : 2 ≤ length f
  pub within : size f ≤ max_message
  pub stated : s ≡ share_length b (size f)
  pub zeros : (i : ℕ) → get_or f (2 + size f + i) 0 ≡ 0
  pub found : body f ≡ m

all_pass : (p q r t : Bool) (m n : List ℕ) → cond (p || q || not r || t) (cause 12) (message n) ≡ message m
    → (p ≡ false) × (q ≡ false) × (r ≡ true) × (t ≡ false) × (n ≡ m)
all_pass true q r t m n e = let z : ◌≡◌ {A = ℕ} 0 1 = cc in absurd (omega arith)
all_pass false true r t m n e = let z : ◌≡◌ {A = ℕ} 0 1 = cc in absurd (omega arith)
all_pass false false false t m n e = let z : ◌≡◌ {A = ℕ} 0 1 = cc in absurd (omega arith)
all_pass false false true true m n e = let z : ◌≡◌ {A = ℕ} 0 1 = cc in absurd (omega arith)
all_pass false false true false m n e = (refl, refl, refl, refl, cc)

module _ (b s : ℕ) (f m : List ℕ) where
  pub is-unframed : unframed b s f ≡ message m → Framed b s f m
  unfolding unframed rest
  is-unframed e =
      let h = all_pass (ltb (length f) 2) (ltb max_message (size f)) (eqb s (share_length b (size f)))
      (other 0 (rest f)) m (body f) e in
      record {
        long = ltb-false (length f) 2 h.0;
        within = ltb-false max_message (size f) h.1;
        stated = eqb-true s (share_length b (size f)) h.2;
        zeros = λ i. sym (get_or-drop (2 + size f) f i 0) ∙ elim (dec_lt i (length (drop (2 + size f) f))) [
          | yes k ↦ none_other 0 (drop (2 + size f) f) h.3 i k
          | no k ↦ get_or-eq_default (drop (2 + size f) f) 0 (omega arith)
        ];
        found = h.4;
      }

  pub unframed-is : Framed b s f m → unframed b s f ≡ message m
  unfolding unframed rest
  unframed-is h =
      let e₀ = le-ltb (length f) 2 h.long in
      let e₁ = le-ltb max_message (size f) h.within in
      let e₂ = eq-eqb s (share_length b (size f)) h.stated in
      let e₃ = other_none 0 (drop (2 + size f) f) (λ i k. get_or-drop (2 + size f) f i 0 ∙ h.zeros i) in
      rw (e₀, e₁, e₂, e₃) (ap message h.found)

-- a frame gives its message
pub unframed-frame : (b : ℕ) (m : List ℕ) → 1 ≤ b → length m ≤ max_message
    → unframed b (share_length b (length m)) (frame b m) ≡ message m
unfolding body
unframed-frame b m low h =
    unframed-is b (share_length b (length m)) (frame b m) m record {
      long = omega (arith, length-frame b m low, share-low b (length m) low);
      within = omega (arith, size-frame b m);
      stated = ap (share_length b) (sym (size-frame b m));
      zeros = λ i. ap (λ (n : ℕ). get_or (frame b m) (2 + n + i) 0) (size-frame b m) ∙ frame-zeros b m i;
      found = ap (λ (n : ℕ). take n (drop 2 (frame b m))) (size-frame b m) ∙ frame-message b m;
    }

-- what gives a message is its frame
module _ (b s : ℕ) (f m : List ℕ) (low : 1 ≤ b) (len : length f ≡ b * s) (h : Framed b s f m) where
  fits : size f + 2 ≤ length f
  fits = omega (arith, subst (λ (t : ℕ). size f + 2 ≤ b * t) (sym h.stated) (share-low b (size f) low))

  found-length : length m ≡ size f
  unfolding body
  found-length =
      sym (ap length h.found) ∙ length-take-le (size f) (drop 2 f) (omega (arith, fits, length-drop 2 f))

  same_byte : Bytes f → (i : ℕ) → get_or f i 0 ≡ get_or (headed m) i 0
  unfolding headed size body
  same_byte hf zero = omega (arith, found-length, hf 1)
  same_byte hf (suc zero) = omega (arith, found-length, hf 1)
  same_byte hf (suc (suc i)) = elim (dec_lt i (size f)) [
    | yes l ↦ sym (ap (λ (x : List ℕ). get_or x i 0) (sym h.found) ∙ get_or-take (size f) (drop 2 f) i 0 l
        ∙ get_or-drop 2 f i 0 ∙ ap (λ (n : ℕ). get_or f n 0) (omega arith))
    | no n ↦
        let e : suc (suc i) ≡ 2 + size f + (i - size f) = omega arith in
        ap (λ (n : ℕ). get_or f n 0) e ∙ h.zeros (i - size f) ∙ sym (get_or-eq_default m 0 (omega (arith, found-length)))
  ]

pub frame-unframed : (b s : ℕ) (f m : List ℕ) → 1 ≤ b → length f ≡ b * s → Bytes f → unframed b s f ≡ message m
    → (length m ≤ max_message) × (s ≡ share_length b (length m)) × (f ≡ frame b m)
frame-unframed b s f m low len hf e =
    let h = is-unframed b s f m e in
    let l = found-length b s f m low len h in
    let t : s ≡ share_length b (length m) = h.stated ∙ ap (share_length b) (sym l) in (
      omega (arith, h.within),
      t,
      ext_get_or 0 f (frame b m) (len ∙ ap (λ (n : ℕ). b * n) t ∙ sym (length-frame b m low))
          (λ i k. same_byte b s f m low len h hf i ∙ sym (get_or-frame b m i)),
    )

third-fails : (p q r t : Bool) (m : List ℕ) → (q ≡ false → r ≡ false)
    → cond (p || q || not r || t) (cause 12) (message m) ≡ cause 12
third-fails true q r t m h = refl
third-fails false true r t m h = refl
third-fails false false r t m h = let e = h refl in rw e

-- cause 12, where no length within the limit gives s
unstated : (b s : ℕ) (f : List ℕ) → (size f ≤ max_message → s ≡ share_length b (size f) → ⊥) → unframed b s f ≡ cause 12
unfolding unframed
unstated b s f h =
    third-fails (ltb (length f) 2) (ltb max_message (size f)) (eqb s (share_length b (size f))) (other 0 (rest f)) (body f)
    (λ q. ne_eqb s (share_length b (size f)) (h (ltb-false max_message (size f) q)))

-- no message has a share longer than the limit
pub long-share : (b s : ℕ) (f : List ℕ) → 1 ≤ b → max_share < s → unframed b s f ≡ cause 12
long-share b s f low h = unstated b s f (λ k e. omega (arith, share-most b (size f) low))

-- nor a frame longer than the greatest message and its filling
pub long-frame : (b s : ℕ) (f : List ℕ) → 1 ≤ b → b ≤ max_parties → max_share + max_parties < b * s → unframed b s f ≡ cause 12
long-frame b s f low few h = unstated b s f (λ k e. omega (arith, ap (λ (n : ℕ). b * n) e, share-high b (size f) low))

-- a frame whose length was read, and found to be as it gives
module _ (b s len : ℕ) (f : List ℕ) (low : 1 ≤ b) (all : length f ≡ b * s) (read : len ≡ size f) (stated : s ≡ share_length b len) where
  pub stated-inside : len + 2 ≤ length f
  stated-inside = omega (arith, share-low b len low, ap (λ (n : ℕ). b * n) stated)

  pub stated-rest : take (length f - (len + 2)) (drop (len + 2) f) ≡ rest f
  unfolding rest
  stated-rest =
      let e : len + 2 ≡ 2 + size f = omega arith in
      part-rest f (len + 2) ∙ ap (λ (n : ℕ). drop n f) e

  pub stated-body : body f ≡ take (len + 2 - 2) (drop 2 f)
  unfolding body
  stated-body =
      let e : size f ≡ len + 2 - 2 = omega arith in
      ap (λ (n : ℕ). take n (drop 2 f)) e
