-- What bytes say as a packet: one law for each outcome, from plain facts about numbers, and the bounds that hold where a share is
-- read. By the tests of the definitions. Assumes nothing.
use mathlib.Core.Path.{◌≡◌, refl, sym, ap, ap₂, subst, ◌∙◌}
use mathlib.Core.Bool.{Bool, true, false, cond, not, ◌&&◌, ◌||◌}
use mathlib.Core.List.{List}
use Prim.Native.Nat.{ℕ, ◌+◌, ◌-◌, ◌*◌, ◌≤◌, ◌<◌}
use native.Mathlib.Omega.{arith}
use borrow.Author.Tests.{le-ltb, eq-eqb, ne_eqb, ltb-false, eqb-true}
use lib.Dec.{ltb, eqb}
use lib.ListN.{length, get_or, take, drop, length-drop}
use lib.Seq.{get_or-drop, length-take-le}
use Rattle.std.proofs.lemmas.Bool.Decides.{nat_tests}
use Rattle.limits.specs.Limits.{max_parties, max_path, max_share, parties, numbered}
use Rattle.limits.proofs.Ranges.{parties-some, parties-range, numbered_within, numbered-range}
use Rattle.buffer.specs.Entries.{size}
use Rattle.buffer.proofs.Entries.{size-drop}
use Rattle.merkle.specs.Shares.{sides_of, path_length_of}
use Rattle.merkle.specs.Answer.{Count, counted, not_counted, count_of}
use Rattle.merkle.specs.Answer.{Counted}
use Rattle.merkle.specs.Answer as count
use Rattle.merkle.proofs.Descend.{sides-fit}
use Rattle.merkle.proofs.Sound.{Wide}
use Rattle.packet.specs.Format.{Reading, silence, unreadable, shared, hashes, number_in, length_in, count_in, share_in, read_of}
use Rattle.packet.specs.Answer.{Told, told, placed, read_at}
use Rattle.packet.specs.Packet.{Packet}
use Rattle.packet.specs.Packet.{Refused, Silence, Share}
use Rattle.packet.proofs.Path.{length-hashes, wide-hashes}

-- what is told of an answer has the answer itself
pub told-one : {a b : Packet} → told a ≡ told b → a ≡ b
told-one e = ap (λ (t : Told). t.answer) e

-- the fields of a packet at a place
pub number_at : (s : List ℕ) (at : ℕ) → number_in (drop at s) ≡ get_or s (at + 1) 0
number_at s at = get_or-drop at s 1 0

pub length_at : (s : List ℕ) (at : ℕ) → length_in (drop at s) ≡ size (drop (at + 2) s)
length_at s at =
    let e : at + 3 ≡ at + 2 + 1 = omega arith in
    ap₂ (λ (x y : ℕ). x * 256 + y) (get_or-drop at s 2 0) (get_or-drop at s 3 0 ∙ ap (λ (k : ℕ). get_or s k 0) e)
    ∙ sym (size-drop (at + 2) s)

module _ (n : ℕ) (p : List ℕ) where
  pub share-empty : length_in p < 1 → share_in n p ≡ unreadable
  unfolding share_in
  share-empty h = grind (arith, nat_tests)

  pub share-long : max_share < length_in p → share_in n p ≡ unreadable
  unfolding share_in
  share-long h = grind (arith, nat_tests)

  pub share-misfit : (length p ≡ 4 + length_in p + 32 * count_in n p → ⊥) → share_in n p ≡ unreadable
  unfolding share_in
  share-misfit h = grind (arith, nat_tests)

  pub share-told : 4 ≤ length p → 1 ≤ number_in p → number_in p ≤ n → 1 ≤ length_in p → length_in p ≤ max_share
      → length p ≡ 4 + length_in p + 32 * count_in n p
      → share_in n p ≡ shared (number_in p) (take (length_in p) (drop 4 p)) (hashes (count_in n p) (drop (4 + length_in p) p))
  unfolding share_in
  share-told a b c d e f =
      rw (
        le-ltb (length p) 4 a,
        numbered_within n (number_in p) b c,
        le-ltb (length_in p) 1 d,
        le-ltb max_share (length_in p) e,
        eq-eqb (length p) (4 + length_in p + 32 * count_in n p) f,
      )

  -- the answer for it, at a place, with its number, length and count in any form
  pub placed-told : (at number len c : ℕ) → number_in p ≡ number → length_in p ≡ len → length (sides_of n number) ≡ c
      → 4 ≤ length p → 1 ≤ number → number ≤ n → 1 ≤ len → len ≤ max_share → length p ≡ 4 + len + 32 * c
      → placed at (share_in n p) ≡ Share number (at + 4) len c
  placed-told at number len c x y z a b d e f g =
      let k : count_in n p ≡ c = ap (λ (j : ℕ). length (sides_of n j)) x ∙ z in
      let w : length p ≡ 4 + length_in p + 32 * count_in n p = rw (y, k) g in
      let l : length (take (length_in p) (drop 4 p)) ≡ length_in p =
      length-take-le (length_in p) (drop 4 p) (omega (arith, length-drop 4 p)) in
      ap (placed at) (share-told a (rw x b) (rw x d) (rw y e) (rw y f) w)
      ∙ rw (l ∙ y, length-hashes (count_in n p) (drop (4 + length_in p) p) ∙ k, x)

  pub read-empty : length p ≡ 0 → read_of n p ≡ silence
  unfolding read_of
  read-empty h = rw (eq-eqb (length p) 0 h)

  module _ (some : 1 ≤ length p) where
    any : eqb (length p) 0 ≡ false
    any = ne_eqb (length p) 0 (λ q. omega arith)

    pub read-share : get_or p 0 0 ≡ 7 → read_of n p ≡ share_in n p
    unfolding read_of
    read-share h = rw (any, eq-eqb (get_or p 0 0) 7 h)

-- the answer at a place
module _ (n : ℕ) (s : List ℕ) (at : ℕ) where
  pub at_read : 1 ≤ n → n ≤ max_parties → read_at n s at ≡ placed at (read_of n (drop at s))
  unfolding read_at
  at_read low high = rw (parties-some n low high)

-- which of the two answers it is
refused : (t : Bool) (c k : ℕ) → (cond (not t) (not_counted 3) (count_of c)).answer ≡ count.Uncounted k → t ≡ false
refused true c k e = absurd cc
refused false c k e = refl

hashed : (t : Bool) (c k : ℕ) → (cond (not t) (not_counted 3) (count_of c)).answer ≡ count.Hashes k → (t ≡ true) × (k ≡ c)
hashed true c k e = (refl, cc)
hashed false c k e = absurd cc

-- the length of a path is told just where the number is that of a party
module _ (n j : ℕ) (low : 1 ≤ n) (high : n ≤ max_parties) (r : Counted) (told : counted r ≡ path_length_of n j) where
  ranged : path_length_of n j ≡ cond (not (numbered n j)) (not_counted 3) (count_of (length (sides_of n j)))
  unfolding path_length_of
  ranged = rw (parties-some n low high)

  within : (cond (not (numbered n j)) (not_counted 3) (count_of (length (sides_of n j)))).answer ≡ r
  within = sym (ap (λ (c : Count). c.answer) (told ∙ ranged))

  pub count-refused : (k : ℕ) → r ≡ count.Uncounted k → numbered n j ≡ false
  count-refused k e = refused (numbered n j) (length (sides_of n j)) k (within ∙ e)

  pub count-hashes : (k : ℕ) → r ≡ count.Hashes k → (1 ≤ j) × (j ≤ n) × (k ≡ length (sides_of n j))
  count-hashes k e =
      let h = hashed (numbered n j) (length (sides_of n j)) k (within ∙ e) in
      let (first, last) = numbered-range n j h.0 in (first, last, h.1)

-- and then it is that of a path
pub few_hashes : (n j k : ℕ) (r : Counted) → counted r ≡ path_length_of n j → r ≡ count.Hashes k → k ≤ max_path
unfolding path_length_of
few_hashes n j k r told e = go (parties n) refl (numbered n j) refl (sym (ap (λ (c : Count). c.answer) told) ∙ e)
  where
    go : (a : Bool) → parties n ≡ a → (b : Bool) → numbered n j ≡ b
        → (cond (not a) (not_counted 1) (cond (not b) (not_counted 3) (count_of (length (sides_of n j))))).answer ≡ count.Hashes k → k ≤ max_path
    go false p b q h = absurd cc
    go true p false q h = absurd cc
    go true p true q h =
        let c : k ≡ length (sides_of n j) = cc in
        let r = parties-range n p in
        let w = numbered-range n j q in
        omega (arith, sides-fit n (j - 1) r.1 (omega arith))

-- p is the packet of a share among n parties
pub record Readable (n : ℕ) (p : List ℕ) : Type 0 where
  pub heads : 4 ≤ length p
  pub map : get_or p 0 0 ≡ 7
  pub first : 1 ≤ number_in p
  pub last : number_in p ≤ n
  pub some : 1 ≤ length_in p
  pub short : length_in p ≤ max_share
  pub whole : length p ≡ 4 + length_in p + 32 * count_in n p

-- what is read of it
abbrev pub parts_of : ℕ → List ℕ → Reading
parts_of n p = shared (number_in p) (take (length_in p) (drop 4 p)) (hashes (count_in n p) (drop (4 + length_in p) p))

pub readable-read : (n : ℕ) (p : List ℕ) → Readable n p → read_of n p ≡ parts_of n p
readable-read n p s =
    read-share n p (omega (arith, s.heads)) s.map
    ∙ share-told n p s.heads s.first s.last s.some s.short s.whole

-- only where every test is passed is a share read
module _ (number : ℕ) (share : List ℕ) (path : List (List ℕ)) where
  not-silence : silence ≡ shared number share path → ⊥
  not-silence q = cc

  not-unreadable : unreadable ≡ shared number share path → ⊥
  not-unreadable q = cc

  passed : (r : Reading) (a b c d e f g h : Bool)
      → cond a silence (cond b (cond (c || not d || e || f || not g) unreadable r) (cond h silence unreadable)) ≡ shared number share path
      → (b ≡ true) × (c ≡ false) × (d ≡ true) × (e ≡ false) × (f ≡ false) × (g ≡ true) × (r ≡ shared number share path)
  passed r true b c d e f g h q = absurd (not-silence q)
  passed r false false c d e f g true q = absurd (not-silence q)
  passed r false false c d e f g false q = absurd (not-unreadable q)
  passed r false true true d e f g h q = absurd (not-unreadable q)
  passed r false true false false e f g h q = absurd (not-unreadable q)
  passed r false true false true true f g h q = absurd (not-unreadable q)
  passed r false true false true false true g h q = absurd (not-unreadable q)
  passed r false true false true false false false h q = absurd (not-unreadable q)
  passed r false true false true false false true h q = (refl, refl, refl, refl, refl, refl, q)

pub read-readable : (n : ℕ) (p : List ℕ) (number : ℕ) (share : List ℕ) (path : List (List ℕ)) → read_of n p ≡ shared number share path
    → Readable n p × (parts_of n p ≡ shared number share path)
unfolding read_of share_in
read-readable n p number share path read =
    let t =
    passed number share path (parts_of n p) (eqb (length p) 0) (eqb (get_or p 0 0) 7) (ltb (length p) 4)
    (numbered n (number_in p)) (ltb (length_in p) 1) (ltb max_share (length_in p)) (eqb (length p) (4 + length_in p + 32 * count_in n p))
    (eqb (get_or p 0 0) 0 && eqb (length p) 1) read in
    let (first, last) = numbered-range n (number_in p) t.2 in (
      record {
        heads = ltb-false (length p) 4 t.1;
        map = eqb-true (get_or p 0 0) 7 t.0;
        first = first;
        last = last;
        some = ltb-false (length_in p) 1 t.3;
        short = ltb-false max_share (length_in p) t.4;
        whole = eqb-true (length p) (4 + length_in p + 32 * count_in n p) t.5;
      },
      t.6,
    )

-- what holds of a packet's fields where a share is read
pub record Fields (n : ℕ) (p : List ℕ) (number : ℕ) (share : List ℕ) (path : List (List ℕ)) : Type 0 where
  pub low : 1 ≤ number
  pub high : number ≤ n
  pub some : 1 ≤ length share
  pub most : length share ≤ max_share
  pub counted : length path ≡ length (sides_of n number)
  pub whole : length p ≡ 4 + length share + 32 * length path
  pub share_lies : share ≡ take (length share) (drop 4 p)
  pub path-lies : path ≡ hashes (length path) (drop (4 + length share) p)

abbrev FieldsIn : ℕ → List ℕ → Reading → Type 0
FieldsIn n p silence = Unit {0}
FieldsIn n p unreadable = Unit {0}
FieldsIn n p (shared number share path) = Fields n p number share path

module _ (n : ℕ) (p : List ℕ) where
  lies : Readable n p → Fields n p (number_in p) (take (length_in p) (drop 4 p)) (hashes (count_in n p) (drop (4 + length_in p) p))
  lies s =
      let l : length (take (length_in p) (drop 4 p)) ≡ length_in p =
      length-take-le (length_in p) (drop 4 p) (omega (arith, s, length-drop 4 p)) in
      let k : length (hashes (count_in n p) (drop (4 + length_in p) p)) ≡ count_in n p =
      length-hashes (count_in n p) (drop (4 + length_in p) p) in record {
        low = s.first;
        high = s.last;
        some = omega (arith, l, s);
        most = omega (arith, l, s);
        counted = k;
        whole = omega (arith, l, k, s);
        share_lies = ap (λ (j : ℕ). take j (drop 4 p)) (sym l);
        path-lies = ap₂ (λ (i j : ℕ). hashes i (drop (4 + j) p)) (sym k) (sym l);
      }

  module _ (number : ℕ) (share : List ℕ) (path : List (List ℕ)) (e : read_of n p ≡ shared number share path) where
    pub fields-of : Fields n p number share path
    fields-of = let t = read-readable n p number share path e in subst (FieldsIn n p) t.1 (lies t.0)

    -- each hash of the path has 32 bytes
    pub read_wide : Wide 32 path
    read_wide =
        let f = fields-of in
        let q : List ℕ = drop (4 + length share) p in
        subst (Wide 32) (sym f.path-lies) (wide-hashes (length path) q (omega (arith, f, length-drop (4 + length share) p)))

-- the same of an answer: a share of len bytes from place `from` on, and c hashes behind it, of a packet p that starts at a place
pub record Lies (n at : ℕ) (p : List ℕ) (number from len c : ℕ) : Type 0 where
  pub low : 1 ≤ number
  pub high : number ≤ n
  pub place : from ≡ at + 4
  pub some : 1 ≤ len
  pub most : len ≤ max_share
  pub counted : c ≡ length (sides_of n number)
  pub whole : length p ≡ 4 + len + 32 * c
  pub says : read_of n p ≡ shared number (take len (drop 4 p)) (hashes c (drop (4 + len) p))

abbrev LiesIn : ℕ → ℕ → List ℕ → Packet → Type 0
LiesIn n at p (Refused k) = Unit {0}
LiesIn n at p Silence = Unit {0}
LiesIn n at p (Share number from len c) = Lies n at p number from len c

module _ (n at : ℕ) (p : List ℕ) where
  lies_in : (r : Reading) → read_of n p ≡ r → LiesIn n at p (placed at r)
  lies_in silence e = tt
  lies_in unreadable e = tt
  lies_in (shared number share path) e =
      let f = fields-of n p number share path e in record {
        low = f.low;
        high = f.high;
        place = refl;
        some = f.some;
        most = f.most;
        counted = f.counted;
        whole = f.whole;
        says = e ∙ ap₂ (shared number) f.share_lies f.path-lies;
      }

  pub lies-of : (number from len c : ℕ) → placed at (read_of n p) ≡ Share number from len c → Lies n at p number from len c
  lies-of number from len c e = subst (LiesIn n at p) e (lies_in (read_of n p) refl)
