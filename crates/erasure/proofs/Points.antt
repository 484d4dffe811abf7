-- Shares and slices as the points and the lists of bytes that they stand for, and how a loop that takes them up adds one more. Assumes nothing.
use Rattle.std.proofs.Common.{◌≡◌, Bool, true, false, ℕ, suc, ◌+◌, ◌-◌, ◌*◌, ◌<◌, ◌≤◌, List, [], ◌∷◌, ◌++◌, length, get_or, take, drop, set, map, cond, refl, sym, ap, ◌∙◌, arith, Bor, length-take-le}
use Rattle.std.proofs.lemmas.List.{take_more, take_more_set, length-map}
use lib.ListN.{get_or-map, length-drop}
use mathlib.Core.List.{map-append, append-nil}
use native.Mathlib.Nat.{add-zero}
use borrow.Author.Tests.{eq-eqb, ne_eqb}
use lib.Dec.{eqb}
use Rattle.buffer.specs.Entries.{size, fills, bodies}
use Rattle.buffer.proofs.Entries.{Whole, whole, bodies-more}
use Rattle.buffer.proofs.Parts.{part-rest}
use Rattle.erasure.specs.Rebuild.{Point, point, present, other, framed, unframed, joined, recovered}
use Rattle.erasure.proofs.Other.{none_other}
use Rattle.erasure.proofs.Outcomes.{recovered-enough, joined-even}
use Rattle.erasure.proofs.Present.{point-used}
use Rattle.erasure.specs.Arrays.{slices, points, number_of, size_of}
use Rattle.erasure.specs.declared.Share.{Share}

-- the share that is read past the end of an array
abbrev pub none : Share
none = record { number = 0; bytes = record { ref_ptr = (0, 0); now = [] } }

abbrev pub point_of : Share → Point
point_of x = record { number = x.number; share = x.bytes.now }

module _ (xs : List Share) (i : ℕ) where
  pub point_at : i < length xs → point (points xs) i ≡ point_of (get_or xs i none)
  unfolding point
  point_at h = get_or-map point_of xs i none

  pub number_at : i < length xs → number_of xs i ≡ (get_or xs i none).number
  number_at h = ap (λ (p : Point). p.number) (point_at h)

-- one slice more, and one that is set
pub slices_more : (xs : List (Bor (List ℕ))) (i : ℕ) (d : Bor (List ℕ)) → i < length xs
    → slices (take (i + 1) xs) ≡ slices (take i xs) ++ ((get_or xs i d).now ∷ [])
slices_more xs i d h =
    ap slices (take_more xs i d h) ∙ map-append (λ (x : Bor (List ℕ)). x.now) (take i xs) (get_or xs i d ∷ [])

pub slices-set : (xs : List (Bor (List ℕ))) (i : ℕ) (x : Bor (List ℕ)) → i < length xs
    → slices (take (i + 1) (set xs i x)) ≡ slices (take i xs) ++ (x.now ∷ [])
slices-set xs i x h =
    ap slices (take_more_set xs i x h) ∙ map-append (λ (y : Bor (List ℕ)). y.now) (take i xs) (x ∷ [])

pub points-set : (xs : List Share) (i : ℕ) (x : Share) → i < length xs
    → points (take (i + 1) (set xs i x)) ≡ points (take i xs) ++ (point_of x ∷ [])
points-set xs i x h =
    ap points (take_more_set xs i x h) ∙ map-append point_of (take i xs) (x ∷ [])

-- one entry, present or not, before others
before : (j : ℕ) (e : List ℕ) (t : Bool) (P Q R : List Point) → P ≡ Q ++ R
    → cond t P (record { number = j; share = e } ∷ P) ≡ cond t Q (record { number = j; share = e } ∷ Q) ++ R
before j e true P Q R h = h
before j e false P Q R h = ap (λ (ps : List Point). record { number = j; share = e } ∷ ps) h

present-append : (j : ℕ) (es fs : List (List ℕ)) → present j (es ++ fs) ≡ present j es ++ present (j + length es) fs
unfolding present
present-append j [] fs = ap (λ (k : ℕ). present k fs) (sym (add-zero j))
present-append j (e ∷ es) fs =
    let n : j + 1 + length es ≡ j + length (e ∷ es) = omega arith in
    before j e (eqb (length e) 0) (present (j + 1) (es ++ fs)) (present (j + 1) es) (present (j + length (e ∷ es)) fs)
    (present-append (j + 1) es fs ∙ ap (λ (k : ℕ). present (j + 1) es ++ present k fs) n)

-- Share i + 1, behind i others.
module _ (xs : List (Bor (List ℕ))) (i : ℕ) (d : Bor (List ℕ)) (h : i < length xs) where
  present_more : present 1 (slices (take (i + 1) xs)) ≡ present 1 (slices (take i xs)) ++ present (i + 1) ((get_or xs i d).now ∷ [])
  present_more =
      let n : 1 + length (slices (take i xs)) ≡ i + 1 = omega (arith, length-map (take i xs) (λ (x : Bor (List ℕ)). x.now), length-take-le i xs (omega arith)) in
      ap (present 1) (slices_more xs i d h) ∙ present-append 1 (slices (take i xs)) ((get_or xs i d).now ∷ [])
      ∙ ap (λ (k : ℕ). present 1 (slices (take i xs)) ++ present k ((get_or xs i d).now ∷ [])) n

  pub present-missing : length (get_or xs i d).now ≡ 0 → present 1 (slices (take (i + 1) xs)) ≡ present 1 (slices (take i xs))
  unfolding present
  present-missing z = present_more ∙ rw (eq-eqb (length (get_or xs i d).now) 0 z) (append-nil (present 1 (slices (take i xs))))

  pub present-found : (length (get_or xs i d).now ≡ 0 → ⊥) → present 1 (slices (take (i + 1) xs))
      ≡ present 1 (slices (take i xs)) ++ (record { number = i + 1; share = (get_or xs i d).now } ∷ [])
  unfolding present
  present-found some = present_more ∙ rw (ne_eqb (length (get_or xs i d).now) 0 some)

pub lengths-points : (xs : List Share) → map (λ p. length p.share) (points xs) ≡ map (λ x. length x.bytes.now) xs
lengths-points [] = refl
lengths-points (x ∷ xs) = ap (λ (l : List ℕ). length x.bytes.now ∷ l) (lengths-points xs)

-- the first of some entries is whole; the first part gives a tactic the term to look for
pub entry_inside : (n : ℕ) (s : List ℕ) → 0 < n → fills n s ≡ true → (fills n s ≡ fills n s) × (2 + size s ≤ length s)
entry_inside n s h f = (refl, omega (arith, whole (n - 1) n 0 s (omega arith) f))

-- An entry and what follows it.
pub entry-shorter : (k : ℕ) (rest : List ℕ) → length (take (length rest - (2 + k)) (drop (2 + k) rest)) ≤ length rest
entry-shorter k rest = rw (part-rest rest (2 + k)) (omega (arith, length-drop (2 + k) rest))

module _ (m n k : ℕ) (rest : List ℕ) (e : n ≡ suc m) (q : k ≡ size rest) (f : fills n rest ≡ true) where
  entry : Whole m n 0 rest e
  entry = whole m n 0 rest e f

  pub entry-tail : fills m (take (length rest - (2 + k)) (drop (2 + k) rest)) ≡ true
  entry-tail = rw (part-rest rest (2 + k), q) entry.tail

  pub entry-bodies : bodies n rest ≡ take (2 + k - 2) (drop 2 rest) ∷ bodies m (take (length rest - (2 + k)) (drop (2 + k) rest))
  entry-bodies =
      let two : 2 + size rest - 2 ≡ size rest = omega arith in
      rw (part-rest rest (2 + k), q, two) (bodies-more m n 0 rest e)

-- The length of shares that are equal in length.
pub size_at : (us : List Share) → 1 ≤ length us → size_of us ≡ length (get_or us 0 none).bytes.now
size_at us some = ap (λ (p : Point). length p.share) (point_at us 0 some)

pub even-lengths : (us : List Share) (s : ℕ) → other s (map (λ p. length p.share) (points us)) ≡ false
    → (m : ℕ) → m < length us → length (point (points us) m).share ≡ s
even-lengths us s even m h =
    let f : Point → ℕ = λ p. length p.share in
    ap f (point_at us m h)
    ∙ sym (get_or-map (λ (x : Share). length x.bytes.now) us m none)
    ∙ ap (λ (l : List ℕ). get_or l m 0) (sym (lengths-points us))
    ∙ none_other s (map f (points us)) even m (omega (arith, length-map (points us) f, length-map us point_of))

-- The shares in use, which are the first b of the points present.
module _ (b : ℕ) (ps : List Point) (us : List Share) (low : 1 ≤ b) (enough : b ≤ length ps) (same : points us ≡ take b ps) where
  pub used-count : length us ≡ b
  used-count = sym (length-map us point_of) ∙ ap length same ∙ length-take-le b ps enough

  used-size : length (point ps 0).share ≡ size_of us
  used-size =
      ap (λ (p : Point). length p.share) (sym (point-used b ps 0 low) ∙ ap (λ (l : List Point). point l 0) (sym same))

  pub used-joined : recovered b ps ≡ joined (length us) (size_of us) (points us)
  used-joined = recovered-enough b ps enough ∙ rw (used-size, used-count) (ap (joined b (size_of us)) (sym same))

  -- where they are equal in length, and f begins with the frame that they have
  pub used-framed : (s : ℕ) (f : List ℕ) → s ≡ size_of us → other s (map (λ p. length p.share) (points us)) ≡ false
      → take (length us * s) f ≡ framed (length us) s (points us) → recovered b ps ≡ unframed b s (take (b * s) f)
  used-framed s f e even w =
      used-joined ∙ ap (λ (k : ℕ). joined (length us) k (points us)) (sym e) ∙ joined-even (length us) s (points us) even
      ∙ ap (unframed (length us) s) (sym w) ∙ ap (λ (k : ℕ). unframed k s (take (k * s) f)) used-count
