-- One step more of the schedule, of the rounds and of the digest, as the loops take them. Assumes nothing.
use Rattle.std.proofs.Common.{◌≡◌, ℕ, ◌+◌, ◌-◌, ◌*◌, ◌/◌, ◌%◌, ◌^◌, ◌<◌, ◌≤◌, cond, ltb, List, [], ◌∷◌, ◌++◌, length, get_or, take, drop, set, sym, refl, ap, ◌∙◌, ap₂, add-zero, add-one, arith, get_or-take, get_or-drop, take-suc, take-suc-set, le-ltb, lt-ltb, w32}
use Rattle.std.proofs.lemmas.Slice.{take-put_mid}
use borrow.Rule.Slice.PartMut.{put_mid}
use Rattle.std.specs.Int.{to_be_bytes, from_be_bytes}
use Rattle.std.specs.Simd.{first_chunks}
use Rattle.sha256.proofs.Blocks.{chunk-at}
use Rattle.sha256.specs.Sha256.{K, word_at, later_word, schedule, round, rounds, big_endian, digest_of}
use Rattle.sha256.specs.declared.Working.{Working}

-- a round more
pub rounds_more : (t : ℕ) (k w : List ℕ) (first v r : Working) → k ≡ K → v ≡ rounds t w first
    → r ≡ round (get_or k t 0) (get_or w t 0) v → r ≡ rounds (t + 1) w first
unfolding rounds
rounds_more t k w first v r known e h =
    rw add-one (h ∙ ap₂ (λ (l : List ℕ) (u : Working). round (get_or l t 0) (get_or w t 0) u) known e)

-- a word of the block, as the four bytes of its chunk
word_from_chunk : (M : List ℕ) (t : ℕ) → t < length M / 4 → from_be_bytes w32 (get_or (first_chunks 4 (length M / 4) M) t []) ≡ word_at M t
unfolding word_at
word_from_chunk M t h =
    let at = λ (j : ℕ) (l : j < 4). get_or-take 4 (drop (4 * t) M) j 0 l ∙ get_or-drop (4 * t) M j 0 in
    rw (chunk-at 4 (length M / 4) M t [] h)
    (cc (at 0 (omega arith), at 1 (omega arith), at 2 (omega arith), at 3 (omega arith), ap (λ (k : ℕ). get_or M k 0) (add-zero (4 * t))))

pub schedule_first : (w M : List ℕ) (words : List (List ℕ)) (t r : ℕ) → length M ≡ 64 → words ≡ first_chunks 4 (length M / 4) M → t < length words
    → length words ≡ length M / 4 → t < length w → take t w ≡ schedule t M → r ≡ from_be_bytes w32 (get_or words t [])
    → take (t + 1) (set w t r) ≡ schedule (t + 1) M
unfolding schedule
schedule_first w M words t r whole chunks l count h e q =
    let n = later_word t (schedule t M) in
    let c : word_at M t ≡ cond (ltb t 16) (word_at M t) n = ap (λ b. cond b (word_at M t) n) (sym (lt-ltb t 16 (omega arith))) in
    let x : r ≡ word_at M t = q ∙ ap (λ (z : List (List ℕ)). from_be_bytes w32 (get_or z t [])) chunks ∙ word_from_chunk M t (omega arith) in
    rw add-one (take-suc-set w t r h ∙ ap₂ {C = List ℕ} (λ u x. u ++ (x ∷ [])) e (x ∙ c))

-- the words that a later word is made of stand among the first t
later-at : (w : List ℕ) (t : ℕ) → 16 ≤ t → later_word t (take t w) ≡ later_word t w
later-at w t l =
    let p2 : t - 2 < t = omega arith in
    let p7 : t - 7 < t = omega arith in
    let p15 : t - 15 < t = omega arith in
    let p16 : t - 16 < t = omega arith in
    cc (get_or-take t w (t - 2) 0 p2, get_or-take t w (t - 7) 0 p7, get_or-take t w (t - 15) 0 p15, get_or-take t w (t - 16) 0 p16)

-- a later word
pub schedule_later : (w block : List ℕ) (t r : ℕ) → 16 ≤ t → t < length w → take t w ≡ schedule t block
    → r ≡ later_word t w → take (t + 1) (set w t r) ≡ schedule (t + 1) block
unfolding schedule
schedule_later w block t r l h e q =
    let n = later_word t (schedule t block) in
    let c : n ≡ cond (ltb t 16) (word_at block t) n = ap (λ b. cond b (word_at block t) n) (sym (le-ltb t 16 l)) in
    rw add-one
    (take-suc-set w t r h ∙ ap₂ {C = List ℕ} (λ u x. u ++ (x ∷ [])) e (q ∙ sym (later-at w t l) ∙ ap (later_word t) e ∙ c))

digest-snoc : (H : List ℕ) (x : ℕ) → digest_of (H ++ (x ∷ [])) ≡ digest_of H ++ big_endian 4 x
unfolding digest_of big_endian
digest-snoc [] x = refl
digest-snoc (y ∷ H) x =
    ap (λ (l : List ℕ). y / 2 ^ 24 % 256 ∷ y / 2 ^ 16 % 256 ∷ y / 2 ^ 8 % 256 ∷ y / 2 ^ 0 % 256 ∷ l) (digest-snoc H x)

word_bytes : (x : ℕ) → to_be_bytes w32 x ≡ big_endian 4 x
unfolding big_endian
word_bytes x = let e : x / 2 ^ 0 % 256 ≡ x % 256 = omega arith in cc

-- a word more of a digest
pub digest_more : (d H s : List ℕ) (i : ℕ) → i < length H → 4 * i + 4 ≤ length d → take (4 * i) d ≡ digest_of (take i H)
    → s ≡ to_be_bytes w32 (get_or H i 0) → take (4 * (i + 1)) (put_mid (4 * i) (4 * i + 4 - 4 * i) d s) ≡ digest_of (take (i + 1) H)
digest_more d H s i h l e q =
    let x = get_or H i 0 in
    let n : length s ≡ 4 = ap length q in
    take-put_mid (4 * i) _ d s (4 * (i + 1)) (omega arith) (omega arith)
    ∙ ap₂ {C = List ℕ} (λ u v. u ++ v) e (q ∙ word_bytes x)
    ∙ sym (digest-snoc (take i H) x)
    ∙ ap digest_of (sym (take-suc H i 0 h) ∙ ap (λ (m : ℕ). take m H) (sym (add-one i)))
