-- The hash value of a padded message, from its whole blocks and from its padded end. Assumes nothing.
use Rattle.std.proofs.Common.{◌≡◌, ℕ, zero, suc, ◌+◌, ◌*◌, ◌/◌, ◌<◌, ◌≤◌, List, [], ◌++◌, length, get_or, take, drop, replicate, sym, refl, ap, ◌∙◌, ap₂, append_assoc, add-zero, add_comm, add-suc, mul_comm, mul-zero, mul-suc, mul-add, add-one, arith, length-append, length-drop, drop-drop, take_at, drop_at}
use lib.ListN.{length-replicate}
use lib.Seq.{take-append-le, drop-append-le}
use Rattle.sha256.specs.Sha256.{zero_bits, big_endian, padding, compress, hash_value, digest_of}
use Rattle.std.specs.Simd.{first_chunks}
use Rattle.sha256.specs.Rest.{digest_from}

-- chunk i of n elements, where it lies
pub chunk-at : (n k : ℕ) (s : List ℕ) (i : ℕ) (d : List ℕ) → i < k → get_or (first_chunks n k s) i d ≡ take n (drop (n * i) s)
chunk-at n zero s i d h = absurd (omega arith)
chunk-at n (suc k) s zero d h = ap (λ (m : ℕ). take n (drop m s)) (sym (mul-zero n))
chunk-at n (suc k) s (suc i) d h =
    chunk-at n k (drop n s) i d (omega arith) ∙ ap (take n) (drop-drop (n * i) n s ∙ ap (λ (m : ℕ). drop m s) (add_comm n (n * i) ∙ sym (mul-suc n i)))

-- a block more
pub blocks_more : (H s h r : List ℕ) (i : ℕ) → i < length s / 64 → h ≡ hash_value H i s
    → r ≡ compress h (get_or (first_chunks 64 (length s / 64) s) i []) → r ≡ hash_value H (i + 1) s
unfolding hash_value
blocks_more H s h r i l e q = rw add-one (q ∙ ap₂ compress e (chunk-at 64 (length s / 64) s i [] l))

-- the whole blocks of a string are those of the string with something behind it
whole : (H m x : List ℕ) (i : ℕ) → 64 * i ≤ length m → hash_value H i (m ++ x) ≡ hash_value H i m
unfolding hash_value
whole H m x zero h = refl
whole H m x (suc i) h =
    let p : 64 * i ≤ length m = omega arith in
    let q : 64 ≤ length (drop (64 * i) m) = simp length-drop (omega arith) in
    ap₂ compress (whole H m x i p) (ap (take 64) (drop-append-le (64 * i) m x p) ∙ take-append-le 64 (drop (64 * i) m) x q)

-- a blocks, and b blocks behind them
split : (H l : List ℕ) (a b : ℕ) → hash_value H (a + b) l ≡ hash_value (hash_value H a l) b (drop (64 * a) l)
unfolding hash_value
split H l a zero = rw add-zero
split H l a (suc b) =
    rw add-suc
    (ap₂ compress (split H l a b)
    (ap (take 64) (ap (λ (n : ℕ). drop n l) (mul-add 64 a b) ∙ sym (drop-drop (64 * b) (64 * a) l))))

pub length-padding : (n : ℕ) → length (padding n) ≡ 9 + zero_bits (8 * n) / 8
unfolding padding big_endian
length-padding n =
    let z = zero_bits (8 * n) / 8 in
    ap suc (length-append (replicate z 0) (big_endian 8 (8 * n)) ∙ ap (λ (k : ℕ). k + 8) (length-replicate z 0)) ∙ omega arith

-- the whole blocks of the end of a message, and then its padded rest
pub digest_parts : (H s l t h r : List ℕ) (n : ℕ) → l ≡ drop (length s / 64 * 64) s → h ≡ hash_value H (length s / 64) s → t ≡ l ++ padding n
    → r ≡ hash_value h (length t / 64) t → digest_of r ≡ digest_from H s n
unfolding digest_from
digest_parts H s l t h r n rest first tail last =
    let q = length s / 64 in
    let P = padding n in
    let p : 64 * q ≤ length s = omega arith in
    let at : l ≡ drop (64 * q) s = rest ∙ ap (λ (k : ℕ). drop k s) (mul_comm q 64) in
    let e : t ≡ drop (64 * q) (s ++ P) = rw (drop-append-le (64 * q) s P p) (tail ∙ ap (λ (x : List ℕ). x ++ P) at) in
    let c : length (s ++ P) / 64 ≡ q + length t / 64 = omega (arith, ap length e, length-drop (64 * q) (s ++ P), length-append s P) in
    sym
    (ap digest_of
    (ap (λ (j : ℕ). hash_value H j (s ++ P)) c ∙ split H (s ++ P) q (length t / 64)
    ∙ ap₂ (λ (x y : List ℕ). hash_value x (length t / 64) y) (whole H s P q p ∙ sym first) (sym e) ∙ sym last))

-- a first block, and what follows it
pub digest-block : (H b s : List ℕ) (n : ℕ) → length b ≡ 64 → digest_from H (b ++ s) n ≡ digest_from (compress H b) s n
unfolding digest_from hash_value
digest-block H b s n e =
    let l = s ++ padding n in
    let c : length (b ++ l) / 64 ≡ 1 + length l / 64 = omega (arith, length-append b l) in
    ap digest_of
    (ap (λ (m : List ℕ). hash_value H (length m / 64) m) (append_assoc b s (padding n))
    ∙ ap (λ (j : ℕ). hash_value H j (b ++ l)) c ∙ split H (b ++ l) 1 (length l / 64)
    ∙ ap₂ (λ (x r : List ℕ). hash_value (compress H x) (length l / 64) r) (take_at b l 64 e) (drop_at b l 64 e))
