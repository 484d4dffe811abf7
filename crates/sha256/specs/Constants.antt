-- Why the constants are these: K has the first 32 bits of the fractional parts of the cube roots of the first 64 primes
-- (FIPS 180-4, 4.2.2), and the initial hash value those of the square roots of the first eight (5.3.3). Assumes nothing.
use Rattle.std.specs.Prelude.{◌≡◌, ℕ, zero, suc, ◌+◌, ◌-◌, ◌*◌, ◌%◌, ◌^◌, ◌<◌, ◌≤◌, Bool, true, false, cond, T, ltb, leb, List, [], ◌∷◌, ◌++◌, length, ◌==◌, nat_le, nat_lt, slice_index, refl}
use Rattle.std.proofs.Common.{le_of_suc-le-suc, not-suc-le-zero, leb→le, ltb→lt}
use Rattle.sha256.specs.Sha256.{K, initial}

-- a test and a test
abbrev both : Bool → Bool → Bool
both true b = b
both false b = false

both_left : (a b : Bool) → T (both a b) → T a
both_left true b t = tt
both_left false b t = t

both_right : (a b : Bool) → T (both a b) → T b
both_right true b t = t
both_right false b t = absurd t

-- none of 2 to d + 1 divides n
unfoldable pub undivided : ℕ → ℕ → Bool
undivided zero n = true
undivided (suc d) n = cond (n % (d + 2) == 0) false (undivided d n)

-- a number from 2 on that no number between 1 and itself divides
unfoldable pub is_prime : ℕ → Bool
is_prime n = cond (nat_lt n 2) false (undivided (n - 2) n)

-- the primes below n, in order
unfoldable pub primes : ℕ → List ℕ
primes zero = []
primes (suc n) = primes n ++ cond (is_prime n) (n ∷ []) []

-- k is the first 32 bits of the fractional part of the e-th root of p, which has the integer part `whole`:
-- whole + k / 2^32 ≤ root < whole + (k + 1) / 2^32
pub record Bits (e p k : ℕ) : Type 0 where
  pub whole : ℕ
  pub small : k < 2 ^ 32
  pub low : (whole * 2 ^ 32 + k) ^ e ≤ p * 2 ^ (32 * e)
  pub high : p * 2 ^ (32 * e) < (whole * 2 ^ 32 + k + 1) ^ e

-- the greatest number up to w whose e-th power is at most p
unfoldable pub root_up_to : ℕ → ℕ → ℕ → ℕ
root_up_to zero e p = 0
root_up_to (suc w) e p = cond (nat_le (suc w ^ e) p) (suc w) (root_up_to w e p)

-- the test of `Bits`
unfoldable pub are_bits : ℕ → ℕ → ℕ → Bool
are_bits e p k =
    let root = root_up_to p e p * 2 ^ 32 + k in
    both (nat_lt k (2 ^ 32)) (both (nat_le (root ^ e) (p * 2 ^ (32 * e))) (nat_lt (p * 2 ^ (32 * e)) ((root + 1) ^ e)))

-- the test at each prime and the constant in its place
unfoldable pub all_bits : ℕ → List ℕ → List ℕ → Bool
all_bits e [] [] = true
all_bits e [] (k ∷ ks) = false
all_bits e (p ∷ ps) [] = false
all_bits e (p ∷ ps) (k ∷ ks) = both (are_bits e p k) (all_bits e ps ks)

bits : (e p k : ℕ) → T (are_bits e p k) → Bits e p k
unfolding are_bits
bits e p k t =
    let w = root_up_to p e p in
    let r = w * 2 ^ 32 + k in
    let a = ltb k (2 ^ 32) in
    let b = leb (r ^ e) (p * 2 ^ (32 * e)) in
    let c = ltb (p * 2 ^ (32 * e)) ((r + 1) ^ e) in
    let t2 = both_right a (both b c) t in
    record {
      whole = w;
      small = ltb→lt k (2 ^ 32) (both_left a (both b c) t);
      low = leb→le (r ^ e) (p * 2 ^ (32 * e)) (both_left b c t2);
      high = ltb→lt (p * 2 ^ (32 * e)) ((r + 1) ^ e) (both_right b c t2);
    }

each : (e : ℕ) (ps ks : List ℕ) → T (all_bits e ps ks) → (t : ℕ) → t < length ks → Bits e (slice_index ps t) (slice_index ks t)
unfolding all_bits
each e [] [] h t l = absurd (not-suc-le-zero l)
each e [] (k ∷ ks) h t l = absurd h
each e (p ∷ ps) [] h t l = absurd h
each e (p ∷ ps) (k ∷ ks) h zero l = bits e p k (both_left (are_bits e p k) (all_bits e ps ks) h)
each e (p ∷ ps) (k ∷ ks) h (suc t) l = each e ps ks (both_right (are_bits e p k) (all_bits e ps ks) h) t (le_of_suc-le-suc l)

-- there are 64 primes below 312
pub primes-64 : length (primes 312) ≡ 64
unfolding primes is_prime undivided
primes-64 = refl

-- and eight below 20
pub primes-8 : length (primes 20) ≡ 8
unfolding primes is_prime undivided
primes-8 = refl

pub round-constants : (t : ℕ) → t < 64 → Bits 3 (slice_index (primes 312) t) (slice_index K t)
unfolding K primes is_prime undivided all_bits are_bits root_up_to
round-constants t l = each 3 (primes 312) K tt t l

pub initial-words : (i : ℕ) → i < 8 → Bits 2 (slice_index (primes 20) i) (slice_index initial i)
unfolding initial primes is_prime undivided all_bits are_bits root_up_to
initial-words i l = each 2 (primes 20) initial tt i l
