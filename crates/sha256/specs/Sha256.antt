-- SHA-256 of a list of bytes, in the order and the letters of FIPS 180-4. Assumes nothing.
use Rattle.std.specs.Prelude.{ℕ, zero, suc, ◌+◌, ◌-◌, ◌*◌, ◌/◌, ◌%◌, ◌^◌, cond, List, [], ◌∷◌, ◌++◌, length, take, drop, replicate, bit_and, bit_or, bit_xor, nat_lt, slice_index, slice_index_or, Result, Ok, Err}
use Rattle.limits.specs.Limits.{max_hashed}
use Rattle.cause.specs.Cause.{number}
use Rattle.cause.specs.declared.Cause.{Cause}
use Rattle.sha256.specs.declared.Working.{Working}

-- 2.2.2 and 3.2: a word is a number below 2^32, and words are added modulo 2^32
infixl 72 ◌⊞◌
abbrev pub ◌⊞◌ : ℕ → ℕ → ℕ
x ⊞ y = (x + y) % 2 ^ 32

abbrev pub complement : ℕ → ℕ
complement x = (2 ^ 32 - 1) - x

abbrev pub SHR : ℕ → ℕ → ℕ
SHR n x = x / 2 ^ n

abbrev pub SHL : ℕ → ℕ → ℕ
SHL n x = (x * 2 ^ n) % 2 ^ 32

abbrev pub ROTR : ℕ → ℕ → ℕ
ROTR n x = bit_or (SHR n x) (SHL (32 - n) x)

-- 4.1.2: the functions
abbrev pub Ch : ℕ → ℕ → ℕ → ℕ
Ch x y z = bit_xor (bit_and x y) (bit_and (complement x) z)

abbrev pub Maj : ℕ → ℕ → ℕ → ℕ
Maj x y z = bit_xor (bit_xor (bit_and x y) (bit_and x z)) (bit_and y z)

abbrev pub Σ0 : ℕ → ℕ
Σ0 x = bit_xor (bit_xor (ROTR 2 x) (ROTR 13 x)) (ROTR 22 x)

abbrev pub Σ1 : ℕ → ℕ
Σ1 x = bit_xor (bit_xor (ROTR 6 x) (ROTR 11 x)) (ROTR 25 x)

abbrev pub σ0 : ℕ → ℕ
σ0 x = bit_xor (bit_xor (ROTR 7 x) (ROTR 18 x)) (SHR 3 x)

abbrev pub σ1 : ℕ → ℕ
σ1 x = bit_xor (bit_xor (ROTR 17 x) (ROTR 19 x)) (SHR 10 x)

-- 4.2.2: the constants K_t
unfoldable pub K : List ℕ
K =
    0x428a2f98 ∷ 0x71374491 ∷ 0xb5c0fbcf ∷ 0xe9b5dba5 ∷ 0x3956c25b ∷ 0x59f111f1 ∷ 0x923f82a4 ∷ 0xab1c5ed5
    ∷ 0xd807aa98 ∷ 0x12835b01 ∷ 0x243185be ∷ 0x550c7dc3 ∷ 0x72be5d74 ∷ 0x80deb1fe ∷ 0x9bdc06a7 ∷ 0xc19bf174
    ∷ 0xe49b69c1 ∷ 0xefbe4786 ∷ 0x0fc19dc6 ∷ 0x240ca1cc ∷ 0x2de92c6f ∷ 0x4a7484aa ∷ 0x5cb0a9dc ∷ 0x76f988da
    ∷ 0x983e5152 ∷ 0xa831c66d ∷ 0xb00327c8 ∷ 0xbf597fc7 ∷ 0xc6e00bf3 ∷ 0xd5a79147 ∷ 0x06ca6351 ∷ 0x14292967
    ∷ 0x27b70a85 ∷ 0x2e1b2138 ∷ 0x4d2c6dfc ∷ 0x53380d13 ∷ 0x650a7354 ∷ 0x766a0abb ∷ 0x81c2c92e ∷ 0x92722c85
    ∷ 0xa2bfe8a1 ∷ 0xa81a664b ∷ 0xc24b8b70 ∷ 0xc76c51a3 ∷ 0xd192e819 ∷ 0xd6990624 ∷ 0xf40e3585 ∷ 0x106aa070
    ∷ 0x19a4c116 ∷ 0x1e376c08 ∷ 0x2748774c ∷ 0x34b0bcb5 ∷ 0x391c0cb3 ∷ 0x4ed8aa4a ∷ 0x5b9cca4f ∷ 0x682e6ff3
    ∷ 0x748f82ee ∷ 0x78a5636f ∷ 0x84c87814 ∷ 0x8cc70208 ∷ 0x90befffa ∷ 0xa4506ceb ∷ 0xbef9a3f7 ∷ 0xc67178f2 ∷ []

-- 5.1.1: for a message of l bits k, the least number with l + 1 + k ≡ 448 modulo 512
abbrev pub zero_bits : ℕ → ℕ
zero_bits l = (447 + 512 - l % 512) % 512

-- 3.1: a number as n bytes, the highest first
unfoldable pub big_endian : ℕ → ℕ → List ℕ
big_endian zero x = []
big_endian (suc n) x = x / 2 ^ (8 * n) % 2 ^ 8 ∷ big_endian n x

-- what follows a message of n bytes: the bit 1, k bits 0 and l in 64 bits; 0x80 is the bit 1 and seven of the k bits
unfoldable pub padding : ℕ → List ℕ
padding n = let l = 8 * n in 0x80 ∷ (replicate (zero_bits l / 8) 0 ++ big_endian 8 l)

unfoldable pub pad : List ℕ → List ℕ
pad message = message ++ padding (length message)

-- 5.2.1: block i of a padded message, from 0; each has 512 bits
abbrev pub block : ℕ → List ℕ → List ℕ
block i padded = take 64 (drop (64 * i) padded)

-- and is sixteen words, M_0 to M_15
unfoldable pub word_at : List ℕ → ℕ → ℕ
word_at M t =
    slice_index M (4 * t) * 2 ^ 24 + slice_index M (4 * t + 1) * 2 ^ 16 + slice_index M (4 * t + 2) * 2 ^ 8 + slice_index M (4 * t + 3)

-- 5.3.3: the initial hash value
unfoldable pub initial : List ℕ
initial = 0x6a09e667 ∷ 0xbb67ae85 ∷ 0x3c6ef372 ∷ 0xa54ff53a ∷ 0x510e527f ∷ 0x9b05688c ∷ 0x1f83d9ab ∷ 0x5be0cd19 ∷ []

-- 6.2.2, step 1: W_t for t ≥ 16, of the words before it
abbrev pub later_word : ℕ → List ℕ → ℕ
later_word t W = σ1 (slice_index W (t - 2)) ⊞ slice_index_or W (t - 7) 0 ⊞ σ0 (slice_index W (t - 15)) ⊞ slice_index_or W (t - 16) 0

-- the words W_0 to W_(t-1) of the message schedule
unfoldable pub schedule : ℕ → List ℕ → List ℕ
schedule zero M = []
schedule (suc t) M = let W = schedule t M in W ++ (cond (nat_lt t 16) (word_at M t) (later_word t W) ∷ [])

-- step 2: the eight working variables
abbrev pub working : List ℕ → Working
working H =
    record {
      a = slice_index H 0;
      b = slice_index H 1;
      c = slice_index H 2;
      d = slice_index H 3;
      e = slice_index H 4;
      f = slice_index H 5;
      g = slice_index H 6;
      h = slice_index H 7;
    }

-- step 3: one round, with K_t and W_t
unfoldable pub round : ℕ → ℕ → Working → Working
round Kt Wt v =
    let T1 = v.h ⊞ Σ1 v.e ⊞ Ch v.e v.f v.g ⊞ Kt ⊞ Wt in
    let T2 = Σ0 v.a ⊞ Maj v.a v.b v.c in
    record { h = v.g; g = v.f; f = v.e; e = v.d ⊞ T1; d = v.c; c = v.b; b = v.a; a = T1 ⊞ T2 }

-- the first t rounds
unfoldable pub rounds : ℕ → List ℕ → Working → Working
rounds zero W v = v
rounds (suc t) W v = round (slice_index K t) (slice_index W t) (rounds t W v)

-- step 4
unfoldable pub sums : Working → List ℕ → List ℕ
sums v H =
    v.a ⊞ slice_index_or H 0 0 ∷ v.b ⊞ slice_index_or H 1 0 ∷ v.c ⊞ slice_index_or H 2 0 ∷ v.d ⊞ slice_index_or H 3 0
    ∷ v.e ⊞ slice_index_or H 4 0 ∷ v.f ⊞ slice_index_or H 5 0 ∷ v.g ⊞ slice_index_or H 6 0 ∷ v.h ⊞ slice_index_or H 7 0 ∷ []

-- the four steps: the hash value after the block M, from the one before it
unfoldable pub compress : List ℕ → List ℕ → List ℕ
compress H M = sums (rounds 64 (schedule 64 M) (working H)) H

-- 6.2.2: the hash value after i blocks, from H
unfoldable pub hash_value : List ℕ → ℕ → List ℕ → List ℕ
hash_value H zero padded = H
hash_value H (suc i) padded = compress (hash_value H i padded) (block i padded)

-- the message digest: the words of the last hash value, one behind the other
unfoldable pub digest_of : List ℕ → List ℕ
digest_of [] = []
digest_of (x ∷ H) = big_endian 4 x ++ digest_of H

unfoldable pub sha256 : List ℕ → List ℕ
sha256 message = let padded = pad message in digest_of (hash_value initial (length padded / 64) padded)

-- what the public functions answer: document 01's number of the cause for which a message was turned away, 0 if it was not; and its digest, or zeros
pub record Hashed : Type 0 where
  pub cause : ℕ
  pub digest : List ℕ

-- the answer that a result says
abbrev pub hashed : Result (List ℕ) Cause → Hashed
hashed (Ok d) = record { cause = 0; digest = d }
hashed (Err c) = record { cause = number c; digest = replicate 32 0 }

-- a message that is too long is cause 4
unfoldable pub hash_of : List ℕ → Hashed
hash_of message =
    cond (nat_lt max_hashed (length message)) (record { cause = 4; digest = replicate 32 0 }) (record { cause = 0; digest = sha256 message })
