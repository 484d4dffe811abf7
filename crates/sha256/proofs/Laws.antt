-- What holds of every digest and of the padding, and what `hash` answers, for the crates above. Assumes nothing.
use Rattle.std.proofs.Common.{◌≡◌, ℕ, zero, suc, ◌+◌, ◌*◌, ◌/◌, ◌%◌, ◌<◌, ◌≤◌, List, [], ◌∷◌, length, replicate, refl, sym, ap, ◌∙◌, Result, Ok, Err, arith, length-append, le-ltb, lt-ltb}
use Rattle.std.specs.Prelude.{IsOk}
use Rattle.cause.specs.declared.Cause.{Cause}
use Rattle.cause.proofs.Numbers.{number-nonzero}
use Rattle.limits.specs.Limits.{max_hashed}
use Rattle.sha256.specs.Sha256.{zero_bits, big_endian, padding, pad, initial, sums, compress, hash_value, digest_of, sha256, Hashed, hashed, hash_of}
use Rattle.sha256.proofs.Blocks.{length-padding}

length-hash-value : (i : ℕ) (l : List ℕ) → length (hash_value initial i l) ≡ 8
unfolding hash_value initial compress sums
length-hash-value zero l = refl
length-hash-value (suc i) l = refl

length-digest : (H : List ℕ) → length (digest_of H) ≡ 4 * length H
unfolding digest_of big_endian
length-digest [] = refl
length-digest (x ∷ H) = let e = length-digest H in omega arith

-- a digest has 32 bytes
pub sha256-length : (m : List ℕ) → length (sha256 m) ≡ 32
unfolding sha256
sha256-length m =
    let n = length (pad m) / 64 in
    length-digest (hash_value initial n (pad m)) ∙ ap (λ (k : ℕ). 4 * k) (length-hash-value n (pad m))

-- 5.1.1: the number of zero bits is the least that solves l + 1 + k ≡ 448 modulo 512
pub zero-bits : (l : ℕ) → ((l + 1 + zero_bits l) % 512 ≡ 448) × (zero_bits l < 512)
zero-bits l = (omega arith, omega arith)

-- a padded message is whole blocks
pub pad-length : (m : List ℕ) → length (pad m) % 64 ≡ 0
unfolding pad
pad-length m = omega (arith, length-append m (padding (length m)), length-padding (length m))

-- what `hash` answers
pub hash-long : (m : List ℕ) → max_hashed < length m → hash_of m ≡ record { cause = 4; digest = replicate 32 0 }
unfolding hash_of
hash-long m h = simp lt-ltb

pub hash-fine : (m : List ℕ) → length m ≤ max_hashed → hash_of m ≡ record { cause = 0; digest = sha256 m }
unfolding hash_of
hash-fine m h = simp le-ltb

-- and what comes of it where a message is short enough
pub hash-ok : (r : Result (List ℕ) Cause) (m : List ℕ) → hashed r ≡ hash_of m → length m ≤ max_hashed → IsOk r
hash-ok (Ok d) m h short = refl
hash-ok (Err c) m h short = elim (number-nonzero c (ap (λ (x : Hashed). x.cause) (h ∙ hash-fine m short))) [ ]

pub hash-digest : (r : Result (List ℕ) Cause) (m d : List ℕ) → hashed r ≡ hash_of m → length m ≤ max_hashed → r ≡ Ok d → d ≡ sha256 m
hash-digest r m d h short e = ap (λ (x : Hashed). x.digest) (sym (ap hashed e) ∙ h ∙ hash-fine m short)
