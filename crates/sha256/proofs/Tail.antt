-- The padded end of a message, as the code lays it into an array of zeros. Assumes nothing.
use Rattle.std.proofs.Common.{◌≡◌, ℕ, suc, ◌+◌, ◌-◌, ◌*◌, ◌/◌, ◌%◌, ◌^◌, List, ◌∷◌, ◌++◌, length, take, drop, set, replicate, sym, refl, ap, ◌∙◌, ap₂, append_assoc, arith, length-append, take_at, w64}
use Rattle.std.proofs.lemmas.List.{set_at, drop-replicate, length-replicate, replicate-append-replicate}
use Rattle.std.proofs.lemmas.Slice.{take-put_mid}
use borrow.Rule.Slice.PartMut.{put_mid}
use Rattle.std.specs.Int.{to_be_bytes}
use Rattle.sha256.specs.Sha256.{zero_bits, big_endian, padding}

length-bytes : (l : ℕ) → to_be_bytes w64 l ≡ big_endian 8 l
unfolding big_endian
length-bytes l = let e : l / 2 ^ 0 % 256 ≡ l % 256 = omega arith in cc

-- a string, and behind it the byte 0x80 among k + 1 zeros, of which z are taken
marked : (s : List ℕ) (z k : ℕ)
    → set (s ++ replicate (suc (z + k)) 0) (length s) 0x80 ≡ (s ++ (0x80 ∷ replicate z 0)) ++ replicate k 0
marked s z k =
    set_at s 0 (replicate (z + k) 0) 0x80 (length s) refl
    ∙ ap (λ (l : List ℕ). s ++ (0x80 ∷ l)) (sym (replicate-append-replicate z k 0))
    ∙ sym (append_assoc s (0x80 ∷ replicate z 0) (replicate k 0))

-- the string, that byte, zeros, and the length in bits before the place e
pub pad_end : (s t bits : List ℕ) (n e : ℕ) → length s ≡ n % 64 → e ≡ (n % 64 + 72) / 64 * 64 → t ≡ s → bits ≡ to_be_bytes w64 (8 * n)
    → take e (put_mid (e - 8) (e - (e - 8)) (set (t ++ drop (length s) (replicate 128 0)) (length s) 0x80) bits) ≡ s ++ padding n
unfolding padding
pad_end s t bits n e l f copied q =
    let z = zero_bits (8 * n) / 8 in
    let k = 128 - (e - 8) in
    let p = s ++ (0x80 ∷ replicate z 0) in
    let size : length p ≡ e - 8 = omega (arith, length-append s (0x80 ∷ replicate z 0), length-replicate {A = ℕ} z 0) in
    let eight : length bits ≡ 8 = ap length q in
    let left : 128 - length s ≡ suc (z + k) = omega arith in
    let zeros : drop {A = ℕ} (length s) (replicate 128 0) ≡ replicate (suc (z + k)) 0 =
    drop-replicate (length s) 128 0 ∙ ap (λ (m : ℕ). replicate m 0) left in
    rw (copied, zeros, marked s z k)
    (take-put_mid (e - 8) _ (p ++ replicate k 0) bits e (omega arith) (omega (arith, length-append p (replicate k 0)))
    ∙ ap₂ {C = List ℕ} (λ x y. x ++ y) (take_at p (replicate k 0) (e - 8) size) (q ∙ length-bytes (8 * n))
    ∙ append_assoc s (0x80 ∷ replicate z 0) (big_endian 8 (8 * n)))
