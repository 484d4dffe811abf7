-- Writing and reading a packet are inverse: what is read of a written packet is its number, share and path, and bytes that are
-- read as a share are the one packet of what was read. By the tests of the definition, each of which is settled. Assumes nothing.
use mathlib.Core.Path.{◌≡◌, refl, sym, ap, ap₂, ◌∙◌}
use mathlib.Core.List.{List, [], ◌∷◌, ◌++◌, append-nil}
use Prim.Native.Nat.{ℕ, ◌+◌, ◌*◌, ◌/◌, ◌%◌, ◌<◌, ◌≤◌}
use native.Mathlib.Omega.{arith}
use lib.ListN.{length, take, drop, length-drop, take-append-drop}
use lib.Seq.{take_all, take-append_seam, drop-append_seam, drop-drop, length-take-le}
use Rattle.limits.specs.Limits.{max_share}
use Rattle.merkle.specs.Shares.{sides_of}
use Rattle.merkle.proofs.Sound.{Wide}
use Rattle.packet.specs.Format.{shared, chained, hashes, packet_of, read_of}
use Rattle.packet.specs.Format.{number_in, length_in, count_in}
use Rattle.buffer.specs.Bounds.{Bytes}
use Rattle.packet.proofs.Reading.{Readable, parts_of, readable-read, read-readable}
use Rattle.packet.proofs.Chain.{hashes-chained, chained-hashes}
use Rattle.packet.proofs.Parts.{packet-length}

pub written_read : (n number : ℕ) (share : List ℕ) (path : List (List ℕ)) → 1 ≤ number → number ≤ n → 1 ≤ length share
    → length share ≤ max_share → length path ≡ length (sides_of n number) → Wide 32 path
    → read_of n (packet_of number share path) ≡ shared number share path
unfolding packet_of
written_read n number share path first last some short long wide =
    let p : List ℕ = packet_of number share path in
    let r : List ℕ = share ++ chained path in
    let stated : length_in p ≡ length share = omega arith in
    let all : length p ≡ 4 + length share + 32 * length path = packet-length number share path wide in
    let s : Readable n p = record {
      heads = omega arith;
      map = refl;
      first = first;
      last = last;
      some = omega arith;
      short = omega arith;
      whole = omega arith;
    } in
    let ours : take (length_in p) r ≡ share = ap (λ (k : ℕ). take k r) stated ∙ take-append_seam share (chained path) in
    let rest : drop (4 + length_in p) p ≡ chained path ++ [] =
    sym (drop-drop (length_in p) 4 p)
    ∙ ap (λ (k : ℕ). drop k r) stated ∙ drop-append_seam share (chained path) ∙ sym (append-nil (chained path)) in
    let theirs : hashes (count_in n p) (drop (4 + length_in p) p) ≡ path =
    ap₂ hashes (sym long) rest ∙ hashes-chained path [] wide in
    readable-read n p s ∙ ap₂ (λ (x : List ℕ) (y : List (List ℕ)). shared number x y) ours theirs

-- the parts that are read, put together again
rejoined : (n : ℕ) (p : List ℕ) → Bytes p → Readable n p
    → packet_of (number_in p) (take (length_in p) (drop 4 p)) (hashes (count_in n p) (drop (4 + length_in p) p)) ≡ p
unfolding packet_of
rejoined n [] small s = absurd (omega (arith, s.heads))
rejoined n (a ∷ []) small s = absurd (omega (arith, s.heads))
rejoined n (a ∷ b ∷ []) small s = absurd (omega (arith, s.heads))
rejoined n (a ∷ b ∷ c ∷ []) small s = absurd (omega (arith, s.heads))
rejoined n (a ∷ b ∷ c ∷ d ∷ r) small s =
    let k : ℕ = c * 256 + d in
    let m : ℕ = length (sides_of n b) in
    let room : length r ≡ k + 32 * m = omega (arith, s.whole) in
    let ours : length (take k r) ≡ k = length-take-le k r (omega arith) in
    let left : length (drop k r) ≡ 32 * m = omega (arith, length-drop k r) in
    let byte : d < 256 = small 3 in
    let high : length (take k r) / 256 ≡ c = omega arith in
    let low : length (take k r) % 256 ≡ d = omega arith in
    let theirs : chained (hashes m (drop (4 + k) (a ∷ b ∷ c ∷ d ∷ r))) ≡ drop k r =
    ap (λ (l : List ℕ). chained (hashes m l)) (sym (drop-drop k 4 (a ∷ b ∷ c ∷ d ∷ r)))
    ∙ chained-hashes m (drop k r) (omega arith) ∙ take_all (32 * m) (drop k r) (omega arith) in
    ap₂ (λ (x y : ℕ). 0x07 ∷ b ∷ x ∷ y ∷ (take k r ++ chained (hashes m (drop (4 + k) (a ∷ b ∷ c ∷ d ∷ r))))) high low
    ∙ ap₂ (λ (x : ℕ) (l : List ℕ). x ∷ b ∷ c ∷ d ∷ (take k r ++ l)) (sym s.map) theirs
    ∙ ap (λ (l : List ℕ). a ∷ b ∷ c ∷ d ∷ l) (take-append-drop k r)

pub read-written : (n : ℕ) (p : List ℕ) (number : ℕ) (share : List ℕ) (path : List (List ℕ)) → Bytes p
    → read_of n p ≡ shared number share path → p ≡ packet_of number share path
read-written n p number share path small read =
    let t = read-readable n p number share path read in
    let e : parts_of n p ≡ shared number share path = t.1 in
    let x : number_in p ≡ number = cc in
    let y : take (length_in p) (drop 4 p) ≡ share = cc in
    let z : hashes (count_in n p) (drop (4 + length_in p) p) ≡ path = cc in
    sym (rejoined n p small t.0)
    ∙ ap (λ (i : ℕ). packet_of i (take (length_in p) (drop 4 p)) (hashes (count_in n p) (drop (4 + length_in p) p))) x
    ∙ ap₂ (packet_of number) y z
