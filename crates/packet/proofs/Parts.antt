-- A packet and an entry as they are put together in a buffer, and how long they are. By the laws of writing into a buffer.
-- Assumes nothing.
use mathlib.Core.Path.{◌≡◌, refl, sym, ap, ◌∙◌}
use mathlib.Core.List.{List, [], ◌∷◌, ◌++◌, append_assoc}
use Prim.Native.Nat.{ℕ, ◌+◌, ◌*◌, ◌/◌, ◌%◌, ◌≤◌}
use native.Mathlib.Omega.{arith}
use lib.ListN.{length, length-append}
use Rattle.std.specs.List.{flat_map}
use Rattle.limits.specs.Limits.{max_entry}
use Rattle.buffer.specs.Splice.{spliced, put_of}
use Rattle.buffer.proofs.Splice.{put-fits, spliced-more, length-spliced}
use Rattle.merkle.proofs.Sound.{Wide}
use Rattle.packet.specs.Private.{laid}
use Rattle.packet.specs.Format.{chained, packet_of, entry_of}
use Rattle.packet.proofs.Chain.{length-chained, chained_flat}

pub packet-length : (number : ℕ) (share : List ℕ) (path : List (List ℕ)) → Wide 32 path
    → length (packet_of number share path) ≡ 4 + length share + 32 * length path
unfolding packet_of
packet-length number share path z = omega (arith, length-append share (chained path), length-chained path z)

pub entry-length : (p : List ℕ) → length (entry_of p) ≡ 2 + length p
unfolding entry_of
entry-length p = omega arith

-- a packet and an entry, with their path's bytes as they stand one behind the other
pub packet-laid : (number : ℕ) (share flat : List ℕ) (path : List (List ℕ)) → flat ≡ flat_map (λ x. x) path
    → laid number share flat ≡ packet_of number share path
unfolding packet_of
packet-laid number share flat path e = ap (laid number share) (e ∙ chained_flat path)

pub entry-laid : (number size : ℕ) (share flat : List ℕ) (path : List (List ℕ)) → flat ≡ flat_map (λ x. x) path
    → size ≡ 4 + length share + length flat → size ≤ max_entry
    → (size / 256 % 256 ∷ size % 256 ∷ []) ++ laid number share flat ≡ entry_of (packet_of number share path)
unfolding entry_of
entry-laid number size share flat path e long short =
    let all : size ≡ length (laid number share flat) = omega (arith, length-append share flat) in
    let high : size / 256 % 256 ≡ size / 256 = omega arith in
    ap (λ (x : ℕ). x ∷ size % 256 ∷ laid number share flat) high
    ∙ ap (λ (k : ℕ). k / 256 ∷ k % 256 ∷ laid number share flat) all
    ∙ ap entry_of (packet-laid number share flat path e)

-- what is put behind what stands at the start of a buffer
pub put-more : (o a b : List ℕ) (k : ℕ) → k ≡ length a → k + length b ≤ length o → put_of (spliced o 0 a) k b ≡ spliced o 0 (a ++ b)
put-more o a b k e h =
    let here : k ≡ 0 + length a = omega arith in
    put-fits (spliced o 0 a) k b (omega (arith, length-spliced o 0 a (omega arith)))
    ∙ ap (λ (i : ℕ). spliced (spliced o 0 a) i b) here
    ∙ spliced-more o 0 a b (omega arith)

pub put-laid : (o front share path : List ℕ) (number : ℕ) → length share ≤ max_entry → length front + 4 + length share + length path ≤ length o
    → (let head = 0x07 ∷ number ∷ length share / 256 % 256 ∷ length share % 256 ∷ [] in
    put_of (put_of (put_of (put_of o 0 front) (length front) head) (length front + 4) share) (length front + 4 + length share) path)
    ≡ spliced o 0 (front ++ laid number share path)
put-laid o front share path number short room =
    let head : List ℕ = 0x07 ∷ number ∷ length share / 256 % 256 ∷ length share % 256 ∷ [] in
    let high : length share / 256 % 256 ≡ length share / 256 = omega arith in
    let two : length (front ++ head) ≡ length front + 4 = omega (arith, length-append front head) in
    let three : length ((front ++ head) ++ share) ≡ length front + 4 + length share = omega (arith, length-append (front ++ head) share) in
    ap (λ (d : List ℕ). put_of (put_of (put_of d (length front) head) (length front + 4) share) (length front + 4 + length share) path)
    (put-fits o 0 front (omega arith))
    ∙ ap (λ (d : List ℕ). put_of (put_of d (length front + 4) share) (length front + 4 + length share) path)
    (put-more o front head (length front) refl (omega arith))
    ∙ ap (λ (d : List ℕ). put_of d (length front + 4 + length share) path)
    (put-more o (front ++ head) share (length front + 4) (sym two) (omega arith))
    ∙ put-more o ((front ++ head) ++ share) path (length front + 4 + length share) (sym three) (omega arith)
    ∙ ap (spliced o 0) (simp append_assoc)
    ∙ ap (λ (x : ℕ). spliced o 0 (front ++ (0x07 ∷ number ∷ x ∷ length share % 256 ∷ (share ++ path)))) high
