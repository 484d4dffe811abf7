-- The packet with a share of a message: it is read back and passes under the message's root, and no packet that passes with the message's share is
-- longer than demand 3 counts for it. For any hash of 32 bytes; by the laws of the tree and of packets. Assumes nothing.
use mathlib.Core.Path.{◌≡◌, subst}
use mathlib.Core.Bool.{true}
use mathlib.Core.List.{List}
use Prim.Native.Nat.{ℕ, ◌+◌, ◌-◌, ◌*◌, ◌≤◌}
use native.Mathlib.Omega.{arith}
use lib.ListN.{length}
use lib.Seq.{take-take}
use Rattle.erasure.specs.Coding.{share_length, share, shares}
use Rattle.erasure.proofs.Frame.{length-share}
use Rattle.merkle.specs.Height.{height}
use Rattle.merkle.specs.Shares.{leaves_of, sides_of, path_of, passes}
use Rattle.merkle.proofs.Shape.{sides-height}
use Rattle.merkle.proofs.Trees.{path-passes}
use Rattle.packet.specs.Format.{shared, read_of}
use Rattle.packet.specs.Class.{valid, class_of}
use Rattle.packet.proofs.Inverse.{written_read}
use Rattle.packet.proofs.Reading.{fields-of}
use Rattle.packet.proofs.Class.{passing, passes-valid}
use Rattle.commitment.specs.Commitment.{message_root, packet_with}
use Rattle.commitment.specs.Private.{Coded}
use Rattle.commitment.proofs.Messages.{share-there, share-fits, fine, cut, path_to, path-count, path-each}

module _ (H : List ℕ → List ℕ) (wide : (s : List ℕ) → length (H s) ≡ 32) (session n t : ℕ) (m : List ℕ) (c : Coded n t m) (j : ℕ) (first : 1 ≤ j)
    (last : j ≤ n) where
  abbrev up : List (List ℕ)
  up = path_to H wide session n t m c j first last

  counted : length up ≡ length (sides_of n j)
  counted = path-count H wide session n t m c j first last

  reads : read_of n (packet_with H session n t m j) ≡ shared j (share (n - t) j m) up
  reads =
      written_read n j (share (n - t) j m) up first last (share-there n t m c j)
      (omega (arith, length-share (n - t) j m, share-fits n t m c)) counted (path-each H wide session n t m c j first last)

  leads : passes H session n j (share (n - t) j m) up (length up) (message_root H session n t m) ≡ true
  unfolding message_root passes
  leads =
      let all : List ℕ = shares n (n - t) m in
      let p = path-passes H wide session n all (fine n t m c session) j first last in
      let q = subst (λ (x : List ℕ). passes H session n j x (path_of H n j (leaves_of H session n all)) (length (sides_of n j)) (message_root H session n t m) ≡ true)
      (cut n t m c j first last) p in
      rw (counted, take-take (length (sides_of n j)) (length (sides_of n j)) (path_of H n j (leaves_of H session n all)) (omega arith)) q

  pub packet-valid : (z : List ℕ) → message_root H session n t m ≡ z → class_of H session n j z (packet_with H session n t m j) ≡ valid (share (n - t) j m) up
  packet-valid z e =
      subst (λ (y : List ℕ). class_of H session n j y (packet_with H session n t m j) ≡ valid (share (n - t) j m) up) e
      (passes-valid H session n j (message_root H session n t m) (packet_with H session n t m j) (share (n - t) j m) up reads leads)

-- how long a packet is that passes, under whatever root, with share j of a message
pub valid-length : (H : List ℕ → List ℕ) (session n t : ℕ) (m : List ℕ) (j : ℕ) (z w : List ℕ) (p : List (List ℕ))
    → class_of H session n j z w ≡ valid (share (n - t) j m) p → length w ≤ 4 + share_length (n - t) (length m) + 32 * height n
valid-length H session n t m j z w p e =
    let f = fields-of n w j (share (n - t) j m) p (passing H session n j z w (share (n - t) j m) p e).reads in
    omega (arith, f.whole, f.counted, sides-height n (j - 1) (omega (arith, f.low, f.high)), length-share (n - t) j m)
