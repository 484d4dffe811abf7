-- A message has another root under another session number, or two different strings that were hashed for the two roots have one hash: already its first leaf
-- strings differ. That is said of one message. Two messages under two numbers may have the same leaf string and so one root, with no collision at all: the
-- second part computes two such. For any hash of 32 bytes, by the tree's law on session numbers. Assumes nothing.
use mathlib.Core.Path.{◌≡◌, refl, sym, ap, ◌∙◌}
use mathlib.Core.Logic.{◌⊎◌, inl, inr, ◌≢◌}
use mathlib.Core.Bool.{Bool, true, false, false≢true}
use mathlib.Core.List.{List, [], ◌∷◌}
use Prim.Native.Nat.{ℕ, ◌-◌, ◌^◌, ◌<◌}
use lib.ListN.{length}
use Rattle.limits.specs.Limits.{parties}
use Rattle.buffer.specs.Splice.{tabulate}
use Rattle.buffer.specs.Numbers.{four_bytes}
use Rattle.gf256.specs.Field.{times_x, product_of, product, power}
use Rattle.polynomial.specs.Polynomial.{sum, pow, value}
use Rattle.erasure.specs.Coding.{share_length, headed, frame, block, share_byte, share_of, share, shares}
use Rattle.merkle.specs.Tree.{shape_of, shape}
use Rattle.merkle.specs.Strings.{tree_strings, Collision}
use Rattle.merkle.specs.Hashes.{top_hash}
use Rattle.merkle.specs.Shares.{session_bytes, leaf_string, front_length, leaf_strings, shares_cause, same, leaves_of, root_of, coding_strings}
use Rattle.merkle.proofs.Judged.{same_true, same_refl}
use Rattle.merkle.proofs.Trees.{sessions-differ}
use Rattle.commitment.specs.Commitment.{message_root}
use Rattle.commitment.specs.Private.{Coded}
use Rattle.commitment.proofs.Messages.{fine}

-- one message under two numbers
module _ (H : List ℕ → List ℕ) (wide : (s : List ℕ) → length (H s) ≡ 32) (s r n t : ℕ) (m : List ℕ) (c : Coded n t m) (small : s < 2 ^ 32)
    (little : r < 2 ^ 32) (apart : s ≢ r) where
  abbrev Collides : Type 0
  Collides = Collision H (coding_strings H s n (shares n (n - t) m)) (coding_strings H r n (shares n (n - t) m))

  pub one-root-collides : message_root H s n t m ≡ message_root H r n t m → Collides
  unfolding message_root
  one-root-collides e = sessions-differ H wide s r n (shares n (n - t) m) (fine n t m c s) (fine n t m c r) small little apart e

  pub roots-differ : (message_root H s n t m ≢ message_root H r n t m) ⊎ Collides
  roots-differ = go (same z w) refl
    where
      z : List ℕ
      z = message_root H s n t m

      w : List ℕ
      w = message_root H r n t m

      go : (b : Bool) → same z w ≡ b → (z ≢ w) ⊎ Collides
      go true e = inr (one-root-collides (same_true z w e))
      go false e = inl (λ q. false≢true (sym e ∙ ap (same z) (sym q) ∙ same_refl z))

-- one party: the empty message in the session with number 0x0100047F, and this one in the session with number 0
abbrev pub behind : List ℕ
behind = 0x7F ∷ 0x01 ∷ 0x00 ∷ 0x00 ∷ []

abbrev pub the_string : List ℕ
the_string = 0x00 ∷ 0x01 ∷ 0x00 ∷ 0x04 ∷ 0x7F ∷ 0x01 ∷ 0x00 ∷ 0x00 ∷ []

-- for each one string is hashed, and it is the same
pub empty-string : (H : List ℕ → List ℕ) → coding_strings H 0x0100047F 1 (shares 1 1 []) ≡ the_string ∷ []
unfolding coding_strings tree_strings leaf_strings leaf_string session_bytes four_bytes tabulate shape_of shape share_length headed frame block share_byte share_of share shares sum pow value times_x product_of product power
empty-string H = refl

pub behind-string : (H : List ℕ → List ℕ) → coding_strings H 0 1 (shares 1 1 behind) ≡ the_string ∷ []
unfolding coding_strings tree_strings leaf_strings leaf_string session_bytes four_bytes tabulate shape_of shape share_length headed frame block share_byte share_of share shares sum pow value times_x product_of product power
behind-string H = refl

-- so they have one root, whatever the hash
pub two-messages : (H : List ℕ → List ℕ) → message_root H 0x0100047F 1 0 [] ≡ message_root H 0 1 0 behind
unfolding message_root root_of top_hash leaves_of shares_cause front_length parties leaf_strings leaf_string session_bytes four_bytes tabulate shape_of shape share_length headed frame block share_byte share_of share shares sum pow value times_x product_of product power
two-messages H = refl
