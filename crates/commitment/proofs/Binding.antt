-- A message's root binds its shares and the message: a packet that passes under the root holds the message's share of its number, and two messages with
-- one root are one, each unless two different strings with one hash are at hand. For any hash of 32 bytes; by the laws of the coder and the
-- tree. Assumes nothing.
use mathlib.Core.Path.{◌≡◌, sym, ap, ◌∙◌, subst}
use mathlib.Core.Logic.{◌⊎◌, inl, inr}
use mathlib.Core.List.{List, [], Memᴰ}
use Prim.Native.Nat.{ℕ, ◌-◌, ◌*◌, ◌/◌, ◌≤◌}
use native.Mathlib.Omega.{arith}
use lib.ListN.{length, get_or, take, drop}
use Rattle.buffer.specs.Bounds.{Bytes}
use Rattle.erasure.specs.Coding.{share, shares}
use Rattle.erasure.proofs.Injective.{injective}
use Rattle.merkle.specs.Tree.{shape}
use Rattle.merkle.specs.Strings.{Collision}
use Rattle.merkle.specs.Shares.{leaf_strings, coding_strings, strings_of}
use Rattle.merkle.proofs.Shape.{size-shape}
use Rattle.merkle.proofs.Shares.{leaf_string-injective, length-leaf_strings, get_or-leaf_strings, tree-root}
use Rattle.merkle.proofs.Sound.{same-roots}
use Rattle.merkle.proofs.Trees.{passes-sound}
use Rattle.packet.specs.Class.{valid, class_of, class_strings}
use Rattle.packet.proofs.Reading.{fields-of, read_wide}
use Rattle.packet.proofs.Class.{passing}
use Rattle.commitment.specs.Commitment.{message_root}
use Rattle.commitment.specs.Private.{Coded}
use Rattle.commitment.proofs.Messages.{fine, cut}

-- what passes under a message's root
module _ (H : List ℕ → List ℕ) (wide : (s : List ℕ) → length (H s) ≡ 32) (session n t : ℕ) (m : List ℕ) (c : Coded n t m) (z : List ℕ)
    (e : message_root H session n t m ≡ z) where
  pub valid-share : (j : ℕ) (w x : List ℕ) (p : List (List ℕ)) → class_of H session n j z w ≡ valid x p
      → (x ≡ share (n - t) j m) ⊎ Collision H (class_strings H session n j w) (coding_strings H session n (shares n (n - t) m))
  unfolding message_root
  valid-share j w x p v =
      let q = passing H session n j z w x p v in
      let f = fields-of n w j x p q.reads in
      go f.low f.high q.strings
      (passes-sound H wide session n all (fine n t m c session) j f.low f.high x p (length p) (read_wide n w j x p q.reads) (rw e q.leads))
    where
      all : List ℕ
      all = shares n (n - t) m

      go : 1 ≤ j → j ≤ n → class_strings H session n j w ≡ strings_of H session n j x p (length p)
          → (x ≡ take (length all / n) (drop ((j - 1) * (length all / n)) all))
          ⊎ Collision H (strings_of H session n j x p (length p)) (coding_strings H session n all)
          → (x ≡ share (n - t) j m) ⊎ Collision H (class_strings H session n j w) (coding_strings H session n all)
      go first last s (inl q) = inl (q ∙ cut n t m c j first last)
      go first last s (inr k) = inr (subst (λ (l : List (List ℕ)). Collision H l (coding_strings H session n all)) (sym s) k)

-- two messages with one root
module _ (H : List ℕ → List ℕ) (wide : (s : List ℕ) → length (H s) ≡ 32) (session n t : ℕ) (m o : List ℕ) (c : Coded n t m) (d : Coded n t o)
    (mb : Bytes m) (ob : Bytes o) where
  same-leaves : leaf_strings session n (shares n (n - t) m) ≡ leaf_strings session n (shares n (n - t) o) → (j : ℕ) → 1 ≤ j → j ≤ n
      → share (n - t) j m ≡ share (n - t) j o
  same-leaves e j first last =
      sym (cut n t m c j first last)
      ∙ (leaf_string-injective session (sym (get_or-leaf_strings session n (shares n (n - t) m) (j - 1) (omega arith))
      ∙ ap (λ (l : List (List ℕ)). get_or l (j - 1) []) e ∙ get_or-leaf_strings session n (shares n (n - t) o) (j - 1) (omega arith))).1
      ∙ cut n t o d j first last

  pub one-root : message_root H session n t m ≡ message_root H session n t o
      → (m ≡ o) ⊎ Collision H (coding_strings H session n (shares n (n - t) m)) (coding_strings H session n (shares n (n - t) o))
  unfolding message_root coding_strings
  one-root e =
      go (same-roots H 32 wide (shape n) (leaf_strings session n (shares n (n - t) m)) (leaf_strings session n (shares n (n - t) o))
      (length-leaf_strings session n (shares n (n - t) m) ∙ sym (size-shape n c.low))
      (length-leaf_strings session n (shares n (n - t) o) ∙ sym (size-shape n c.low))
      (sym (tree-root H session n (shares n (n - t) m) (fine n t m c session) c.low c.high) ∙ e
      ∙ tree-root H session n (shares n (n - t) o) (fine n t o d session) c.low c.high))
    where
      go : (leaf_strings session n (shares n (n - t) m) ≡ leaf_strings session n (shares n (n - t) o))
          ⊎ Collision H (coding_strings H session n (shares n (n - t) m)) (coding_strings H session n (shares n (n - t) o))
          → (m ≡ o) ⊎ Collision H (coding_strings H session n (shares n (n - t) m)) (coding_strings H session n (shares n (n - t) o))
      go (inl q) =
          inl (injective (n - t) n m o (omega (arith, c)) (omega arith) (omega (arith, c)) mb ob c.short d.short (same-leaves q))
      go (inr k) = inr k

-- strings of which no two different ones have one hash; among such there is no collision
module _ (H : List ℕ → List ℕ) (P : List ℕ → Type 0) where
  abbrev pub CollisionFree : Type 0
  CollisionFree = (x y : List ℕ) → P x → P y → H x ≡ H y → x ≡ y

  pub no-collision : {A : Type 0} {xs ys : List (List ℕ)} → CollisionFree → ((s : List ℕ) → Memᴰ s xs → P s)
      → ((s : List ℕ) → Memᴰ s ys → P s) → A ⊎ Collision H xs ys → A
  no-collision free f g (inl a) = a
  no-collision free f g (inr k) =
      absurd (k.differ (free k.first k.second (f k.first k.first-in) (g k.second k.second-in) k.same))
