-- A session with a liar whose good parties hold a message of any length up to the greatest. Its plan is taken, and both good parties end with the message, whatever
-- bytes the liar sends that a plan has room for: over every hash that gives no two strings of their openings and path checks one value, and so with no premise on the hash over one that gives no two
-- strings at all one value, which is of 32 numbers and not of 32 bytes. The message stays a variable: nothing is worked out byte by byte. Assumes nothing.
use mathlib.Core.Path.{◌≡◌, refl, sym, ap, ap₂, ◌∙◌}
use mathlib.Core.Bool.{true, false, and-false}
use mathlib.Core.List.{List, [], ◌∷◌, ◌++◌, append-nil, append_assoc}
use mathlib.Core.Option.{some}
use Prim.Native.Nat.{ℕ, zero, suc, ◌+◌, ◌*◌, ◌≤◌}
use native.Mathlib.Omega.{arith}
use borrow.Author.Tests.{le-ltb, le-leb, eq-eqb}
use lib.ListN.{length, get_or, replicate}
use Rattle.limits.specs.Limits.{max_message, max_plan, parties, numbered, group_cause}
use Rattle.buffer.specs.Bounds.{Bytes}
use Rattle.buffer.specs.Entries.{size}
use Rattle.buffer.proofs.Entries.{entry-body}
use Rattle.merkle.proofs.Judged.{same_refl}
use Rattle.packet.specs.Format.{entry_of}
use Rattle.party.specs.State.{settled}
use Rattle.agreement.specs.Agreement.{Clean}
use Rattle.agreement.proofs.Instances.{each}
use Rattle.plan.specs.Layout.{session_of, holders, unnamed, every, walk, skip_entries, party_entry, books_fit, skip_block, field_bytes, books_in, laid_out}
use Rattle.plan.proofs.Blocks.{entry-skipped}
use Rattle.plan.proofs.Reading.{end-at, fine}
use Rattle.session.specs.Session.{message_of, agreed_bit, same_roots, same_bits, unlawful, session_cause, ends_with, good_party, good_parties}
use Rattle.session.specs.Session.{each_good, book_of}
use Rattle.session.proofs.Played.{one-result}
use Rattle.session.specs.Private.{first_root, first_bit}
use Rattle.session.proofs.Rule.{root-own, bit-own, bit-none, unlawful-vote}

-- party 3's block: what it sends to parties 1 and 2
abbrev pub block : List ℕ → List ℕ → List ℕ
block a b = 0 ∷ 3 ∷ (entry_of a ++ entry_of b)

-- n 3, t 1, no options; parties 1 and 2 are good, both with the message m; party 3 sends them a and b, then c and d
abbrev pub planned : (m a b c d : List ℕ) → List ℕ
planned m a b c d = 3 ∷ 1 ∷ 0 ∷ 0 ∷ 3 ∷ (entry_of m ++ (entry_of m ++ (block a b ++ block c d)))

-- a hash of 32 numbers: one from which the string can be told, and zeros
unfoldable pub shift : ℕ → ℕ → ℕ
shift zero y = 2 * y + 1
shift (suc x) y = 2 * shift x y

unfoldable pub code : List ℕ → ℕ
code [] = 0
code (x ∷ s) = suc (shift x (code s))

unfoldable pub plain : List ℕ → List ℕ
plain s = code s ∷ replicate 31 0

-- what stands behind two entries, and behind a block
skip-two : (p q r : List ℕ) → skip_entries 3 3 (entry_of p ++ (entry_of q ++ r)) ≡ some r
unfolding walk entry_of
skip-two p q r = rw (entry-skipped p (entry_of q ++ r)) (entry-skipped q r)

skip-block : (a b r : List ℕ) → skip_block 3 3 (block a b ++ r) ≡ some r
unfolding skip_block size every
skip-block a b r = rw (le-ltb (length (block a b ++ r)) 2 (omega arith), append_assoc (entry_of a) (entry_of b) r) (skip-two a b r)

module _ (m a b c d : List ℕ) where
  abbrev s : List ℕ
  s = planned m a b c d

  abbrev blocks : List ℕ
  blocks = block a b ++ block c d

  laid : laid_out s ≡ true
  unfolding size field_bytes walk holders
  laid =
      end-at 5 s (record { room = omega arith; known = omega arith; few = omega arith; there = refl }) blocks (skip-two m m blocks) blocks refl []
      (rw (skip-block a b (block c d)) (ap (skip_block 3 3) (sym (append-nil (block c d))) ∙ skip-block c d []))

  messages : (book_of s 1 ≡ m) × (book_of s 2 ≡ m)
  unfolding book_of holders party_entry numbered size field_bytes walk entry_of
  messages = (entry-body m (entry_of m ++ blocks), rw (entry-skipped m (entry_of m ++ blocks)) (entry-body m blocks))

  books-fit : length m ≤ max_message → books_fit 3 (holders s) (books_in s) ≡ true
  unfolding every book_of holders party_entry numbered size field_bytes walk
  books-fit short = rw (messages.0, messages.1, le-leb (length m) max_message short)

  module _ (short : length m ≤ max_message) (fits : length s ≤ max_plan) (H : List ℕ → List ℕ) where
    -- the agreed root and bit are those of party 1
    lawful : unlawful H s ≡ false
    unfolding unnamed size field_bytes
    lawful =
        unlawful-vote H s refl (bit-none s refl)
        (rw (root-own H s refl, same_refl (first_root H s)) (and-false (same_roots H s 3 1 (first_root H s))))
        ∙ rw (eq-eqb (agreed_bit H s) (first_bit H s) (bit-own H s refl)) (and-false (same_bits H s 3 1 (first_bit H s)))

    pub taken : session_cause H s ≡ 0
    unfolding session_cause parties group_cause size field_bytes
    taken = rw (fine s (omega arith) refl fits laid refl (books-fit short), lawful)

    pub settles : (wide : (x : List ℕ) → length (H x) ≡ 32) (bytes : Bytes s) → Clean H 0 3 1 (good_parties H s)
        → (ends_with H s 1 ≡ settled m) × (ends_with H s 2 ≡ settled m)
    unfolding each_good message_of session_of size field_bytes
    settles wide bytes clean =
        let r = one-result H wide s bytes taken clean in
        let e = r.1.agreed.common m (each (good_party H s 1) (good_party H s 2) (λ A. A.message ≡ m) messages.0 messages.1) in
        (r.1.lines 1 (omega arith) (omega arith) refl ∙ e, r.1.lines 2 (omega arith) (omega arith) refl ∙ e)

shift_same : (x y u v : ℕ) → shift x y ≡ shift u v → (x ≡ u) × (y ≡ v)
unfolding shift
shift_same zero y zero v e = (refl, omega arith)
shift_same zero y (suc u) v e = absurd (omega arith)
shift_same (suc x) y zero v e = absurd (omega arith)
shift_same (suc x) y (suc u) v e = let h = shift_same x y u v (omega arith) in (ap suc h.0, h.1)

code_same : (s r : List ℕ) → code s ≡ code r → s ≡ r
unfolding code
code_same [] [] e = refl
code_same [] (y ∷ r) e = absurd (omega arith)
code_same (x ∷ s) [] e = absurd (omega arith)
code_same (x ∷ s) (y ∷ r) e =
    let h = shift_same x (code s) y (code r) (omega arith) in
    ap₂ {C = List ℕ} (λ z l. z ∷ l) h.0 (code_same s r h.1)

-- no two strings have one hash
pub plain-same : (x y : List ℕ) → plain x ≡ plain y → x ≡ y
unfolding plain
plain-same x y e = code_same x y (ap (λ (l : List ℕ). get_or l 0 0) e)

pub longest : (m a b c d : List ℕ) → length m ≤ max_message → length (planned m a b c d) ≤ max_plan → Bytes (planned m a b c d)
    → (ends_with plain (planned m a b c d) 1 ≡ settled m) × (ends_with plain (planned m a b c d) 2 ≡ settled m)
unfolding plain
longest m a b c d short fits bytes = settles m a b c d short fits plain (λ x. refl) bytes (λ x y h k e. plain-same x y e)
