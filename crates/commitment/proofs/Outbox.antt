-- Laws of the outbox of step 3, for any hash: the entries for parties 1 to k, one behind the other, as they are written and counted. An
-- entry is told by whether its number is the own one, and the outbox by induction on k. Assumes nothing.
use mathlib.Core.Path.{◌≡◌, refl, sym, ap, ◌∙◌}
use mathlib.Core.Bool.{true≢false}
use mathlib.Core.List.{List, [], ◌∷◌, ◌++◌}
use Prim.Native.Nat.{ℕ, zero, suc, ◌+◌, ◌-◌, ◌≤◌, ◌<◌}
use native.Mathlib.Nat.{add-zero, zero-add}
use native.Mathlib.Numerals.{add-one}
use native.Mathlib.Omega.{arith}
use borrow.Author.Tests.{eq-eqb, ne_eqb}
use lib.ListN.{length, take, length-append}
use Rattle.limits.specs.Limits.{max_parties, max_share}
use Rattle.limits.proofs.Ranges.{numbered_within}
use Rattle.buffer.specs.Splice.{spliced}
use Rattle.buffer.proofs.Splice.{spliced-more}
use Rattle.buffer.specs.Given.{gave, written}
use Rattle.buffer.specs.Given as goal
use Rattle.buffer.proofs.Given.{written-done}
use Rattle.merkle.specs.Shares.{sides_of, path_of, path_length_of}
use Rattle.std.specs.Prelude.{Result, Ok, Err, IsOk}
use Rattle.cause.specs.Cause.{number}
use Rattle.cause.specs.declared.Cause.{Cause}
use Rattle.merkle.specs.Answer.{count_said, counted}
use Rattle.merkle.specs.Answer.{Counted}
use Rattle.merkle.specs.Answer.{Uncounted}
use Rattle.packet.specs.Format.{packet_of, entry_of}
use Rattle.packet.specs.Answer.{write_entry_of}
use Rattle.packet.proofs.Reading.{count-refused}
use Rattle.packet.proofs.Writing.{cause-fine, entry-written}
use Rattle.commitment.specs.Private.{entry_with, entry_for, outbox_up_to}

-- a party's number is never refused a path
pub never-refused : (n j : ℕ) → 1 ≤ n → n ≤ max_parties → 1 ≤ j → j ≤ n
    → (r : Counted) → counted r ≡ path_length_of n j → (k : ℕ) → r ≡ Uncounted k → ⊥
never-refused n j low high first last r told k e =
    true≢false (sym (numbered_within n j first last) ∙ count-refused n j low high r told k e)

pub path-counts : (n j : ℕ) → 1 ≤ n → n ≤ max_parties → 1 ≤ j → j ≤ n → (r : Result ℕ Cause) → counted (count_said r) ≡ path_length_of n j → IsOk r
path-counts n j low high first last (Ok k) told = refl
path-counts n j low high first last (Err c) told = absurd (never-refused n j low high first last (count_said (Err c)) told (number c) refl)

module _ (H : List ℕ → List ℕ) where
  -- an entry
  module _ (n own : ℕ) (leaves : List (List ℕ)) (j : ℕ) (share : List ℕ) where
    pub entry-own : j ≡ own → entry_with H n own leaves j share ≡ 0 ∷ 0 ∷ []
    unfolding entry_with entry_of
    entry-own e = rw (eq-eqb j own e)

    pub entry_other : (j ≡ own → ⊥) → entry_with H n own leaves j share
        ≡ entry_of (packet_of j share (take (length (sides_of n j)) (path_of H n j leaves)))
    unfolding entry_with
    entry_other e = rw (ne_eqb j own e)

    -- what the packet writer gives for party j, where its entry has room
    module _ (low : 1 ≤ n) (high : n ≤ max_parties) (first : 1 ≤ j) (last : j ≤ n) (some : 1 ≤ length share) (short : length share ≤ max_share)
        (other : j ≡ own → ⊥) where
      pub entry_done : (count : ℕ) → count ≡ length (sides_of n j) → (out : List ℕ) → length (entry_with H n own leaves j share) ≤ length out
          → write_entry_of n j share (path_of H n j leaves) count out
          ≡ gave (goal.Done (length (entry_with H n own leaves j share))) (spliced out 0 (entry_with H n own leaves j share))
      entry_done count e out room =
          let fine = cause-fine n j (length share) count low high first last some short e in
          entry-written n j share (path_of H n j leaves) count out fine
          ∙ ap (λ (l : List ℕ). written l out)
          (ap (λ (k : ℕ). entry_of (packet_of j share (take k (path_of H n j leaves)))) e ∙ sym (entry_other other))
          ∙ written-done (entry_with H n own leaves j share) out room

  -- the outbox
  module _ (n own s : ℕ) (shares : List ℕ) (leaves : List (List ℕ)) where
    pub outbox-none : outbox_up_to H 0 n own s shares leaves ≡ []
    unfolding outbox_up_to
    outbox-none = refl

    outbox-more : (k : ℕ)
        → outbox_up_to H (k + 1) n own s shares leaves ≡ outbox_up_to H k n own s shares leaves ++ entry_for H n own s shares leaves (k + 1)
    unfolding outbox_up_to
    outbox-more k =
        ap (λ (m : ℕ). outbox_up_to H m n own s shares leaves) (add-one k)
        ∙ ap (λ (m : ℕ). outbox_up_to H k n own s shares leaves ++ entry_for H n own s shares leaves m) (sym (add-one k))

    pub outbox-length : (k : ℕ)
        → length (outbox_up_to H (k + 1) n own s shares leaves)
        ≡ length (outbox_up_to H k n own s shares leaves) + length (entry_for H n own s shares leaves (k + 1))
    outbox-length k =
        ap length (outbox-more k) ∙ length-append (outbox_up_to H k n own s shares leaves) (entry_for H n own s shares leaves (k + 1))

    pub outbox-grows : (k m : ℕ) → length (outbox_up_to H k n own s shares leaves) ≤ length (outbox_up_to H (k + m) n own s shares leaves)
    unfolding outbox_up_to
    outbox-grows k zero = omega (arith, ap (λ (i : ℕ). length (outbox_up_to H i n own s shares leaves)) (add-zero k))
    outbox-grows k (suc m) =
        let next : k + suc m ≡ suc (k + m) = omega arith in
        omega (
          arith,
          outbox-grows k m,
          ap (λ (i : ℕ). length (outbox_up_to H i n own s shares leaves)) next,
          length-append (outbox_up_to H (k + m) n own s shares leaves) (entry_for H n own s shares leaves (suc (k + m))),
        )

    -- where all have room, one more has room behind those that were written
    pub outbox_room : (k len : ℕ) → k < n → length (outbox_up_to H n n own s shares leaves) ≤ len
        → length (outbox_up_to H k n own s shares leaves) + length (entry_for H n own s shares leaves (k + 1)) ≤ len
    outbox_room k len l h =
        let rest : k + 1 + (n - (k + 1)) ≡ n = omega arith in
        omega (
          arith,
          ap (λ (i : ℕ). length (outbox_up_to H i n own s shares leaves)) rest,
          outbox-grows (k + 1) (n - (k + 1)),
          outbox-length k,
        )

    -- one entry more behind those that were written
    pub outbox-spliced : (o : List ℕ) (k at : ℕ) → at ≡ length (outbox_up_to H k n own s shares leaves) → at ≤ length o
        → spliced (spliced o 0 (outbox_up_to H k n own s shares leaves)) at (entry_for H n own s shares leaves (k + 1))
        ≡ spliced o 0 (outbox_up_to H (k + 1) n own s shares leaves)
    outbox-spliced o k at e h =
        let before : List ℕ = outbox_up_to H k n own s shares leaves in
        let entry : List ℕ = entry_for H n own s shares leaves (k + 1) in
        ap (λ (i : ℕ). spliced (spliced o 0 before) i entry) (e ∙ sym (zero-add (length before)))
        ∙ spliced-more o 0 before entry (omega arith)
        ∙ ap (spliced o 0) (sym (outbox-more k))
