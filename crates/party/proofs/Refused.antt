-- A step that is refused for a cause of the code's gives what the definition gives for the cause's number, for any hash. Assumes nothing.
use Rattle.std.proofs.Common.{◌≡◌, ◌≢◌, List, [], ℕ, length, sym, ap, ◌∙◌}
use Rattle.cause.specs.Cause.{number}
use Rattle.cause.specs.declared.Cause.{Cause}
use Rattle.cause.proofs.Numbers.{number-nonzero}
use Rattle.party.specs.Steps.{open_cause, refused_opening, open_of, refused, root_cause, agree_root_of, bit_cause, agree_bit_of, inbox_cause, take_shares_of, relays_cause, take_relays_of}
use Rattle.party.specs.Sender.{sender_cause, refused_by, open_by_sender_of}
use Rattle.party.specs.declared.Party.{Party}
use Rattle.party.proofs.Outcomes.{open-refused, root-refused, bit-refused, shares-refused, relays-refused}
use Rattle.party.proofs.Sender.{begun-refused}

module _ (H : List ℕ → List ℕ) (c : Cause) where
  some : (k : ℕ) → number c ≡ k → k ≢ 0
  some k e z = number-nonzero c (e ∙ z)

  pub refused-open : (session n t own : ℕ) (m : List ℕ) → number c ≡ open_cause n t own (length m) → refused_opening (number c) ≡ open_of H session n t own m
  refused-open session n t own m e = ap refused_opening e ∙ sym (open-refused H session n t own m (some (open_cause n t own (length m)) e))

  pub refused-sender : (session n t own sender : ℕ) (bs out : List ℕ) → number c ≡ sender_cause n t own sender bs
      → refused_by (number c) 0 out ≡ open_by_sender_of H session n t own sender bs out
  refused-sender session n t own sender bs out e =
      ap (λ (k : ℕ). refused_by k 0 out) e ∙ sym (begun-refused n t own sender bs H session out (some (sender_cause n t own sender bs) e))

  module _ (x : Party) where
    pub refused-root : (z : List ℕ) → number c ≡ root_cause x z → refused x (number c) [] ≡ agree_root_of H x z
    refused-root z e = ap (λ (k : ℕ). refused x k []) e ∙ sym (root-refused H x z (some (root_cause x z) e))

    pub refused-bit : (bit : ℕ) (out : List ℕ) → number c ≡ bit_cause x bit → refused x (number c) out ≡ agree_bit_of H x bit out
    refused-bit bit out e = ap (λ (k : ℕ). refused x k out) e ∙ sym (bit-refused H x bit out (some (bit_cause x bit) e))

    pub refused-shares : (inbox out : List ℕ) → number c ≡ inbox_cause 4 x inbox → refused x (number c) out ≡ take_shares_of H x inbox out
    refused-shares inbox out e = ap (λ (k : ℕ). refused x k out) e ∙ sym (shares-refused H x inbox out (some (inbox_cause 4 x inbox) e))

    pub refused-relays : (inbox out : List ℕ) → number c ≡ relays_cause x inbox → refused x (number c) out ≡ take_relays_of H x inbox out
    refused-relays inbox out e = ap (λ (k : ℕ). refused x k out) e ∙ sym (relays-refused H x inbox out (some (relays_cause x inbox) e))
