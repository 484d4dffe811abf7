-- What an opening by a named sender gives that is not refused: the ordinary opening, with what was written for the others. By cases of the opening's answer.
-- Assumes nothing.
use Rattle.std.proofs.Common.{◌≡◌, ◌≢◌, List, [], ℕ, ◌+◌, ◌≤◌, ◌<◌, length, Result, Ok, Err, refl, sym, ap, ◌∙◌, arith}
use mathlib.Core.Path.{ap₂}
use native.Mathlib.Decide.{dec_lt}
use Rattle.cause.specs.declared.Cause.{Cause}
use Rattle.cause.specs.declared.Refusal.{Refusal}
use Rattle.cause.specs.declared.Refusal.TheVariants as refusal
use Rattle.cause.proofs.Numbers.{number-nonzero}
use Rattle.limits.specs.Limits.{max_message}
use Rattle.buffer.specs.Splice.{spliced}
use Rattle.cause.specs.Cause.{number}
use Rattle.buffer.specs.Given.{Given, said, gave, Refused, Short, Done}
use Rattle.merkle.specs.Answer.{root_said}
use Rattle.packet.specs.Message.{message_packet, write_message_of}
use Rattle.packet.proofs.Messages.{packet-length, write-short, write_done}
use Rattle.commitment.proofs.Opening.{open-bounds}
use Rattle.party.specs.Answer.{Opened, opened, opened_by, value_by}
use Rattle.party.specs.State.{blank_state}
use Rattle.party.specs.Steps.{open_of}
use Rattle.party.specs.Sender.{message_by, packet_by, sender_cause, Begun, begun, refused_by, open_by_sender_of}
use Rattle.party.specs.Private.{begun_with, with_length}
use Rattle.party.specs.declared.Opened.{Opened as Opening}
use Rattle.party.specs.declared.Party.{Party}
use Rattle.party.proofs.Outcomes.{open-given}
use Rattle.party.proofs.Sender.{sender-message, sender-packet, cause-bounds, begun-short, begun-given, begun-silent}

begun-opened : (x : Party) (r : Result (List ℕ) Cause) (l : ℕ) (left : List ℕ) → (root_said r).cause ≡ 0
    → ◌≡◌ {A = Begun} (record { opened = opened_by x (begun_with r l); value = value_by (begun_with r l); buffer = left })
    (record { opened = record { state = x; cause = (root_said r).cause; root = (root_said r).root }; value = l; buffer = left })
begun-opened x (Ok z) l left e = refl
begun-opened x (Err c) l left e = absurd (number-nonzero c e)

module _ (H : List ℕ → List ℕ) (session n t own sender : ℕ) (bs out : List ℕ) (fine : sender_cause n t own sender bs ≡ 0) where
  abbrev M : List ℕ
  M = message_by own sender bs

  abbrev P : List ℕ
  P = packet_by n own sender bs

  module _ (o : Opening) (is : opened o ≡ open_of H session n t own M) where
    begins : (l : ℕ) (left : List ℕ) → begun (with_length o l) left ≡ record { opened = open_of H session n t own M; value = l; buffer = left }
    begins l left =
        begun-opened o.state o.root l left (ap (λ (x : Opened). x.cause) (is ∙ open-given H session n t own M (cause-bounds n t own sender bs fine).0))
        ∙ ap {B = Begun} (λ (x : Opened). record { opened = x; value = l; buffer = left }) is

    -- a party that sends nothing
    pub silent : P ≡ [] → begun (with_length o 0) out ≡ open_by_sender_of H session n t own sender bs out
    silent p = begins 0 out ∙ sym (begun-silent n t own sender bs H session out fine p)

  -- the sender, where there are others: what came of writing its packet
  module _ (self : own ≡ sender) (others : n ≢ 1) where
    short : length bs ≤ max_message
    short = omega (arith, (open-bounds n t own _ (cause-bounds n t own sender bs fine).0).3, ap length (sender-message own sender bs self))

    is-packet : P ≡ message_packet bs
    is-packet = sender-packet own sender bs n self others

    size : length P ≡ 3 + length bs
    size = ap length is-packet ∙ packet-length bs

    module _ (left : List ℕ) where
      pub sent-all : (o : Opening) → opened o ≡ open_of H session n t own M → (k : ℕ) → gave (Done k) left ≡ write_message_of bs out
          → begun (with_length o k) left ≡ open_by_sender_of H session n t own sender bs out
      sent-all o is k told = elim (dec_lt (length out) (3 + length bs)) [
        | yes l ↦ let e : Done k ≡ Short (3 + length bs) = ap (λ (g : Given). g.answer) (told ∙ write-short bs out short l) in absurd cc
        | no d ↦ let q = told ∙ write_done bs out short (omega arith) in
            begins o is k left
            ∙ ap₂ {C = Begun} (λ (v : ℕ) (b : List ℕ). record { opened = open_of H session n t own M; value = v; buffer = b })
            (ap (λ (g : Given). g.value) q ∙ sym size) (ap (λ (g : Given). g.buffer) q ∙ ap (spliced out 0) (sym is-packet))
            ∙ sym (begun-given n t own sender bs H session out fine (omega (arith, size)))
      ]

      pub sent-none : (r : Refusal Cause) → gave (said (Err r)) left ≡ write_message_of bs out
          → begun (record { state = blank_state; answer = Err r }) left ≡ open_by_sender_of H session n t own sender bs out
      sent-none r told = elim (dec_lt (length out) (3 + length bs)) [
        | yes l ↦ short-of r (told ∙ write-short bs out short l) l
        | no d ↦ absurd (unlike r (ap (λ (g : Given). g.answer) (told ∙ write_done bs out short (omega arith))))
      ]
        where
          unlike : (r : Refusal Cause) → said (Err r) ≡ Done (3 + length bs) → ⊥
          unlike (refusal.Because c) e = let f : Refused (number c) ≡ Done (3 + length bs) = e in cc
          unlike (refusal.Short k) e = let f : Short k ≡ Done (3 + length bs) = e in cc

          short-of : (r : Refusal Cause) → gave (said (Err r)) left ≡ gave (Short (3 + length bs)) out → length out < 3 + length bs
              → begun (record { state = blank_state; answer = Err r }) left ≡ open_by_sender_of H session n t own sender bs out
          short-of (refusal.Because c) e l = let f : Refused (number c) ≡ Short (3 + length bs) = ap (λ (g : Given). g.answer) e in absurd cc
          short-of (refusal.Short k) e l =
              ap₂ {C = Begun} (λ (v : ℕ) (b : List ℕ). refused_by 9 v b) (ap (λ (g : Given). g.value) e ∙ sym size) (ap (λ (g : Given). g.buffer) e)
              ∙ sym (begun-short n t own sender bs H session out fine (omega (arith, size, l)))
