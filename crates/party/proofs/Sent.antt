-- What came of sending, by whether the message has the agreed root: nothing, or the answer of the writer. By cases of the answer. Assumes nothing.
use Rattle.std.proofs.Common.{◌≡◌, Bool, true, false, Option, Some, None, MatchOption, Result, Ok, Err, List, ℕ, length, refl, sym, ap, ◌∙◌, true≢false}
use Rattle.std.specs.Result.{result_transpose}
use Rattle.cause.specs.declared.Cause.{Cause}
use Rattle.cause.specs.declared.Refusal.{Refusal}
use Rattle.cause.specs.declared.Refusal.TheVariants as refusal
use Rattle.cause.proofs.Numbers.{number-nonzero}
use Rattle.sha256.specs.Sha256.{sha256}
use Rattle.buffer.specs.Given.{said, gave, written, Done}
use Rattle.merkle.specs.Shares.{same}
use Rattle.commitment.specs.Commitment.{open_cause, message_root, mail_with, Sending, sending, sent, send_of}
use Rattle.commitment.specs.Sent.{sent_said}
use Rattle.commitment.specs.declared.Seat.{Seat}
use Rattle.commitment.proofs.Outcomes.{send-other, send-own}

module _ (bs left out : List ℕ) where
  -- it is as the definition has it
  abbrev pub Told : Bool → Result (Option ℕ) (Refusal Cause) → Type 0
  Told true r = sent (sent_said r) left ≡ sending true (written bs out)
  Told false r = sent (sent_said r) left ≡ sending false (gave (Done 0) out)

  abbrev pub Came : Bool → Option (Result ℕ (Refusal Cause)) → Type 0
  Came happy o = MatchOption o ((happy ≡ false) × (left ≡ out)) (λ r. (happy ≡ true) × (gave (said r) left ≡ written bs out))

  unlike : {r s : Sending} → r ≡ s → r.happy ≡ true → s.happy ≡ false → ⊥
  unlike e t f = true≢false (sym t ∙ ap (λ (g : Sending). g.happy) e ∙ f)

  pub came : (happy : Bool) (r : Result (Option ℕ) (Refusal Cause)) → Told happy r → Came happy (result_transpose r)
  came true (Ok None) e = absurd (unlike (sym e) refl refl)
  came false (Ok None) e = (refl, ap (λ (g : Sending). g.given.buffer) e)
  came true (Ok (Some k)) e = (refl, ap (λ (g : Sending). g.given) e)
  came false (Ok (Some k)) e = absurd (unlike e refl refl)
  came true (Err (refusal.Because c)) e = absurd (unlike (sym e) refl refl)
  came false (Err (refusal.Because c)) e = absurd (number-nonzero c (ap (λ (g : Sending). g.given.cause) e))
  came true (Err (refusal.Short k)) e = (refl, ap (λ (g : Sending). g.given) e)
  came false (Err (refusal.Short k)) e = absurd (unlike e refl refl)

-- what a party that may be opened sends
module _ (x : Seat) (m : List ℕ) (relays : Bool) (z left out : List ℕ) (fine : open_cause x.n x.t x.own (length m) ≡ 0) (r : Result (Option ℕ) (Refusal Cause))
    (given : sent (sent_said r) left ≡ send_of sha256 x.session relays x.n x.t x.own m z out) where
  pub told-of : Told (mail_with sha256 x.session relays x.n x.t x.own m) left out (same (message_root sha256 x.session x.n x.t m) z) r
  told-of = go (same (message_root sha256 x.session x.n x.t m) z) refl
    where
      go : (b : Bool) → same (message_root sha256 x.session x.n x.t m) z ≡ b → Told (mail_with sha256 x.session relays x.n x.t x.own m) left out b r
      go true h = given ∙ send-own sha256 x.session x.n x.t x.own m relays z out fine h
      go false h = given ∙ send-other sha256 x.session x.n x.t x.own m relays z out fine h
