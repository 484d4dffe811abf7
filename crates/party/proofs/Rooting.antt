-- The root of a message that may be opened with: there is one, and it is the message's. Assumes nothing.
use Rattle.std.proofs.Common.{◌≡◌, List, ℕ, length, Result, Ok, Err, IsOk, refl, sym, ap, ◌∙◌}
use Rattle.cause.specs.declared.Cause.{Cause}
use Rattle.cause.proofs.Numbers.{number-nonzero}
use Rattle.sha256.specs.Sha256.{sha256}
use Rattle.merkle.specs.Answer.{Rooted, root_said}
use Rattle.commitment.specs.Commitment.{open_cause, message_root, rooted_of}
use Rattle.commitment.specs.declared.Seat.{Seat}
use Rattle.commitment.proofs.Outcomes.{rooted-given}

module _ (x : Seat) (m : List ℕ) (fine : open_cause x.n x.t x.own (length m) ≡ 0) (r : Result (List ℕ) Cause)
    (given : root_said r ≡ rooted_of sha256 x.session x.n x.t x.own m) where
  said : root_said r ≡ record { cause = 0; root = message_root sha256 x.session x.n x.t m }
  said = given ∙ rooted-given sha256 x.session x.n x.t x.own m fine

  pub rooted : IsOk r
  rooted = go r said
    where
      go : (s : Result (List ℕ) Cause) → root_said s ≡ record { cause = 0; root = message_root sha256 x.session x.n x.t m } → IsOk s
      go (Ok z) e = refl
      go (Err c) e = absurd (number-nonzero c (ap (λ (g : Rooted). g.cause) e))

  pub root-is : (z : List ℕ) → r ≡ Ok z → z ≡ message_root sha256 x.session x.n x.t m
  root-is z e = ap (λ (g : Rooted). g.root) (sym (ap root_said e) ∙ said)
