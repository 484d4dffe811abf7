-- Silence for all: zeros; a party sends them on bit 0, and if it is not happy. By induction on the entries. Assumes
-- nothing.
use mathlib.Core.Path.{◌≡◌, refl, ap, ◌∙◌}
use mathlib.Core.Bool.{true, false, ◌&&◌}
use mathlib.Core.List.{List, [], ◌∷◌}
use Prim.Native.Nat.{ℕ, zero, suc, ◌*◌}
use native.Mathlib.Omega.{arith}
use lib.Dec.{eqb}
use lib.ListN.{replicate}
use Rattle.packet.specs.Format.{entry_of}
use Rattle.packet.specs.Inbox.{inbox_of}
use Rattle.commitment.specs.Commitment.{mail_with}
use Rattle.party.specs.State.{message_in, happy}
use Rattle.party.specs.Steps.{packet_for, outbox_of, own_relay}
use Rattle.party.specs.declared.Party.{Party}

-- silence for all is zeros
silence : (n : ℕ) → inbox_of (replicate n []) ≡ replicate (2 * n) 0
unfolding inbox_of entry_of
silence zero = refl
silence (suc n) =
    let two : suc (suc (2 * n)) ≡ 2 * suc n = omega arith in
    ap (λ (l : List ℕ). 0 ∷ 0 ∷ l) (silence n) ∙ ap (λ (k : ℕ). replicate {A = ℕ} k 0) two

module _ (H : List ℕ → List ℕ) where
  -- a party sends no packet on bit 0, nor if it is not happy
  pub outbox-silent : (x : Party) (bit : ℕ) → eqb bit 1 && happy H x ≡ false → outbox_of H x bit ≡ replicate (2 * x.seat.n) 0
  unfolding outbox_of
  outbox-silent x bit h = rw h (silence x.seat.n)

  -- what a happy party sends is what its message gives
  pub outbox-mail : (x : Party) → happy H x ≡ true → outbox_of H x 1 ≡ mail_with H x.seat.session false x.seat.n x.seat.t x.seat.own (message_in x)
  unfolding outbox_of packet_for
  outbox-mail x h = rw h refl

  pub relay-mail : (x : Party) → own_relay H x ≡ mail_with H x.seat.session true x.seat.n x.seat.t x.seat.own (message_in x)
  unfolding packet_for
  relay-mail x = refl
