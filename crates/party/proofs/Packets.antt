-- The packet that a state makes is that of the message it holds. Assumes nothing.
use mathlib.Core.Path.{◌≡◌, ap}
use mathlib.Core.List.{List}
use Prim.Native.Nat.{ℕ}
use Rattle.commitment.specs.Commitment.{packet_with}
use Rattle.party.specs.State.{at_bit, at_first}
use Rattle.party.specs.Steps.{packet_for}
use Rattle.commitment.specs.declared.Seat.{Seat}
use Rattle.party.proofs.Kept.{message-bit, message-first}

-- the packet that a state makes
module _ (H : List ℕ → List ℕ) (s : Seat) (m z : List ℕ) (j : ℕ) where
  pub packet-bit : packet_for H (at_bit s m z) j ≡ packet_with H s.session s.n s.t m j
  unfolding packet_for at_bit
  packet-bit = ap (λ (b : List ℕ). packet_with H s.session s.n s.t b j) (message-bit s m z)

  pub packet-first : packet_for H (at_first s m z) j ≡ packet_with H s.session s.n s.t m j
  unfolding packet_for at_first
  packet-first = ap (λ (b : List ℕ). packet_with H s.session s.n s.t b j) (message-first s m z)
