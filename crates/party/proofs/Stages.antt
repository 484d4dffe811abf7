-- The stages at which a party waits: it has not ended. By cases. Assumes nothing.
use Rattle.std.proofs.Common.{◌≡◌, ◌⊎◌, inl, inr, false, ap}
use Rattle.party.specs.State.{has_ended}
use Rattle.party.specs.declared.Stage.{Stage}
use Rattle.party.specs.declared.Stage.TheVariants.{Root, Bit, First, Second}

pub waits : (s : Stage) → (s ≡ Root) ⊎ ((s ≡ Bit) ⊎ ((s ≡ First) ⊎ (s ≡ Second))) → has_ended s ≡ false
waits s (inl e) = ap has_ended e
waits s (inr (inl e)) = ap has_ended e
waits s (inr (inr (inl e))) = ap has_ended e
waits s (inr (inr (inr e))) = ap has_ended e
