-- Laws of the numbers of causes. Assumes nothing.
use Rattle.std.proofs.Common.{◌≡◌, ◌≢◌, ℕ, refl, arith, [], ◌∷◌, get_or}
use Rattle.cause.specs.Cause.{number}
use Rattle.cause.specs.declared.Cause.{Cause}
use Rattle.cause.specs.declared.Cause.TheVariants as cause

-- the cause of a number
abbrev pub numbered : ℕ → Cause
numbered k =
    get_or
    (cause.Parties ∷ cause.Parties ∷ cause.Faults ∷ cause.Number ∷ cause.Length ∷ cause.State ∷ cause.Turn ∷ cause.Argument ∷ cause.Layout
    ∷ cause.Parties ∷ cause.Unreadable ∷ cause.TooFew ∷ cause.NoMessage ∷ cause.Plan ∷ cause.Unlawful ∷ cause.OtherRoot ∷ [])
    k cause.Parties

pub numbered-number : (c : Cause) → numbered (number c) ≡ c
numbered-number cause.Parties = refl
numbered-number cause.Faults = refl
numbered-number cause.Number = refl
numbered-number cause.Length = refl
numbered-number cause.State = refl
numbered-number cause.Turn = refl
numbered-number cause.Argument = refl
numbered-number cause.Layout = refl
numbered-number cause.Unreadable = refl
numbered-number cause.TooFew = refl
numbered-number cause.NoMessage = refl
numbered-number cause.Plan = refl
numbered-number cause.Unlawful = refl
numbered-number cause.OtherRoot = refl

pub number-nonzero : (c : Cause) → number c ≢ 0
number-nonzero cause.Parties = omega arith
number-nonzero cause.Faults = omega arith
number-nonzero cause.Number = omega arith
number-nonzero cause.Length = omega arith
number-nonzero cause.State = omega arith
number-nonzero cause.Turn = omega arith
number-nonzero cause.Argument = omega arith
number-nonzero cause.Layout = omega arith
number-nonzero cause.Unreadable = omega arith
number-nonzero cause.TooFew = omega arith
number-nonzero cause.NoMessage = omega arith
number-nonzero cause.Plan = omega arith
number-nonzero cause.Unlawful = omega arith
number-nonzero cause.OtherRoot = omega arith
