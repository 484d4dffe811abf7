-- Document 01's numbers of the causes for which a call is refused. Assumes nothing.
use Rattle.std.specs.Prelude.{◌≡◌, ℕ, Result, Ok, Err}
use Rattle.cause.specs.declared.Cause.{Cause}
use Rattle.cause.specs.declared.Cause.TheVariants as cause
use Rattle.cause.specs.declared.Refusal.{Refusal}
use Rattle.cause.specs.declared.Refusal.TheVariants as refusal

-- the number of a cause
abbrev pub number : Cause → ℕ
number cause.Parties = 1
number cause.Faults = 2
number cause.Number = 3
number cause.Length = 4
number cause.State = 5
number cause.Turn = 6
number cause.Argument = 7
number cause.Layout = 8
number cause.Unreadable = 10
number cause.TooFew = 11
number cause.NoMessage = 12
number cause.Plan = 13
number cause.Unlawful = 14
number cause.OtherRoot = 15

abbrev pub IsNumber : Cause → ℕ → Type 0
IsNumber c k = k ≡ number c

abbrev pub IsCause : Cause → Refusal Cause → Type 0
IsCause c r = r ≡ refusal.Because c

-- the number of the cause for which a call was refused; 0 if it was not
abbrev pub cause_of : {A : Type 0} → Result A Cause → ℕ
cause_of (Ok x) = 0
cause_of (Err c) = number c
