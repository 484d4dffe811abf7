-- What is asked of a state that is not broken is told. Assumes nothing.
use mathlib.Core.Path.{◌≡◌}
use mathlib.Core.Bool.{false}
use Prim.Native.Nat.{ℕ}
use Rattle.party.specs.State.{broken}
use Rattle.party.specs.declared.Party.{Party}
use Rattle.capi.specs.Calls.{unless_broken}

pub unbroken : (x : Party) (answer : ℕ) → broken x ≡ false → unless_broken x answer ≡ answer
unbroken x answer h = rw h
