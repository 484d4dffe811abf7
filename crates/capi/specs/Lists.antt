-- A list of calls on a state of bytes, to be held against the party's own list of calls on states: proved to be the same (`Kept.calls-told`,
-- `Kept.calls-kept`, and `Kept.length-kept` for the length of the result). The hash is a parameter H. Assumes nothing.
use Rattle.std.specs.Prelude.{List, [], ◌∷◌, ℕ, length}
use Rattle.party.specs.State.{Result, nothing, settled}
use Rattle.agreement.specs.Calls.{Call, Event}
use Rattle.capi.specs.Calls.{packed, Returned, returned, number_of, called}

module _ (H : List ℕ → List ℕ) where
  -- each call gets the bytes that the last one left: the numbers and out buffers, and the bytes after the list
  unfoldable pub answers : List ℕ → List Call → List Returned
  answers s [] = []
  answers s (c ∷ cs) = let r = called H s c in returned r.number r.out ∷ answers r.state cs

  unfoldable pub left : List ℕ → List Call → List ℕ
  left s [] = s
  left s (c ∷ cs) = left (called H s c).state cs

-- what is answered when the length of a result is asked for
abbrev pub length_of : Result → ℕ
length_of nothing = packed 6 0
length_of (settled m) = packed 0 (length m)

-- what a call on a state gave back, as one number and the out buffer
abbrev pub shown : Event → Returned
shown e = returned (number_of e.reply) e.reply.buffer
