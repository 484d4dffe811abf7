-- What is told of a part of a case, given how many of its bytes came; which bytes came, no definition can say. Assumes nothing.
use Rattle.std.specs.Prelude.{◌≡◌, ℕ, ◌≤◌, Bool, true, false, cond, ◌==◌, nat_lt, Result, Ok, Err}
use Rattle.stream.specs.declared.Broken.{Broken}

-- a part of a case, at the start of a buffer: its length, how many of its bytes came, and whether the stream and the buffer had them all
pub record Part : Type 0 where
  pub len : ℕ
  pub got : ℕ
  pub whole : Bool

-- the part that a result tells of
abbrev pub told : Result ℕ Broken → Part
told (Ok n) = record { len = n; got = n; whole = true }
told (Err b) = record { len = b.len; got = b.got; whole = false }

-- a part of len bytes: it is whole if all of them came
abbrev pub part_of : ℕ → ℕ → Part
part_of len got = record { len = len; got = got; whole = (got == len) }

-- a part of len bytes for a buffer of `room` bytes: where the buffer is shorter there is no part, and none is whole
unfoldable pub start_of : ℕ → ℕ → ℕ → Part
start_of room len got = cond (nat_lt room len) (record { len = 0; got = 0; whole = false }) (part_of len got)

-- no more bytes came than the part has, and of a whole part all
pub record Told (r : Part) : Type 0 where
  pub few : r.got ≤ r.len
  pub all : r.whole ≡ true → r.got ≡ r.len
