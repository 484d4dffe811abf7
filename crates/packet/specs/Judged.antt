-- A judgement of a packet as plain data, and the one that a result says. Assumes nothing.
use Rattle.std.specs.Prelude.{ℕ, Result, Ok, Err}
use Rattle.cause.specs.Cause.{number}
use Rattle.cause.specs.declared.Cause.{Cause}
use Rattle.packet.specs.declared.Judged.{Judged as Verdict}
use Rattle.packet.specs.declared.Judged.TheVariants as verdict

-- turned away for the cause of this number, or judged
pub data Judged : Type 0 where
  Refused : ℕ → Judged
  Silent Faulty Valid : Judged

abbrev pub judgement : Verdict → Judged
judgement verdict.Silent = Silent
judgement verdict.Faulty = Faulty
judgement verdict.Valid = Valid

-- the answer that a result says
abbrev pub judged_said : Result Verdict Cause → Judged
judged_said (Ok v) = judgement v
judged_said (Err c) = Refused (number c)
