-- What a party sends once a root is agreed, as plain data, and the answer that a result says. Assumes nothing.
use Rattle.std.specs.Prelude.{Bool, true, false, ℕ, Option, Some, None, Result, Ok, Err}
use Rattle.cause.specs.Cause.{number}
use Rattle.cause.specs.declared.Cause.{Cause}
use Rattle.cause.specs.declared.Refusal.{Refusal}
use Rattle.cause.specs.declared.Refusal.TheVariants as refusal
use Rattle.buffer.specs.Given.{Written, Refused, Short, Done}

-- whether the party's message has that root, and what came of writing
pub record Sent : Type 0 where
  pub happy : Bool
  pub answer : Written

-- the answer that a result says: an unhappy party writes nothing, and only a happy one's buffer is too short
abbrev pub sent_said : Result (Option ℕ) (Refusal Cause) → Sent
sent_said (Err (refusal.Because c)) = record { happy = false; answer = Refused (number c) }
sent_said (Err (refusal.Short n)) = record { happy = true; answer = Short n }
sent_said (Ok None) = record { happy = false; answer = Done 0 }
sent_said (Ok (Some l)) = record { happy = true; answer = Done l }
