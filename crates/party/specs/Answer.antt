-- The answers of a party's opening and of its steps, by document 01's numbers, and what the code's results say as such. Assumes nothing.
use Rattle.std.specs.Prelude.{Bool, List, ℕ, Result, Ok, Err}
use Rattle.cause.specs.Cause.{number}
use Rattle.cause.specs.declared.Cause.{Cause}
use Rattle.cause.specs.declared.Refusal.{Refusal}
use Rattle.cause.specs.declared.Refusal.TheVariants as refusal
use Rattle.merkle.specs.Shares.{blank}
use Rattle.merkle.specs.Answer.{root_said}
use Rattle.party.specs.declared.Party.{Party}
use Rattle.party.specs.declared.Opened.{Opened as Opening}
use Rattle.party.specs.declared.Begun.{Begun}
use Rattle.party.specs.declared.Answer.{Answer as Taken}
use Rattle.party.specs.declared.Answer.TheVariants as taken

-- what the opening gives: a state, and the number of the cause for which it was refused with no root, or 0 and the root of the message's shares
pub record Opened : Type 0 where
  pub state : Party
  pub cause : ℕ
  pub root : List ℕ

abbrev pub opened : Opening → Opened
opened o = record { state = o.state; cause = (root_said o.root).cause; root = (root_said o.root).root }

-- the same of an opening by a named sender; and how many bytes were written for the others, or are needed with cause 9
abbrev pub opened_by : Party → Result Begun (Refusal Cause) → Opened
opened_by x (Ok b) = record { state = x; cause = 0; root = b.root }
opened_by x (Err (refusal.Because c)) = record { state = x; cause = number c; root = blank }
opened_by x (Err (refusal.Short k)) = record { state = x; cause = 9; root = blank }

abbrev pub value_by : Result Begun (Refusal Cause) → ℕ
value_by (Ok b) = b.len
value_by (Err (refusal.Because c)) = 0
value_by (Err (refusal.Short k)) = k

-- the answer of a step: the number of the cause for which it was refused, with cause 9 the length needed; else of step 2 the party's bit, of steps 3 and 4
-- how many bytes were written, of step 5 the result with the map of parties seen to be faulty
pub data Answer : Type 0 where
  Refused Short : ℕ → Answer
  Happy : Bool → Answer
  Sent Nothing : ℕ → Answer
  Message : ℕ → ℕ → Answer

abbrev pub answered : Result Taken (Refusal Cause) → Answer
answered (Ok (taken.Happy b)) = Happy b
answered (Ok (taken.Sent l)) = Sent l
answered (Ok (taken.Nothing f)) = Nothing f
answered (Ok (taken.Message l f)) = Message l f
answered (Err (refusal.Because c)) = Refused (number c)
answered (Err (refusal.Short l)) = Short l
