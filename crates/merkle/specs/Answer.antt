-- The answers of `path_length` and `check`, by document 01's numbers. Assumes nothing.
use Rattle.std.specs.Prelude.{Bool, true, false, ℕ, List, replicate, Result, Ok, Err}
use Rattle.cause.specs.Cause.{number}
use Rattle.cause.specs.declared.Cause.{Cause}

-- the root over leaf hashes: document 01's number of the cause for which there is none, 0 if there is one; and the root, or zeros
pub record Rooted : Type 0 where
  pub cause : ℕ
  pub root : List ℕ

-- the answer that a result says
abbrev pub root_said : Result (List ℕ) Cause → Rooted
root_said (Ok r) = record { cause = 0; root = r }
root_said (Err c) = record { cause = number c; root = replicate 32 0 }

-- how many hashes a path has, or the number of the cause for which they were not counted
pub data Counted : Type 0 where
  Uncounted Hashes : ℕ → Counted

abbrev pub count_said : Result ℕ Cause → Counted
count_said (Ok k) = Hashes k
count_said (Err c) = Uncounted (number c)

-- whether a path passed the check, or the number of the cause for which it was not checked
pub data Checked : Type 0 where
  Unchecked : ℕ → Checked
  No Yes : Checked

abbrev pub check_said : Result Bool Cause → Checked
check_said (Ok true) = Yes
check_said (Ok false) = No
check_said (Err c) = Unchecked (number c)

-- document 01's number of the cause for which the hashes of a path were not counted; 0 if they were
abbrev pub count_cause : Counted → ℕ
count_cause (Uncounted k) = k
count_cause (Hashes k) = 0

-- the value given with it: how many hashes the path has; 0 where they were not counted
abbrev pub count_value : Counted → ℕ
count_value (Uncounted k) = 0
count_value (Hashes k) = k

-- what counting gives back: the answer, with document 01's number and the value
pub record Count : Type 0 where
  pub answer : Counted
  pub cause : ℕ
  pub hashes : ℕ

abbrev pub counted : Counted → Count
counted r = record { answer = r; cause = count_cause r; hashes = count_value r }

-- turned away for a cause; and k hashes
abbrev pub not_counted : ℕ → Count
not_counted k = record { answer = Uncounted k; cause = k; hashes = 0 }

abbrev pub count_of : ℕ → Count
count_of k = record { answer = Hashes k; cause = 0; hashes = k }

-- document 01's number of the cause for which a check was turned away; 0 if it was not
abbrev pub check_cause : Checked → ℕ
check_cause (Unchecked k) = k
check_cause No = 0
check_cause Yes = 0

-- the value given with it: whether the path passed
abbrev pub check_value : Checked → Bool
check_value (Unchecked k) = false
check_value No = false
check_value Yes = true

-- what checking gives back: the answer, with document 01's number and the value
pub record Check : Type 0 where
  pub answer : Checked
  pub cause : ℕ
  pub passed : Bool

abbrev pub checked : Checked → Check
checked r = record { answer = r; cause = check_cause r; passed = check_value r }

-- turned away for a cause; and yes or no
abbrev pub not_checked : ℕ → Check
not_checked k = record { answer = Unchecked k; cause = k; passed = false }

abbrev pub case_of : Bool → Checked
case_of true = Yes
case_of false = No

abbrev pub answer_of : Bool → Check
answer_of b = record { answer = case_of b; cause = 0; passed = b }
