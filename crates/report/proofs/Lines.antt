-- The outcomes of a party's line. Assumes nothing.
use Rattle.std.proofs.Common.{◌≡◌, ℕ, ◌<◌, ◌≤◌, Bool, List, ◌++◌, length, lt-ltb, le-ltb}
use Rattle.limits.specs.Limits.{max_message}
use Rattle.buffer.specs.Given.{gave, written}
use Rattle.buffer.specs.Given.{Refused}
use Rattle.report.specs.Output.{decimal, ending, line, line_of}

module _ (p : ℕ) (some : Bool) (m out : List ℕ) where
  pub line_refused : max_message < length m → gave (Refused 4) out ≡ line_of p some m out
  unfolding line_of
  line_refused h = rw (lt-ltb max_message (length m) h)

  pub line_given : length m ≤ max_message → written (decimal p ++ ending some m) out ≡ line_of p some m out
  unfolding line_of line
  line_given h = rw (le-ltb max_message (length m) h)
