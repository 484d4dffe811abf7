-- Rebuilding under a root (document 02, No. 4): a message counts as found only where its own shares, made anew, have that root under the session's number. The
-- hash of the tree is a parameter H. Assumes nothing.
use Rattle.std.specs.Prelude.{cond, not, List, [], ℕ, ◌-◌, eqb, length}
use Rattle.limits.specs.Limits.{group_cause}
use Rattle.buffer.specs.Entries.{fills, bodies}
use Rattle.buffer.specs.Given.{Given, gave}
use Rattle.buffer.specs.Given.{Refused}
use Rattle.erasure.specs.Coding.{shares}
use Rattle.erasure.specs.Rebuild.{Recovered, cause, message, present, recovered, answered}
use Rattle.merkle.specs.Shares.{same, coding_strings}
use Rattle.commitment.specs.Commitment.{message_root}

module _ (H : List ℕ → List ℕ) where
  -- a message whose root is not z is cause 15
  abbrev pub under_root : ℕ → ℕ → ℕ → List ℕ → Recovered → Recovered
  under_root session n t z (cause k) = cause k
  under_root session n t z (message m) = cond (same (message_root H session n t m) z) (message m) (cause 15)

  -- the strings hashed for that: the leaf and node strings of a message found
  abbrev pub recoded_strings : ℕ → ℕ → ℕ → Recovered → List (List ℕ)
  recoded_strings session n t (cause k) = []
  recoded_strings session n t (message m) = coding_strings H session n (shares n (n - t) m)

  -- the message of n entries in a lent buffer: causes 1 and 2; 7, the root is not of 32 bytes; then 8, 11, 12 and 15; and 9, which applies only where a
  -- message with that root was found
  unfoldable pub rebuild_with_root_of : ℕ → ℕ → ℕ → List ℕ → List ℕ → List ℕ → Given
  rebuild_with_root_of session n t z es out =
      cond (not (eqb (group_cause n t) 0)) (gave (Refused (group_cause n t)) out)
      (cond (not (eqb (length z) 32)) (gave (Refused 7) out)
      (cond (not (fills n es)) (gave (Refused 8) out)
      (answered (under_root session n t z (recovered (n - t) (present 1 (bodies n es)))) out)))
