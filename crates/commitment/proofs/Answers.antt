-- What the results of writing are, by what is told of them. Assumes nothing.
use Rattle.std.proofs.Common.{◌≡◌, ℕ, List, Bool, true, false, ap, ◌∙◌}
use Rattle.std.specs.Prelude.{cond, ltb, length, Option, Result, Ok, Err, IsErrAnd}
use Rattle.cause.specs.Cause.{number}
use Rattle.cause.specs.declared.Cause.{Cause}
use Rattle.cause.specs.declared.Refusal.{Refusal}
use Rattle.cause.specs.declared.Refusal.TheVariants as refusal
use Rattle.buffer.specs.Splice.{spliced}
use Rattle.buffer.specs.Given.{Given, Refused, Short, Done, said, gave, written}
use Rattle.commitment.specs.Sent.{sent_said}
use Rattle.commitment.specs.Commitment.{sending, sent}

-- an answer Done is that of a result that is Ok
pub said-done : (r : Result ℕ (Refusal Cause)) (k : ℕ) → said r ≡ Done k → r ≡ Ok k
said-done (Ok n) k e = let y : Done n ≡ Done k = e in cc
said-done (Err (refusal.Because c)) k e = let y : Refused (number c) ≡ Done k = e in absurd cc
said-done (Err (refusal.Short n)) k e = let y : Short n ≡ Done k = e in absurd cc

-- what a `?` gives back where it turns no error into another one
pub err-of : {A : Type 0} (r : Result A (Refusal Cause)) (e : Refusal Cause) → IsErrAnd r (λ x. x ≡ e) → r ≡ Err e
err-of (Ok x) e h = elim h [ ]
err-of (Err x) e h = ap Err h

-- writing at the start of a buffer has no cause but that it is too short
never-because : (k : ℕ) (o bs out : List ℕ) → gave (Refused k) o ≡ written bs out → ⊥
unfolding written
never-because k o bs out e = go (ltb (length out) (length bs)) (ap (λ (g : Given). g.answer) e)
  where
    go : (b : Bool) → Refused k ≡ (cond b (gave (Short (length bs)) out) (gave (Done (length bs)) (spliced out 0 bs))).answer → ⊥
    go true q = let y : Refused k ≡ Short (length bs) = q in cc
    go false q = let y : Refused k ≡ Done (length bs) = q in cc

-- so where writing gives an error, a happy party's buffer is too short
pub happy-err : (e : Refusal Cause) (o bs out : List ℕ) → gave (said (Err e)) o ≡ written bs out → (q : Result (Option ℕ) (Refusal Cause)) → q ≡ Err e
    → sent (sent_said q) o ≡ sending true (written bs out)
happy-err (refusal.Because c) o bs out g q h = absurd (never-because (number c) o bs out g)
happy-err (refusal.Short n) o bs out g q h = ap (λ (x : Result (Option ℕ) (Refusal Cause)). sent (sent_said x) o) h ∙ ap (sending true) g
