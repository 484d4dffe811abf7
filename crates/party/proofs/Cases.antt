-- The cases of document 01 hold. By computation, and for messages of a given length by the laws of the opening. Assumes nothing.
use mathlib.Core.Path.{◌≡◌, refl, ap, ◌∙◌}
use mathlib.Core.List.{List}
use Prim.Native.Nat.{ℕ, ◌+◌}
use native.Mathlib.Omega.{arith}
use lib.Dec.{lit≤}
use lib.ListN.{length}
use Rattle.sha256.specs.Sha256.{sha256}
use Rattle.limits.specs.Limits.{max_message, parties, numbered, group_cause}
use Rattle.erasure.specs.Cases as erasure
use Rattle.merkle.specs.Tree.{split_from, split, shape_of, shape, size, sides}
use Rattle.merkle.specs.Shares.{path_length_of}
use Rattle.party.specs.Steps.{open_cause, open_of}
use Rattle.party.specs.Cases.{Cases, cause_of}
use Rattle.party.specs.Answer.{Opened}
use Rattle.commitment.proofs.Opening.{open-long}
use Rattle.party.proofs.Outcomes.{open-refused}
use Rattle.party.proofs.Progress.{open-accepted}

too_long : (m : List ℕ) → length m ≡ max_message + 1 → cause_of 3 1 m ≡ 4
unfolding parties group_cause
too_long m e =
    let c : open_cause 3 1 1 (length m) ≡ 4 = open-long 3 1 1 (length m) refl (lit≤ tt) (lit≤ tt) (omega arith) in
    ap (λ (r : Opened). r.cause) (open-refused sha256 0 3 1 1 m (λ q. omega arith)) ∙ c

pub cases : Cases
unfolding parties numbered open_of open_cause group_cause path_length_of split_from split shape_of shape size sides
cases = record {
  coding = erasure.cases;
  path-lengths = refl;
  sixteen = refl;
  eight-faults = refl;
  seventeen = refl;
  longest = λ m e. open-accepted sha256 0 3 1 1 m (lit≤ tt) (lit≤ tt) (lit≤ tt) (lit≤ tt) (lit≤ tt) (omega arith);
  too_long = too_long;
}
