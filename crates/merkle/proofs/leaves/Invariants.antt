-- After j turns the first j leaf hashes are there, and blanks follow.
use Rattle.std.proofs.Common.{◌≡◌, ◌++◌, ◌-◌, length, replicate}
use Rattle.merkle.specs.Shares.{blank}
use Rattle.merkle.proofs.Judged.{Even}
use Rattle.merkle.proofs.Rows.{leaf_hashes}
use Rattle.merkle.proofs.leaves.Given as goal

abbrev pub invariant-loop-j : goal.invariant-loop-j
invariant-loop-j l =
    record {
      even : Even l.session l.n (length l.shares);
      long : length l.hash-items ≡ l.n;
      made : l.hash-items ≡ leaf_hashes l.session l.len l.shares l.j ++ replicate (l.n - l.j) blank;
    }
