use Rattle.std.proofs.Common.{◌≡◌, true, ◌++◌, length, take}
use Rattle.erasure.specs.Rebuild.{parts_at, all_lie}
use Rattle.limits.specs.Limits.{max_parties}
use Rattle.erasure.specs.Arrays.{slices}
use Rattle.erasure.proofs.shares_at.Given as goal

abbrev pub invariant-loop-i : goal.invariant-loop-i
invariant-loop-i l =
    (length l.each ≡ max_parties)
    × (all_lie l.i (length l.first) (length l.second) l.places ≡ true)
    × (slices (take l.i l.each) ≡ parts_at l.i (l.first ++ l.second) l.places)
