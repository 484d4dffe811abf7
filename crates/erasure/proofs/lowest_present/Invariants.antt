use Rattle.std.proofs.Common.{◌≡◌, length, ◌≤◌, take}
use Rattle.erasure.specs.Rebuild.{present}
use Rattle.limits.specs.Limits.{max_parties}
use Rattle.erasure.specs.Arrays.{slices, points}
use Rattle.erasure.proofs.lowest_present.Given as goal

abbrev pub invariant-loop-i : goal.invariant-loop-i
invariant-loop-i l =
    (length l.lowest ≡ max_parties)
    × (l.count ≤ l.i) × (points (take l.count l.lowest) ≡ present 1 (slices (take l.i l.shares)))
