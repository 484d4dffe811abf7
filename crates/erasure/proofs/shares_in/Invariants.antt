use Rattle.std.proofs.Common.{◌≡◌, length, true, ◌++◌, ◌-◌, ◌≤◌, take}
use Rattle.buffer.specs.Entries.{fills, bodies}
use Rattle.limits.specs.Limits.{max_parties}
use Rattle.erasure.specs.Arrays.{slices}
use Rattle.erasure.proofs.shares_in.Given as goal

abbrev pub invariant-loop-i : goal.invariant-loop-i
invariant-loop-i l =
    (length l.each ≡ max_parties) × (length l.rest ≤ length l.entries)
    × (fills (l.n - l.i) l.rest ≡ true)
    × (bodies l.n l.entries ≡ slices (take l.i l.each) ++ bodies (l.n - l.i) l.rest)
