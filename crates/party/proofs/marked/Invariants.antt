use Rattle.std.proofs.Common.{◌≡◌}
use Rattle.bitmap.specs.Bitmap.{map_of}
use Rattle.party.specs.Private.{marks}
use Rattle.party.proofs.marked.Given as goal

abbrev pub invariant-loop-i : goal.invariant-loop-i
invariant-loop-i l = l.map ≡ map_of (marks l.before l.found) l.i
