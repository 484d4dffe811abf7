use Rattle.std.proofs.Common.{◌≡◌, drop}
use Rattle.party.specs.Private.{first_place}
use Rattle.party.proofs.first_place.Given as goal

abbrev pub invariant-loop-finding : goal.invariant-loop-finding
invariant-loop-finding l = first_place (drop l.finding-index l.found) ≡ first_place l.found
