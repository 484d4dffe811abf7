use Rattle.sha256.specs.Sha256.{sha256}
use Rattle.party.proofs.Walk.{Walked}
use Rattle.party.proofs.findings.Given as goal

abbrev pub invariant-loop-i : goal.invariant-loop-i
invariant-loop-i l = Walked sha256 l.seat l.root l.inbox l.demanded l.i l.at l.found
