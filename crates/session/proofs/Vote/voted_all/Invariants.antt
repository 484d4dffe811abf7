use mathlib.Core.Path.{◌≡◌}
use Rattle.sha256.specs.Sha256.{sha256}
use lib.ListN.{length}
use Rattle.limits.specs.Limits.{max_parties}
use Rattle.session.specs.Session.{step2}
use Rattle.session.specs.Private.{States}
use Rattle.session.proofs.Vote.voted_all.Given as goal

abbrev pub invariant-loop-j : goal.invariant-loop-j
invariant-loop-j l =
    (length l.states ≡ max_parties) × States l.self.play.bytes.now (λ p. (step2 sha256 l.self.play.bytes.now p).state) 0 l.j l.states
