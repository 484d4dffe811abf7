use mathlib.Core.Path.{◌≡◌}
use Prim.Native.Nat.{◌*◌}
use lib.ListN.{length}
use Rattle.limits.specs.Limits.{max_parties}
use Rattle.session.specs.Session.{max_outbox}
use Rattle.session.specs.Private.{Turn}
use Rattle.session.proofs.Agreed.round.Given as goal

abbrev pub invariant-loop-j : goal.invariant-loop-j
invariant-loop-j l =
    (length l.sent.slots ≡ max_parties * max_outbox) × (length l.sent.lens ≡ max_parties) × (length l.states ≡ max_parties)
    × Turn l.self.play.bytes.now l.step l.j l.states l.sent
