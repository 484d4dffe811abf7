use mathlib.Core.Path.{◌≡◌}
use Prim.Native.Nat.{◌+◌, ◌-◌, ◌*◌, ◌≤◌}
use Rattle.sha256.specs.Sha256.{sha256}
use Rattle.plan.specs.Layout.{n_in}
use Rattle.limits.specs.Limits.{max_parties}
use Rattle.packet.specs.Message.{max_message_packet}
use Rattle.session.specs.Session.{max_outbox, sent_from}
use Rattle.session.proofs.Play.sent_all.Given as goal

abbrev pub invariant-loop-p : goal.invariant-loop-p
invariant-loop-p l =
    (l.sum ≤ l.p * (max_parties * max_message_packet + (max_outbox + max_parties * max_outbox)))
    × (sent_from sha256 l.self.bytes.now (n_in l.self.bytes.now) 1
    ≡ l.sum + sent_from sha256 l.self.bytes.now (n_in l.self.bytes.now + 1 - l.p) l.p)
