use mathlib.Core.Path.{◌≡◌}
use lib.ListN.{length}
use Rattle.buffer.specs.Splice.{spliced}
use Rattle.commitment.specs.Mail.{outbox_to}
use Rattle.commitment.proofs.shares.Shares.write_outbox.Given as goal

abbrev pub invariant-loop-k : goal.invariant-loop-k
invariant-loop-k l = (l.at ≡ length (outbox_to l.self l.k))
    × (l.out ≡ spliced l.initial.out 0 (outbox_to l.self l.k))
