use mathlib.Core.Path.{◌≡◌}
use Prim.Native.Nat.{◌+◌, ◌*◌, ◌≤◌}
use lib.ListN.{length}
use Rattle.limits.specs.Limits.{max_share, max_path}
use Rattle.commitment.specs.Mail.{outbox_to}
use Rattle.commitment.proofs.shares.Shares.outbox_len.Given as goal

abbrev pub invariant-loop-k : goal.invariant-loop-k
invariant-loop-k l = (l.len ≡ length (outbox_to l.self l.k)) × (l.len ≤ (6 + max_share + 32 * max_path) * l.k)
