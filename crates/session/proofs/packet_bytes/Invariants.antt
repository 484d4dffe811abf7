use mathlib.Core.Path.{◌≡◌}
use Prim.Native.Nat.{◌+◌, ◌-◌, ◌≤◌}
use lib.ListN.{length, drop}
use Rattle.buffer.specs.Entries.{bodies}
use Rattle.agreement.specs.Calls.{lengths}
use Rattle.session.proofs.packet_bytes.Given as goal

abbrev pub invariant-loop-k : goal.invariant-loop-k
invariant-loop-k l =
    (l.at ≤ length l.outbox) × (l.sum ≤ l.at)
    × (lengths (bodies l.n l.outbox) ≡ l.sum + lengths (bodies (l.n - l._k) (drop l.at l.outbox)))
