-- `commitment::shares::Shares::outbox_len` meets its contract: after k turns the length is that of the first k entries. Assumes nothing.
use mathlib.Core.Path.{sym, ap, ap₂, ◌∙◌}
use Prim.Native.Nat.{ℕ, ◌+◌}
use native.Mathlib.Omega.{arith}
use lib.ListN.{length}
use Rattle.sha256.specs.Sha256.{sha256}
use Rattle.commitment.proofs.Outbox.{outbox-none, outbox-length}
use Rattle.commitment.proofs.shares.Shares.outbox_len.Goals as goal

pub loop-k-init : goal.loop-k-init
loop-k-init c =
    let s = c.args.self.now in
    (sym (ap length (outbox-none sha256 s.seat.n s.seat.own s.len s.all.now s.leaves.now)), omega arith)

pub loop-k-preserved : goal.loop-k-preserved
loop-k-preserved c =
    let s = c.args.self.now in
    let more = outbox-length sha256 s.seat.n s.seat.own s.len s.all.now s.leaves.now c.loop-k.k in
    (ap₂ (λ (i m : ℕ). i + m) c.loop-k.invariant.0 c.entry_len-len.ensures.0 ∙ sym more, omega arith)
