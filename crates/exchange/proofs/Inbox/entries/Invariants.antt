use Rattle.std.proofs.Common.{◌≡◌, ◌+◌, length}
use Rattle.buffer.specs.Splice.{spliced, tabulate}
use Rattle.packet.specs.Inbox.{inbox_of}
use Rattle.exchange.specs.Private.{sent_by}
use Rattle.exchange.proofs.Inbox.entries.Given as goal

-- the entries of the first p senders
abbrev pub invariant-loop-p : goal.invariant-loop-p
invariant-loop-p l =
    let x = l.self in
    let so_far = inbox_of (tabulate l.p (λ k. sent_by x.mail x.slots.now x.lens.now x.blocks.now x.i (k + 1))) in
    (l.at ≡ length so_far) × (l.out ≡ spliced l.initial.out 0 so_far)
