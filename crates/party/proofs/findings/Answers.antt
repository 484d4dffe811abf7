-- `party::findings` meets its contract: after i turns the packets of the first i senders are judged. Assumes nothing.
use Rattle.std.proofs.Common.{arith, rules}
use Rattle.sha256.specs.Sha256.{sha256}
use Rattle.packet.specs.Packet.{entry_said}
use Rattle.party.proofs.Walk.{reached-start, walked-more, walked-end}
use Rattle.party.proofs.findings.Goals as goal

pub loop-i-init : goal.loop-i-init
loop-i-init c = record {
  reached = reached-start c.args.seat.n c.args.inbox.now c.requires.laid;
  count = search rules;
  each = λ k l. absurd (omega arith);
}

pub bounds-found-i : goal.bounds-found-i
bounds-found-i c = omega (arith, c.loop-i.invariant.count, c.requires.high)

pub loop-i-preserved : goal.loop-i-preserved
loop-i-preserved c =
    walked-more sha256 c.args.seat c.args.root.now c.args.inbox.now c.args.demanded c.requires c.loop-i.i c.loop-i.at c.loop-i.found c.loop-i.invariant (omega arith)
    (entry_said c.read_entry-packet.result) c.read_entry-packet.ensures c.find.result c.find.ensures

pub returns : goal.returns
returns c =
    walked-end sha256 c.args.seat c.args.root.now c.args.inbox.now c.args.demanded c.requires _ _ _ (omega arith) c.loop-i.invariant
