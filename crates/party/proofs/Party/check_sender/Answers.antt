-- `party::Party::check_sender` meets its contract: a party that receives a packet reads no message that is too long. Assumes nothing.
use Rattle.std.proofs.Common.{length, sym, ap, arith}
use Rattle.party.proofs.Sender.{cause-none, sender-message, other-message, read_short}
use Rattle.party.proofs.Party.check_sender.Goals as goal
use Rattle.party.proofs.Party.check_sender.Goals.{else-own-sender-via-then-own-sender+else-bytes-gt-MAX_MESSAGE, else-own-sender-via-else-own-sender}

pub returns : goal.returns
returns c =
    let a = c.args in
    let none = cause-none a.n a.t a.own a.sender a.bytes.now (sym c.in_ok-check_opening.ensures) (sym c.if-not-numbered.ensures) in
    elim c.else-own-sender.branch [
      | else-own-sender-via-then-own-sender+else-bytes-gt-MAX_MESSAGE w ↦ sym (none (omega (arith, ap length (sender-message a.own a.sender a.bytes.now w.if-own-sender.true), w.if-bytes-gt-MAX_MESSAGE.false)))
      | else-own-sender-via-else-own-sender w ↦ sym (none (omega (arith, ap length (other-message a.own a.sender a.bytes.now w.if-own-sender.false), read_short a.bytes.now)))
    ]
