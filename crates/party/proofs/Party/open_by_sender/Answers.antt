-- `party::Party::open_by_sender` meets its contract: a refusal, the opening of a party that sends nothing, or that of the sender, whose packet stands at the start
-- of the buffer. Assumes nothing.
use Rattle.std.proofs.Common.{sym, ap, ◌∙◌}
use Rattle.sha256.specs.Sha256.{sha256}
use Rattle.party.specs.Steps.{open_of}
use Rattle.party.proofs.Sender.{sender-message, other-message, alone-packet, other-packet}
use Rattle.party.proofs.Refused.{refused-sender}
use Rattle.party.proofs.Openings.{silent, sent-all, sent-none}
use Rattle.party.proofs.Party.open_by_sender.Goals as goal

pub returns-in-Err : goal.returns-in-Err
returns-in-Err c =
    let a = c.args in
    rw c.turned_away.ensures (refused-sender sha256 c.in-Err.cause a.session a.n a.t a.own a.sender a.bytes.now a.out.now c.in-Err.ensures)

pub returns-then-own-sender : goal.returns-then-own-sender
returns-then-own-sender c =
    let a = c.args in
    rw c.begin.ensures (silent sha256 a.session a.n a.t a.own a.sender a.bytes.now a.out.now (sym c.in_default.ensures) c.open_with_packet.result
    (c.open_with_packet.ensures ∙ ap (open_of sha256 a.session a.n a.t a.own) (sym (other-message a.own a.sender a.bytes.now c.if-own-sender.true)))
    (other-packet a.own a.sender a.bytes.now a.n c.if-own-sender.true))

pub returns-then-n-eq1 : goal.returns-then-n-eq1
returns-then-n-eq1 c =
    let a = c.args in
    let b = c.open_and_begin.ensures in
    rw b.is (silent sha256 a.session a.n a.t a.own a.sender a.bytes.now a.out.now (sym c.in_default.ensures) b.opening
    (b.says ∙ ap (open_of sha256 a.session a.n a.t a.own) (sym (sender-message a.own a.sender a.bytes.now c.if-own-sender.false)))
    (alone-packet a.own a.sender a.bytes.now a.n c.if-n-eq1.true))

pub returns-in-Ok : goal.returns-in-Ok
returns-in-Ok c =
    let a = c.args in
    let b = c.open_and_begin-in-Ok.ensures in
    rw b.is (sent-all sha256 a.session a.n a.t a.own a.sender a.bytes.now a.out.now (sym c.in_default.ensures) c.if-own-sender.false c.if-n-eq1.false
    c.write_message.new.out b.opening
    (b.says ∙ ap (open_of sha256 a.session a.n a.t a.own) (sym (sender-message a.own a.sender a.bytes.now c.if-own-sender.false)))
    c.in-Ok.len c.in-Ok.ensures)

pub returns-in-Err-write_message : goal.returns-in-Err-write_message
returns-in-Err-write_message c =
    let a = c.args in
    rw c.turned_away-in-Err-write_message.ensures (sent-none sha256 a.session a.n a.t a.own a.sender a.bytes.now a.out.now (sym c.in_default.ensures) c.if-own-sender.false c.if-n-eq1.false
    c.write_message.new.out c.in-Err-write_message.refusal c.in-Err-write_message.ensures)
