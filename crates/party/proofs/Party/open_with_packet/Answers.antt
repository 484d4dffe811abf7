-- `party::Party::open_with_packet` meets its contract: the message that is read lies behind the head of the packet. Assumes nothing.
use Rattle.std.proofs.Common.{◌≡◌, Option, Ok, List, ℕ, ◌+◌, ◌-◌, length, take, drop, sym, ap, ◌∙◌, arith}
use Rattle.std.proofs.lemmas.List.{length-drop, take_all}
use Rattle.sha256.specs.Sha256.{sha256}
use Rattle.packet.specs.Message.{message, read_message, placed, Told}
use Rattle.packet.specs.MessagePacket.{Message, message_said}
use Rattle.packet.proofs.Messages.{whole_of, placed-message}
use Rattle.party.specs.Steps.{open_of}
use Rattle.party.specs.Sender.{message_read}
use Rattle.party.proofs.Party.open_with_packet.Goals as goal

-- where a message of so many bytes is read
module _ (bs : List ℕ) (len : ℕ) (is : Message len ≡ placed (read_message bs)) where
  read : (m : List ℕ) × (read_message bs ≡ message m) × (length m ≡ len)
  read = placed-message (read_message bs) len (sym is)

  size : length bs ≡ 3 + len
  size = let w = whole_of bs read.0 read.1 in omega (arith, w.fits, ap length w.is, read.2, length-drop 3 bs)

  lies : take (3 + len - 3) (drop 3 bs) ≡ message_read (read_message bs)
  lies = take_all (3 + len - 3) (drop 3 bs) (omega (arith, length-drop 3 bs, size)) ∙ (whole_of bs read.0 read.1).is ∙ ap message_read (sym read.1)

pub overflow_add-len : goal.overflow_add-len
overflow_add-len c = omega (arith, size c.args.bytes.now c.in-Ok-Some.len (sym (ap (λ (o : Option ℕ). message_said (Ok o)) c.in-Ok-Some.field-0-is) ∙ ap (λ (t : Told). t.answer) c.in-Ok-Some.ensures))

pub slice_bounds-open-end : goal.slice_bounds-open-end
slice_bounds-open-end c = omega (arith, size c.args.bytes.now c.in-Ok-Some.len (sym (ap (λ (o : Option ℕ). message_said (Ok o)) c.in-Ok-Some.field-0-is) ∙ ap (λ (t : Told). t.answer) c.in-Ok-Some.ensures))

pub returns-in-Ok-Some : goal.returns-in-Ok-Some
returns-in-Ok-Some c =
    let a = c.args in
    c.open.ensures
    ∙ ap (open_of sha256 a.session a.n a.t a.own) (lies a.bytes.now c.in-Ok-Some.len (sym (ap (λ (o : Option ℕ). message_said (Ok o)) c.in-Ok-Some.field-0-is) ∙ ap (λ (t : Told). t.answer) c.in-Ok-Some.ensures))
