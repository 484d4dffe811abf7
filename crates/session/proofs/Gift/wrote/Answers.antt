-- `Gift::wrote` meets its contract: what the sender's opening wrote, copied. Assumes nothing.
use Rattle.std.proofs.Common.{◌≡◌, ℕ, length, take, sym, ap, ap₂, ◌∙◌, arith}
use lib.ListN.{length-replicate}
use lib.Seq.{length-take-le}
use Rattle.sha256.specs.Sha256.{sha256}
use Rattle.buffer.proofs.Splice.{put-fits, take-spliced}
use Rattle.packet.specs.Message.{max_message_packet}
use Rattle.party.specs.Sender.{Begun}
use Rattle.session.proofs.Openings.{sender-begins}
use Rattle.session.proofs.Rule.{known, taken, begun-ok, begun-value, sender-gives}
use Rattle.session.proofs.Gift.wrote.Goals as goal

pub unwrap-size-requires : goal.unwrap-size-requires
unwrap-size-requires c =
    let g = c.args.self.now in
    begun-ok _ _ (ap (λ (x : Begun). x.opened.cause) c.begun-begun.ensures
    ∙ sender-begins g.play.bytes.now (taken g.play) sha256 g.named g.sender _ g.sender_is c.book-len.ensures.1)

pub slice_bounds-packet-end : goal.slice_bounds-packet-end
slice_bounds-packet-end c =
    let g = c.args.self.now in
    let w = sender-gives _ _ (known g.play) sha256 g.sender _ g.sender_is c.book-len.ensures.1 _ c.begun-begun.ensures in
    omega (arith, begun-value _ _ c.unwrap-size.ensures, w.0, c.begun-begun.auto.out, length-replicate {A = ℕ} max_message_packet 0)

pub slice_bounds-put-end : goal.slice_bounds-put-end
slice_bounds-put-end c =
    let g = c.args.self.now in
    let w = sender-gives _ _ (known g.play) sha256 g.sender _ g.sender_is c.book-len.ensures.1 _ c.begun-begun.ensures in
    sym (length-take-le c.unwrap-size.result.len _
    (omega (arith, begun-value _ _ c.unwrap-size.ensures, w.0, c.begun-begun.auto.out, length-replicate {A = ℕ} max_message_packet 0)))

pub returns : goal.returns
returns c =
    let g = c.args.self.now in
    let w = sender-gives _ _ (known g.play) sha256 g.sender _ g.sender_is c.book-len.ensures.1 _ c.begun-begun.ensures in
    let o = c.args.out.now in
    let l = c.unwrap-size.result.len in
    let v = begun-value _ _ c.unwrap-size.ensures in
    let packet = c.begun-begun.new.out in
    let x = take l packet in
    let size : length x ≡ l = length-take-le l _ (omega (arith, v, w.0, c.begun-begun.auto.out, length-replicate {A = ℕ} max_message_packet 0)) in (
      omega (arith, v, w.0),
      ap₂ take (sym size) (c.put.ensures.1 ∙ put-fits o 0 x (omega (arith, size, v, w.0, c.requires))) ∙ take-spliced o x
          ∙ ap (λ (k : ℕ). take k packet) (sym v) ∙ w.1,
    )
