-- `exchange::Inbox::entry` meets its contract: the packet behind two bytes, and then its length in these. Assumes nothing.
use Rattle.std.proofs.Common.{Result, Ok, ◌≡◌, ◌∙◌, refl, ap, List, ℕ, [], ◌∷◌, ◌++◌, ◌+◌, ◌-◌, ◌/◌, ◌%◌, ◌≤◌, ◌<◌, length, take, drop, arith, length-drop}
use Rattle.limits.specs.Limits.{max_entry}
use Rattle.cause.specs.declared.Cause.{Cause}
use Rattle.cause.specs.declared.Refusal.{Refusal}
use Rattle.buffer.specs.Given.{said, gave, written}
use Rattle.packet.specs.Format.{entry_of}
use Rattle.buffer.specs.Splice.{spliced, put_of}
use Rattle.buffer.proofs.Splice.{put-fits, length-spliced}
use Rattle.buffer.proofs.Parts.{part-rest, tail-spliced}
use Rattle.packet.proofs.Parts.{entry-length}
use Rattle.exchange.specs.Private.{sent_by}
use Rattle.exchange.proofs.Writing.{entry-headed}
use Rattle.exchange.proofs.Sending.{ok-same, given-ok}
use Rattle.exchange.proofs.Rooms.{sent-within}
use Rattle.exchange.proofs.Inbox.entry.Goals as goal

-- what is written behind the first two bytes of a buffer with room for it
behind-two : (w o b : List ℕ) (r : Result ℕ (Refusal Cause)) → 2 + length w ≤ length o → gave (said r) b ≡ written w (take (length o - 2) (drop 2 o))
    → (r ≡ Ok (length w)) × (b ≡ spliced (drop 2 o) 0 w)
behind-two w o b r room e =
    let g = given-ok w (take (length o - 2) (drop 2 o)) r b (omega (arith, ap length (part-rest o 2), length-drop 2 o, room)) e in
    (g.0, g.1 ∙ ap (λ (d : List ℕ). spliced d 0 w) (part-rest o 2))

-- its length, put before it
headed : (w o b : List ℕ) (k : ℕ) → 2 + length w ≤ length o → k ≡ length w → k < 65536 → b ≡ spliced (drop 2 o) 0 w
    → put_of (take 2 o ++ (b ++ drop (length o - 2) (drop 2 o))) 0 (k / 256 % 256 ∷ k % 256 ∷ []) ≡ spliced o 0 (entry_of w)
headed w o b k room e short there =
    let head : List ℕ = k / 256 % 256 ∷ k % 256 ∷ [] in
    ap (λ (x : List ℕ). put_of x 0 head)
    (ap (λ (x : List ℕ). take 2 o ++ (x ++ drop (length o - 2) (drop 2 o))) there ∙ tail-spliced o w 2 (length o - 2) refl)
    ∙ put-fits (spliced o 2 w) 0 head (omega (arith, length-spliced o 2 w room, room))
    ∙ entry-headed o w k (omega (arith, room)) e short

pub unwrap-len-requires : goal.unwrap-len-requires
unwrap-len-requires c = rw (behind-two _ c.args.out.now _ _ c.requires.2 c.sent.ensures).0 refl

pub overflow_cast-len : goal.overflow_cast-len
overflow_cast-len c =
    let x = c.args.self.now in
    let w = sent_by x.mail x.slots.now x.lens.now x.blocks.now x.i c.args.p in
    let long : c.unwrap-len.result ≡ length w = ok-same _ _ _ c.unwrap-len.ensures (behind-two w c.args.out.now _ _ c.requires.2 c.sent.ensures).0 in
    omega (
      arith,
      long,
      sent-within x.mail x.slots.now x.lens.now x.blocks.now x.i max_entry c.args.p c.requires.0 c.requires.1 x.lawful.short (omega (arith, x.lawful.planned)),
    )

pub overflow_add-result : goal.overflow_add-result
overflow_add-result c =
    let x = c.args.self.now in
    let w = sent_by x.mail x.slots.now x.lens.now x.blocks.now x.i c.args.p in
    let long : c.unwrap-len.result ≡ length w = ok-same _ _ _ c.unwrap-len.ensures (behind-two w c.args.out.now _ _ c.requires.2 c.sent.ensures).0 in
    omega (arith, long, c.requires.2)

pub returns : goal.returns
returns c =
    let x = c.args.self.now in
    let w = sent_by x.mail x.slots.now x.lens.now x.blocks.now x.i c.args.p in
    let k = c.unwrap-len.result in
    let y = behind-two w c.args.out.now _ _ c.requires.2 c.sent.ensures in
    let long : k ≡ length w = ok-same _ _ _ c.unwrap-len.ensures y.0 in
    let short : k < 65536 = omega (
      arith,
      long,
      sent-within x.mail x.slots.now x.lens.now x.blocks.now x.i max_entry c.args.p c.requires.0 c.requires.1 x.lawful.short (omega (arith, x.lawful.planned)),
    ) in (
      omega (arith, long, entry-length w),
      c.put.ensures.1 ∙ rw c.to_be_bytes.ensures (headed w c.args.out.now _ k c.requires.2 long short y.1),
    )
