-- The opening by a named sender: its causes, one law for each outcome, and what it gives where none applies, by whether the party is the sender. What a party
-- reads is never too long, and reads back what a good sender wrote. By the tests of the definitions. Assumes nothing.
use mathlib.Core.Path.{◌≡◌, refl, sym, ap, ◌∙◌}
use mathlib.Core.Logic.{◌≢◌}
use mathlib.Core.Bool.{Bool, true, false, cond, not, ◌&&◌}
use mathlib.Core.List.{List, []}
use Prim.Native.Nat.{ℕ, ◌+◌, ◌*◌, ◌<◌, ◌≤◌}
use native.Mathlib.Decide.{ℕ_discrete, dec_lt}
use native.Mathlib.Omega.{arith}
use borrow.Author.Tests.{lt-ltb, le-ltb, eq-eqb, ne_eqb, ltb-false, not-false}
use lib.Dec.{leb, ltb, eqb, lit<}
use lib.ListN.{length, take}
use Rattle.limits.specs.Limits.{max_message, parties, numbered, group_cause}
use Rattle.limits.proofs.Ranges.{numbered_within, numbered-range}
use Rattle.buffer.specs.Bounds.{Bytes}
use Rattle.buffer.specs.Splice.{spliced}
use Rattle.buffer.proofs.Splice.{spliced-none, take-spliced}
use Rattle.buffer.proofs.Bounds.{drop-bytes}
use Rattle.packet.specs.Message.{max_message_packet, Reading, silence, unreadable, message, message_packet, read_message}
use Rattle.packet.proofs.Messages.{packet-length, message-read, whole_of, read_length}
use Rattle.commitment.specs.Commitment.{open_cause}
use Rattle.commitment.proofs.Opening.{spared, cleared, open-bounds, open-fine}
use Rattle.party.specs.Steps.{open_of}
use Rattle.party.specs.Sender.{message_read, message_by, packet_by, sender_cause, Begun, refused_by, open_by_sender_of}

-- what is read is no longer than any message, and of bytes
module _ (bs : List ℕ) where
  pub read_short : length (message_read (read_message bs)) ≤ max_message
  read_short = go (read_message bs) refl
    where
      go : (r : Reading) → read_message bs ≡ r → length (message_read r) ≤ max_message
      go silence e = omega arith
      go unreadable e = omega arith
      go (message m) e = read_length bs m e

  read-bytes : Bytes bs → Bytes (message_read (read_message bs))
  read-bytes h = go (read_message bs) refl
    where
      go : (r : Reading) → read_message bs ≡ r → Bytes (message_read r)
      go silence e = λ i. lit< tt
      go unreadable e = λ i. lit< tt
      go (message m) e = λ i. rw (sym (whole_of bs m e).is) (drop-bytes 3 bs h i)

-- what a party opens with, and sends
module _ (own sender : ℕ) (bs : List ℕ) where
  pub sender-message : own ≡ sender → message_by own sender bs ≡ bs
  sender-message e = rw (eq-eqb own sender e)

  pub other-message : own ≢ sender → message_by own sender bs ≡ message_read (read_message bs)
  other-message d = rw (ne_eqb own sender d)

  pub message-bytes : Bytes bs → Bytes (message_by own sender bs)
  message-bytes h = go (eqb own sender)
    where
      go : (b : Bool) → Bytes (cond b bs (message_read (read_message bs)))
      go true = h
      go false = read-bytes bs h

  pub sender-packet : (n : ℕ) → own ≡ sender → n ≢ 1 → packet_by n own sender bs ≡ message_packet bs
  sender-packet n e d = rw (eq-eqb own sender e, ne_eqb n 1 d)

  pub alone-packet : (n : ℕ) → n ≡ 1 → packet_by n own sender bs ≡ []
  alone-packet n e = go (eqb own sender)
    where
      go : (b : Bool) → cond (b && not (eqb n 1)) (message_packet bs) [] ≡ []
      go true = rw (eq-eqb n 1 e)
      go false = refl

  pub other-packet : (n : ℕ) → own ≢ sender → packet_by n own sender bs ≡ []
  other-packet n d = rw (ne_eqb own sender d)

-- no packet is longer than three bytes and what the party is handed
pub packet-short : (n own sender : ℕ) (bs : List ℕ) → length (packet_by n own sender bs) ≤ 3 + length bs
packet-short n own sender bs = go (eqb own sender && not (eqb n 1))
  where
    go : (b : Bool) → length (cond b (message_packet bs) []) ≤ 3 + length bs
    go true = omega (arith, packet-length bs)
    go false = omega arith

-- what others read in the packet of a message is the message
pub sent-read : (m : List ℕ) → length m ≤ max_message → message_read (read_message (message_packet m)) ≡ m
sent-read m h = ap message_read (message-read m h)

module _ (n t own sender : ℕ) (bs : List ℕ) where
  -- no cause
  module _ (seat : open_cause n t own 0 ≡ 0) where
    group : group_cause n t ≡ 0
    group = (open-bounds n t own 0 seat).0

    there : numbered n own ≡ true
    there = let b = open-bounds n t own 0 seat in numbered_within n own b.1 b.2

    module _ (known : numbered n sender ≡ true) where
      pub cause-none : length (message_by own sender bs) ≤ max_message → sender_cause n t own sender bs ≡ 0
      unfolding sender_cause
      cause-none h =
          rw (eq-eqb (group_cause n t) 0 group, there, known, le-ltb max_message (length (message_by own sender bs)) h)

  pub cause-small : sender_cause n t own sender bs < 5
  unfolding sender_cause group_cause
  cause-small =
      go (not (parties n)) (leb n (2 * t)) (not (numbered n own)) (not (numbered n sender)) (ltb max_message (length (message_by own sender bs)))
    where
      go : (a b c d e : Bool) → let g : ℕ = cond a 1 (cond b 2 0) in cond (not (eqb g 0)) g (cond c 3 (cond d 3 (cond e 4 0))) < 5
      go true b c d e = lit< tt
      go false true c d e = lit< tt
      go false false true d e = lit< tt
      go false false false true e = lit< tt
      go false false false false true = lit< tt
      go false false false false false = lit< tt

  -- where none applies, none applies to the ordinary opening, and the sender is one of the parties
  pub cause-bounds : sender_cause n t own sender bs ≡ 0
      → (open_cause n t own (length (message_by own sender bs)) ≡ 0) × (1 ≤ sender) × (sender ≤ n)
  unfolding sender_cause
  cause-bounds e =
      let len : ℕ = length (message_by own sender bs) in
      let last : ℕ = cond (ltb max_message len) 4 0 in
      let g = cleared (group_cause n t) (cond (not (numbered n own)) 3 (cond (not (numbered n sender)) 3 last)) e in
      let h = spared (not (numbered n own)) 2 (cond (not (numbered n sender)) 3 last) g.1 in
      let k = spared (not (numbered n sender)) 2 last h.1 in
      let l = spared (ltb max_message len) 3 0 k.1 in
      let o = numbered-range n own (not-false (numbered n own) h.0) in
      let q = numbered-range n sender (not-false (numbered n sender) k.0) in
      (open-fine n t own len g.0 o.0 o.1 (ltb-false max_message len l.0), q.0, q.1)

  -- then the packet has room where the longest has
  pub packet-fits : sender_cause n t own sender bs ≡ 0 → length (packet_by n own sender bs) ≤ max_message_packet
  packet-fits e = elim (ℕ_discrete own sender) [
    | yes q ↦ omega (
      arith,
      packet-short n own sender bs,
      (open-bounds n t own (length (message_by own sender bs)) (cause-bounds e).0).3,
      ap length (sender-message own sender bs q),
    )
    | no d ↦ omega (arith, ap length (other-packet own sender bs n d))
  ]

  -- the outcomes
  module _ (H : List ℕ → List ℕ) (session : ℕ) (out : List ℕ) where
    abbrev packet : List ℕ
    packet = packet_by n own sender bs

    pub begun-refused : (sender_cause n t own sender bs ≡ 0 → ⊥)
        → open_by_sender_of H session n t own sender bs out ≡ refused_by (sender_cause n t own sender bs) 0 out
    unfolding open_by_sender_of
    begun-refused d = rw (ne_eqb (sender_cause n t own sender bs) 0 d)

    module _ (fine : sender_cause n t own sender bs ≡ 0) where
      pub begun-short : length out < length packet → open_by_sender_of H session n t own sender bs out ≡ refused_by 9 (length packet) out
      unfolding open_by_sender_of
      begun-short h = rw (eq-eqb (sender_cause n t own sender bs) 0 fine, lt-ltb (length out) (length packet) h)

      pub begun-given : length packet ≤ length out → open_by_sender_of H session n t own sender bs out
          ≡ record { opened = open_of H session n t own (message_by own sender bs); value = length packet; buffer = spliced out 0 packet }
      unfolding open_by_sender_of
      begun-given h = rw (eq-eqb (sender_cause n t own sender bs) 0 fine, le-ltb (length out) (length packet) h)

      -- a party that sends nothing leaves the buffer
      pub begun-silent : packet ≡ [] → open_by_sender_of H session n t own sender bs out
          ≡ record { opened = open_of H session n t own (message_by own sender bs); value = 0; buffer = out }
      begun-silent e =
          begun-given (omega (arith, ap length e))
          ∙ ap (λ (p : List ℕ). record { opened = open_of H session n t own (message_by own sender bs); value = length p; buffer = spliced out 0 p }) e
          ∙ ap (λ (o : List ℕ). record { opened = open_of H session n t own (message_by own sender bs); value = 0; buffer = o }) (spliced-none out 0)

    -- an accepted one has no cause, and its packet fits; so it gives the ordinary opening, and the packet stands in the buffer
    pub accepted-fits : (open_by_sender_of H session n t own sender bs out).opened.cause ≡ 0 → (sender_cause n t own sender bs ≡ 0) × (length packet ≤ length out)
    accepted-fits e = elim (ℕ_discrete (sender_cause n t own sender bs) 0) [
      | yes f ↦ (
        f,
        elim (dec_lt (length out) (length packet)) [
          | yes l ↦ absurd (let z : ◌≡◌ {A = ℕ} 9 0 = sym (ap (λ (r : Begun). r.opened.cause) (begun-short f l)) ∙ e in omega arith)
          | no d ↦ omega arith
        ],
      )
      | no d ↦ absurd (d (sym (ap (λ (r : Begun). r.opened.cause) (begun-refused d)) ∙ e))
    ]

    module _ (accepted : (open_by_sender_of H session n t own sender bs out).opened.cause ≡ 0) where
      pub accepted-opens : (open_by_sender_of H session n t own sender bs out).opened ≡ open_of H session n t own (message_by own sender bs)
      accepted-opens = let f = accepted-fits accepted in ap (λ (r : Begun). r.opened) (begun-given f.0 f.1)

      pub accepted-wrote : take (open_by_sender_of H session n t own sender bs out).value (open_by_sender_of H session n t own sender bs out).buffer ≡ packet
      accepted-wrote =
          let f = accepted-fits accepted in
          ap (λ (r : Begun). take r.value r.buffer) (begun-given f.0 f.1) ∙ take-spliced out packet

    -- whatever comes of it, the length that it tells is at most that of the longest packet
    pub value-fits : (open_by_sender_of H session n t own sender bs out).value ≤ max_message_packet
    value-fits = elim (ℕ_discrete (sender_cause n t own sender bs) 0) [
      | yes f ↦ elim (dec_lt (length out) (length packet)) [
        | yes l ↦ omega (arith, ap (λ (r : Begun). r.value) (begun-short f l), packet-fits f)
        | no d ↦ omega (arith, ap (λ (r : Begun). r.value) (begun-given f (omega arith)), packet-fits f)
      ]
      | no d ↦ omega (arith, ap (λ (r : Begun). r.value) (begun-refused d))
    ]
