-- Packets with a whole message: what bytes say as one, by one law for each outcome; writing and reading are inverse; and neither reader takes what the
-- other's writer writes. By the tests of the definitions. Assumes nothing.
use mathlib.Core.Path.{◌≡◌, refl, sym, ap, ap₂, ◌∙◌}
use mathlib.Core.Bool.{Bool, true, false, cond, not, ◌&&◌, ◌||◌}
use mathlib.Core.List.{List, [], ◌∷◌}
use Prim.Native.Nat.{ℕ, zero, suc, ◌+◌, ◌*◌, ◌/◌, ◌%◌, ◌<◌, ◌≤◌}
use native.Mathlib.Decide.{dec_lt}
use native.Mathlib.Omega.{arith}
use borrow.Author.Tests.{le-ltb, eq-eqb, ne_eqb, ltb-false, eqb-true}
use lib.Dec.{ltb, eqb, lit<}
use lib.ListN.{length, get_or, drop, length-drop}
use Rattle.limits.specs.Limits.{max_message}
use Rattle.buffer.specs.Bounds.{Bytes}
use Rattle.buffer.specs.Splice.{spliced, put_of}
use Rattle.buffer.specs.Given.{Given, gave, value_of}
use Rattle.buffer.specs.Given.{Written}
use Rattle.buffer.specs.Given.{Short, Done}
use Rattle.buffer.proofs.Given.{written-short, written-done}
use Rattle.buffer.proofs.Splice.{put-fits, length-spliced, spliced-more}
use Rattle.packet.specs.Format.{packet_of, read_of}
use Rattle.packet.specs.Format as share
use Rattle.packet.specs.Message.{Reading, silence, unreadable, message, message_packet, length_in, message_in, read_message, placed, write_message_of}
use Rattle.packet.specs.MessagePacket.{Message}

-- the packet has three bytes more than the message, and is of bytes if the message is
pub packet-length : (m : List ℕ) → length (message_packet m) ≡ 3 + length m
unfolding message_packet
packet-length m = omega arith

pub packet-bytes : (m : List ℕ) → Bytes m → length m ≤ max_message → Bytes (message_packet m)
unfolding message_packet
packet-bytes m small short zero = lit< tt
packet-bytes m small short (suc zero) = omega arith
packet-bytes m small short (suc (suc zero)) = omega arith
packet-bytes m small short (suc (suc (suc i))) = small i

module _ (p : List ℕ) where
  pub message-told : length_in p ≤ max_message → length p ≡ 3 + length_in p → message_in p ≡ message (drop 3 p)
  unfolding message_in
  message-told l e = rw (le-ltb (length p) 3 (omega arith), le-ltb max_message (length_in p) l, eq-eqb (length p) (3 + length_in p) e)

  pub read_whole : 1 ≤ length p → get_or p 0 0 ≡ 8 → read_message p ≡ message_in p
  unfolding read_message
  read_whole h e = rw (ne_eqb (length p) 0 (λ q. omega arith), eq-eqb (get_or p 0 0) 8 e)

  pub read-other : 1 ≤ length p → (get_or p 0 0 ≡ 8 → ⊥) → (get_or p 0 0 ≡ 0 → ⊥) → read_message p ≡ unreadable
  unfolding read_message
  read-other h d f = rw (ne_eqb (length p) 0 (λ q. omega arith), ne_eqb (get_or p 0 0) 8 d, ne_eqb (get_or p 0 0) 0 f)

-- a message's packet is read back
pub message-read : (m : List ℕ) → length m ≤ max_message → read_message (message_packet m) ≡ message m
unfolding message_packet
message-read m short =
    let p : List ℕ = message_packet m in
    let stated : length_in p ≡ length m = omega arith in
    read_whole p (omega arith) refl ∙ message-told p (omega arith) (omega arith)

-- where a message is read, all tests were passed
pub record Whole (p m : List ℕ) : Type 0 where
  pub map : get_or p 0 0 ≡ 8
  pub short : length_in p ≤ max_message
  pub fits : length p ≡ 3 + length_in p
  pub is : drop 3 p ≡ m

not-silence : (m : List ℕ) → silence ≡ message m → ⊥
not-silence m e = cc

not-unreadable : (m : List ℕ) → unreadable ≡ message m → ⊥
not-unreadable m e = cc

tests : (a b c : Bool) (p m : List ℕ) → cond (a || b || not c) unreadable (message (drop 3 p)) ≡ message m
    → (b ≡ false) × (c ≡ true) × (drop 3 p ≡ m)
tests true b c p m e = absurd (not-unreadable m e)
tests false true c p m e = absurd (not-unreadable m e)
tests false false false p m e = absurd (not-unreadable m e)
tests false false true p m e = (refl, refl, cc)

whole_in : (p m : List ℕ) → get_or p 0 0 ≡ 8 → message_in p ≡ message m → Whole p m
unfolding message_in
whole_in p m map e =
    let h = tests (ltb (length p) 3) (ltb max_message (length_in p)) (eqb (length p) (3 + length_in p)) p m e in
    record { map = map; short = ltb-false max_message (length_in p) h.0; fits = eqb-true (length p) (3 + length_in p) h.1; is = h.2 }

pub whole_of : (p m : List ℕ) → read_message p ≡ message m → Whole p m
unfolding read_message
whole_of p m e = go (eqb (length p) 0) (eqb (get_or p 0 0) 8) refl (eqb (get_or p 0 0) 0 && eqb (length p) 1) e
  where
    go : (a b : Bool) → eqb (get_or p 0 0) 8 ≡ b → (c : Bool)
        → cond a silence (cond b (message_in p) (cond c silence unreadable)) ≡ message m → Whole p m
    go true b q c h = absurd (not-silence m h)
    go false true q c h = whole_in p m (eqb-true (get_or p 0 0) 8 q) h
    go false false q true h = absurd (not-silence m h)
    go false false q false h = absurd (not-unreadable m h)

-- and its bytes are the one packet of that message
rejoined : (p m : List ℕ) → Bytes p → Whole p m → p ≡ message_packet m
unfolding message_packet
rejoined [] m small w = absurd (omega (arith, w.fits))
rejoined (a ∷ []) m small w = absurd (omega (arith, w.fits))
rejoined (a ∷ b ∷ []) m small w = absurd (omega (arith, w.fits))
rejoined (a ∷ b ∷ c ∷ r) m small w =
    let byte : c < 256 = small 2 in
    let room : length r ≡ b * 256 + c = omega (arith, w.fits) in
    let high : length r / 256 ≡ b = omega arith in
    let low : length r % 256 ≡ c = omega arith in
    ap₂ (λ (x y : ℕ). a ∷ x ∷ y ∷ r) (sym high) (sym low)
    ∙ ap (λ (x : ℕ). x ∷ length r / 256 ∷ length r % 256 ∷ r) w.map
    ∙ ap message_packet w.is

pub read-message : (p m : List ℕ) → Bytes p → read_message p ≡ message m → p ≡ message_packet m
read-message p m small e = rejoined p m small (whole_of p m e)

-- a message that is read is no longer than any
pub read_length : (p m : List ℕ) → read_message p ≡ message m → length m ≤ max_message
read_length p m e =
    let w = whole_of p m e in
    let d : length (drop 3 p) ≡ length m = ap length w.is in
    omega (arith, w.short, w.fits, length-drop 3 p)

-- a message's packet in a share exchange, and a share's packet in the sender's exchange, are unreadable
pub message-no-share : (n : ℕ) (m : List ℕ) → read_of n (message_packet m) ≡ share.unreadable
unfolding message_packet read_of
message-no-share n m = rw (ne_eqb (length (message_packet m)) 0 (λ q. omega arith))

pub share-no-message : (number : ℕ) (x : List ℕ) (path : List (List ℕ)) → read_message (packet_of number x path) ≡ unreadable
unfolding packet_of read_message
share-no-message number x path = rw (ne_eqb (length (packet_of number x path)) 0 (λ q. omega arith))

-- head and message, written one behind the other, are the packet
pub message-joined : (out m : List ℕ) → 3 + length m ≤ length out → length m ≤ max_message
    → put_of (put_of out 0 (8 ∷ length m / 256 % 256 ∷ length m % 256 ∷ [])) 3 m ≡ spliced out 0 (message_packet m)
unfolding message_packet
message-joined out m room short =
    let head : List ℕ = 8 ∷ length m / 256 ∷ length m % 256 ∷ [] in
    let high : length m / 256 % 256 ≡ length m / 256 = omega arith in
    ap (λ (x : ℕ). put_of (put_of out 0 (8 ∷ x ∷ length m % 256 ∷ [])) 3 m) high
    ∙ ap (λ (o : List ℕ). put_of o 3 m) (put-fits out 0 head (omega arith))
    ∙ put-fits (spliced out 0 head) 3 m (omega (arith, length-spliced out 0 head (omega arith)))
    ∙ spliced-more out 0 head m (omega arith)

-- the writer's answers
module _ (m out : List ℕ) where
  pub write-short : length m ≤ max_message → length out < 3 + length m → write_message_of m out ≡ gave (Short (3 + length m)) out
  unfolding write_message_of
  write-short h l =
      rw (le-ltb max_message (length m) h)
      (written-short (message_packet m) out (omega (arith, packet-length m)) ∙ ap (λ (k : ℕ). gave (Short k) out) (packet-length m))

  pub write_done : length m ≤ max_message → 3 + length m ≤ length out
      → write_message_of m out ≡ gave (Done (3 + length m)) (spliced out 0 (message_packet m))
  unfolding write_message_of
  write_done h l =
      rw (le-ltb max_message (length m) h)
      (written-done (message_packet m) out (omega (arith, packet-length m))
      ∙ ap (λ (k : ℕ). gave (Done k) (spliced out 0 (message_packet m))) (packet-length m))

  -- by the answer: done where the packet fits, else the length that it needs
  module _ (short : length m ≤ max_message) (r : Written) (o : List ℕ) (told : gave r o ≡ write_message_of m out) where
    pub answer-done : (k : ℕ) → r ≡ Done k
        → (3 + length m ≤ length out) × (value_of r ≡ 3 + length m) × (o ≡ spliced out 0 (message_packet m))
    answer-done k e = elim (dec_lt (length out) (3 + length m)) [
      | yes l ↦ let q = told ∙ write-short short l in
          let f : Done k ≡ Short (3 + length m) = sym e ∙ ap (λ (g : Given). g.answer) q in
          absurd cc
      | no d ↦ let q = told ∙ write_done short (omega arith) in
          (omega arith, ap (λ (g : Given). g.value) q, ap (λ (g : Given). g.buffer) q)
    ]

    pub answer-short : ((k : ℕ) → r ≡ Done k → ⊥) → (length out < 3 + length m) × (value_of r ≡ 3 + length m) × (o ≡ out)
    answer-short d = elim (dec_lt (length out) (3 + length m)) [
      | yes l ↦ let q = told ∙ write-short short l in
          (l, ap (λ (g : Given). g.value) q, ap (λ (g : Given). g.buffer) q)
      | no n ↦ let q = told ∙ write_done short (omega arith) in
          absurd (d (3 + length m) (ap (λ (g : Given). g.answer) q))
    ]

-- what the reader's answer tells of what was read
pub placed-message : (r : Reading) (l : ℕ) → placed r ≡ Message l → (m : List ℕ) × (r ≡ message m) × (length m ≡ l)
placed-message silence l e = absurd cc
placed-message unreadable l e = absurd cc
placed-message (message m) l e = (m, refl, cc)
