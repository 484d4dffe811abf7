-- The bytes of a packet with a whole message (document 02, No. 5), what bytes say as one, and the answers of its reader and writer. Its map shares no value
-- with a share's packet, so that neither reader takes the other's (`Messages`). What `message_packet` gives is read back (`message-read`), and bytes read as a
-- message are `message_packet` of it (`read-message`). Assumes nothing.
use Rattle.std.specs.Prelude.{cond, not, ◌&&◌, ◌||◌, List, ◌∷◌, ℕ, ◌+◌, ◌*◌, ◌/◌, ◌%◌, ltb, eqb, length, get_or, drop}
use Rattle.limits.specs.Limits.{max_message}
use Rattle.buffer.specs.Given.{Given}
use Rattle.packet.specs.Answer.{written_unless}
use Rattle.packet.specs.MessagePacket.{MessagePacket}
use Rattle.packet.specs.MessagePacket as packet

-- the greatest length of such a packet
abbrev pub max_message_packet : ℕ
max_message_packet = 3 + max_message

-- a message's packet: the map with its value 8 alone; the length in two bytes and the message
unfoldable pub message_packet : List ℕ → List ℕ
message_packet m = 0x08 ∷ length m / 256 ∷ length m % 256 ∷ m

-- what bytes say as such a packet
pub data Reading : Type 0 where
  silence unreadable : Reading
  message : List ℕ → Reading

-- the length of the message that a packet of map 8 states
abbrev pub length_in : List ℕ → ℕ
length_in p = get_or p 1 0 * 256 + get_or p 2 0

-- a packet of map 8 is unreadable if its length is not all there, is over the greatest one, or is not that of the bytes behind it
unfoldable pub message_in : List ℕ → Reading
message_in p =
    cond (ltb (length p) 3 || ltb max_message (length_in p) || not (eqb (length p) (3 + length_in p))) unreadable (message (drop 3 p))

-- no bytes, or the map 0 alone, is silence; a packet of any other map than 8 is unreadable
unfoldable pub read_message : List ℕ → Reading
read_message p =
    cond (eqb (length p) 0) silence
    (cond (eqb (get_or p 0 0) 8) (message_in p)
    (cond (eqb (get_or p 0 0) 0 && eqb (length p) 1) silence
    unreadable))

-- the reader's answer: a message by its length, since it begins at byte 3
abbrev pub placed : Reading → MessagePacket
placed silence = packet.Silence
placed unreadable = packet.Refused 10
placed (message m) = packet.Message (length m)

-- document 01's number of the cause for which a reading was turned away, 0 if it was not; and the value given with it, the message's length
abbrev pub cause_in : MessagePacket → ℕ
cause_in (packet.Refused k) = k
cause_in packet.Silence = 0
cause_in (packet.Message l) = 0

abbrev pub value_in : MessagePacket → ℕ
value_in (packet.Refused k) = 0
value_in packet.Silence = 0
value_in (packet.Message l) = l

-- what reading gives back
pub record Told : Type 0 where
  pub answer : MessagePacket
  pub cause : ℕ
  pub value : ℕ

abbrev pub told : MessagePacket → Told
told p = record { answer = p; cause = cause_in p; value = value_in p }

-- a message's packet in a lent buffer: cause 4, a message over the greatest length, then 9
unfoldable pub write_message_of : List ℕ → List ℕ → Given
write_message_of m out = written_unless (cond (ltb max_message (length m)) 4 0) (message_packet m) out
