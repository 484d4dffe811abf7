-- The opening by a named sender (document 02, No. 5): one party alone has the message, and gives it whole to all others, who open with what they read of it.
-- The state and the root are those of the ordinary opening (`open_of`). The hash of the tree is a parameter H. Assumes nothing.
use Rattle.std.specs.Prelude.{cond, not, ◌&&◌, List, [], ℕ, ltb, eqb, length}
use Rattle.limits.specs.Limits.{max_message, numbered, group_cause}
use Rattle.buffer.specs.Splice.{spliced}
use Rattle.packet.specs.Message.{Reading, silence, unreadable, message, message_packet, read_message}
use Rattle.party.specs.Steps.{refused_opening, open_of}
use Rattle.party.specs.declared.OpenedBySender.{OpenedBySender}
use Rattle.party.specs.Answer.{Opened, opened_by, value_by}

-- the message in a packet that was read; the empty one where there is none
abbrev pub message_read : Reading → List ℕ
message_read silence = []
message_read unreadable = []
message_read (message m) = m

-- the message that a party opens with: the sender with its own, which it is handed; another with what it reads in the packet that came
abbrev pub message_by : ℕ → ℕ → List ℕ → List ℕ
message_by own sender bs = cond (eqb own sender) bs (message_read (read_message bs))

-- what it sends to every other party among n: the sender the packet of its message, but none where it is alone
abbrev pub packet_by : ℕ → ℕ → ℕ → List ℕ → List ℕ
packet_by n own sender bs = cond (eqb own sender && not (eqb n 1)) (message_packet bs) []

-- causes 1, 2, 3 of the own number and then of the sender's, and 4, which only the sender's own message can have; 0: none
unfoldable pub sender_cause : ℕ → ℕ → ℕ → ℕ → List ℕ → ℕ
sender_cause n t own sender bs =
    cond (not (eqb (group_cause n t) 0)) (group_cause n t)
    (cond (not (numbered n own)) 3
    (cond (not (numbered n sender)) 3
    (cond (ltb max_message (length (message_by own sender bs))) 4
    0)))

-- what the call gives back: the opening; how many bytes were written for the others, or are needed with cause 9; and the lent buffer
pub record Begun : Type 0 where
  pub opened : Opened
  pub value : ℕ
  pub buffer : List ℕ

abbrev pub begun : OpenedBySender → List ℕ → Begun
begun r out = record { opened = opened_by r.state r.answer; value = value_by r.answer; buffer = out }

abbrev pub refused_by : ℕ → ℕ → List ℕ → Begun
refused_by k value out = record { opened = refused_opening k; value = value; buffer = out }

-- causes 1, 2, 3, 4, then 9 for the packet; else the ordinary opening, and the packet at the start of the buffer
module _ (H : List ℕ → List ℕ) where
  unfoldable pub open_by_sender_of : ℕ → ℕ → ℕ → ℕ → ℕ → List ℕ → List ℕ → Begun
  open_by_sender_of session n t own sender bs out =
      let p = packet_by n own sender bs in
      cond (not (eqb (sender_cause n t own sender bs) 0)) (refused_by (sender_cause n t own sender bs) 0 out)
      (cond (ltb (length out) (length p)) (refused_by 9 (length p) out)
      (record { opened = open_of H session n t own (message_by own sender bs); value = length p; buffer = spliced out 0 p }))
