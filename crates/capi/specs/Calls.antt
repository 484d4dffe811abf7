-- What each exported function gives back: its number, with the cause in the upper half and the value in the lower, and the bytes of the lent
-- buffers. Every one is the definition of the party, the coder, the tree, the commitment or the packets, on what the bytes say. The hash is a parameter H.
-- Assumes nothing.
use Rattle.std.specs.Prelude.{Bool, cond, not, ◌&&◌, Some, None, List, ℕ, ◌+◌, ◌*◌, ◌/◌, ◌%◌, ◌^◌, ltb, eqb, length}
use Rattle.std.proofs.Math.Option.{Option, none, some}
use Rattle.buffer.specs.Given.{Given, written}
use Rattle.erasure.specs.Coding.{encode_of}
use Rattle.erasure.specs.Rebuild.{rebuild_of}
use Rattle.commitment.specs.Rebuild.{rebuild_with_root_of}
use Rattle.sha256.specs.Sha256.{hash_of}
use Rattle.merkle.specs.Shares.{check_of}
use Rattle.packet.specs.Format.{hashes}
use Rattle.packet.specs.Answer.{read_at}
use Rattle.packet.specs.Message.{placed, read_message}
use Rattle.packet.specs.MessagePacket.{MessagePacket}
use Rattle.packet.specs.MessagePacket as whole
use Rattle.packet.specs.Packet.{Packet}
use Rattle.packet.specs.Packet as packet
use Rattle.party.specs.State.{Result, nothing, settled, broken}
use Rattle.party.specs.Steps.{open_of, Stepped}
use Rattle.party.specs.Sender.{sender_cause, open_by_sender_of}
use Rattle.party.specs.declared.Stage.{Stage}
use Rattle.party.specs.declared.Stage.TheVariants.{Root, Bit, First, Second, Ended}
use Rattle.party.specs.declared.Party.{Party}
use Rattle.state_bytes.specs.Layout.{state_length, stage_number, state_bytes, state_of}
use Rattle.agreement.specs.Calls.{Call, made}

-- the version of the library, as one number: major, minor and patch
abbrev pub version_of : ℕ → ℕ → ℕ → ℕ
version_of major minor patch = major * 2 ^ 16 + minor * 2 ^ 8 + patch

abbrev pub library_version : ℕ
library_version = version_of 4 0 0

-- a cause (0: accepted) in the upper 32 bits, a value in the lower
unfoldable pub packed : ℕ → ℕ → ℕ
packed cause value = cause * 2 ^ 32 + value

-- a number, with one lent buffer or with two
pub record Returned : Type 0 where
  pub number : ℕ
  pub buffer : List ℕ

abbrev pub returned : ℕ → List ℕ → Returned
returned r o = record { number = r; buffer = o }

pub record Replies : Type 0 where
  pub number : ℕ
  pub state : List ℕ
  pub out : List ℕ

abbrev pub replies : ℕ → List ℕ → List ℕ → Replies
replies r s o = record { number = r; state = s; out = o }

-- a number, with the buffers for a state, a root and a packet
pub record Opens : Type 0 where
  pub number : ℕ
  pub state : List ℕ
  pub root : List ℕ
  pub out : List ℕ

abbrev pub opens : ℕ → List ℕ → List ℕ → List ℕ → Opens
opens r s z o = record { number = r; state = s; root = z; out = o }

-- the value of a step; of an accepted step 5 twice the map of parties seen to be faulty, and 1 more if the result is a message: bit 0 tells of a message, bit
-- p of party p. The message's length the state tells (`result_length_call`)
abbrev pub value_shown : Option Result → ℕ → ℕ → ℕ
value_shown none faulty value = value
value_shown (some nothing) faulty value = 2 * faulty
value_shown (some (settled m)) faulty value = 2 * faulty + 1

-- what a step gave back, as one number
abbrev pub number_of : Stepped → ℕ
number_of r = packed r.cause (value_shown r.result r.faulty r.value)

-- and with the buffer that holds the state: an accepted call writes the new state over the old one, a refused call leaves every byte
abbrev pub over : List ℕ → Stepped → Replies
over s r = replies (number_of r) (cond (eqb r.cause 0) (written (state_bytes r.state) s).buffer s) r.buffer

module _ (H : List ℕ → List ℕ) where
  -- step 1: causes 1 to 4, then 9 for the state's buffer, then 9 for the root's
  unfoldable pub open_call : ℕ → ℕ → ℕ → ℕ → List ℕ → List ℕ → List ℕ → Replies
  open_call session n t own m s z =
      let r = open_of H session n t own m in
      cond (not (eqb r.cause 0)) (replies (packed r.cause 0) s z)
      (cond (ltb (length s) state_length) (replies (packed 9 state_length) s z)
      (cond (ltb (length z) 32) (replies (packed 9 32) s z)
      (replies (packed 0 32) (written (state_bytes r.state) s).buffer (written r.root z).buffer)))

  -- step 1 by a named sender: causes 1 to 4, then 9 for the state's buffer, the root's and the packet's, in this order; the value is the packet's length, 0
  -- where none is written
  unfoldable pub open_by_sender_call : ℕ → ℕ → ℕ → ℕ → ℕ → List ℕ → List ℕ → List ℕ → List ℕ → Opens
  open_by_sender_call session n t own sender bs s z out =
      let k = sender_cause n t own sender bs in
      let r = open_by_sender_of H session n t own sender bs out in
      cond (not (eqb k 0)) (opens (packed k 0) s z out)
      (cond (ltb (length s) state_length) (opens (packed 9 state_length) s z out)
      (cond (ltb (length z) 32) (opens (packed 9 32) s z out)
      (cond (not (eqb r.opened.cause 0)) (opens (packed r.opened.cause r.value) s z out)
      (opens (packed 0 r.value) (written (state_bytes r.opened.state) s).buffer (written r.opened.root z).buffer r.buffer))))

  -- steps 2 to 5: the party's call, on the state that the bytes say. Step 2 has no out buffer
  unfoldable pub called : List ℕ → Call → Replies
  called s c = over s (made H (state_of s) c)

-- what is asked of a state: cause 5 where the bytes are none, as the steps judge it
abbrev pub unless_broken : Party → ℕ → ℕ
unless_broken x answer = cond (broken x) (packed 5 0) answer

-- the number of its stage, 0 to 5
unfoldable pub stage_call : List ℕ → ℕ
stage_call s = unless_broken (state_of s) (packed 0 (stage_number (state_of s).stage))

-- the party's own number
unfoldable pub own_call : List ℕ → ℕ
own_call s = unless_broken (state_of s) (packed 0 (state_of s).seat.own)

-- the number of its session
unfoldable pub session_call : List ℕ → ℕ
session_call s = unless_broken (state_of s) (packed 0 (state_of s).seat.session)

-- the map of the parties that it saw to be faulty
unfoldable pub faulty_call : List ℕ → ℕ
faulty_call s = unless_broken (state_of s) (packed 0 (state_of s).faulty)

-- the length of the message that the party ended with; cause 6 where it waits, or ended with nothing
abbrev pub length_answer : Stage → ℕ
length_answer Root = packed 6 0
length_answer Bit = packed 6 0
length_answer First = packed 6 0
length_answer Second = packed 6 0
length_answer (Ended None) = packed 6 0
length_answer (Ended (Some l)) = packed 0 l

unfoldable pub result_length_call : List ℕ → ℕ
result_length_call s = unless_broken (state_of s) (length_answer (state_of s).stage)

-- a packet read: 0 for silence; else how many hashes follow the share, its number and its length
abbrev pub read_answer : Packet → ℕ
read_answer (packet.Refused k) = packed k 0
read_answer packet.Silence = packed 0 0
read_answer (packet.Share number from len count) = packed 0 (count * 2 ^ 24 + number * 2 ^ 16 + len)

unfoldable pub read_packet_call : ℕ → List ℕ → ℕ
read_packet_call n p = read_answer (read_at n p 0)

-- the packet of a named sender read: 0 for silence, else 2^16 and the message's length
abbrev pub message_answer : MessagePacket → ℕ
message_answer (whole.Refused k) = packed k 0
message_answer whole.Silence = packed 0 0
message_answer (whole.Message l) = packed 0 (2 ^ 16 + l)

unfoldable pub read_message_call : List ℕ → ℕ
read_message_call p = message_answer (placed (read_message p))

-- the path check: 1 yes, 0 no. No path that is not of whole hashes passes; of one that is, all hashes count
abbrev pub check_answer : ℕ → Bool → ℕ
check_answer cause passed = packed cause (cond passed 1 0)

module _ (H : List ℕ → List ℕ) where
  unfoldable pub check_path_call : ℕ → ℕ → ℕ → List ℕ → List ℕ → List ℕ → ℕ
  check_path_call session n j share path root =
      let r = check_of H session n j share (hashes (length path / 32) path) (length path / 32) root in
      check_answer r.cause (eqb (length path % 32) 0 && r.passed)

-- what a function that writes into a lent buffer gives back, as one number
abbrev pub filled : Given → Returned
filled g = returned (packed g.cause g.value) g.buffer

unfoldable pub shares_call : ℕ → ℕ → List ℕ → List ℕ → Returned
shares_call n t m out = filled (encode_of n t m out)

unfoldable pub rebuild_call : ℕ → ℕ → List ℕ → List ℕ → Returned
rebuild_call n t es out = filled (rebuild_of n t es out)

-- the same under a root z, which is handed in before the entries
module _ (H : List ℕ → List ℕ) where
  unfoldable pub rebuild_with_root_call : ℕ → ℕ → ℕ → List ℕ → List ℕ → List ℕ → Returned
  rebuild_with_root_call session n t z es out = filled (rebuild_with_root_of H session n t z es out)

-- SHA-256 of a message: causes 4 and 9
unfoldable pub hash_call : List ℕ → List ℕ → Returned
hash_call m out =
    let h = hash_of m in
    cond (not (eqb h.cause 0)) (returned (packed h.cause 0) out) (filled (written h.digest out))
