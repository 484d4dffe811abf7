-- The words of the claims: causes in their order, what a step is lent and has to do, and what is told of a good box, be it a party with its states or a
-- host of the C interface with bytes, opened with its own book or by a named sender. Assumes nothing.
use Rattle.std.specs.Prelude.{◌≡◌, Bool, true, false, cond, not, ◌||◌, ◌⊎◌, Some, None, ℕ, ◌+◌, ◌-◌, ◌*◌, ◌/◌, ◌%◌, ◌^◌, ◌<◌, leb, ltb, eqb, length, take}
use mathlib.Core.List.{List, [], ◌∷◌, ◌++◌, map, Memᴰ}
use Rattle.std.proofs.Common.{inl, inr}
use Rattle.std.proofs.Math.Option.{Option, none, some}
use Rattle.limits.specs.Limits.{max_message, parties}
use Rattle.buffer.specs.Splice.{tabulate}
use Rattle.buffer.specs.Entries.{fills, bodies}
use Rattle.buffer.specs.Given.{Given, gave, written}
use Rattle.buffer.specs.Given.{Refused}
use Rattle.erasure.specs.Coding.{share}
use Rattle.erasure.specs.Rebuild.{Recovered, cause, message}
use Rattle.sha256.specs.Sha256.{sha256}
use Rattle.merkle.specs.Tree.{shape, sides, folded}
use Rattle.packet.specs.Format.{Reading, silence, unreadable, shared}
use Rattle.commitment.specs.Rooms.{max_packet, max_outbox}
use Rattle.party.specs.State.{Result, nothing, settled, result_bytes, result_in, has_ended, message_in, at_bit, at_first, at_second, at_end, happy}
use Rattle.party.specs.Steps.{open_of, Stepped, outbox_of, relay_of, held_of, faulty_shares, result_of, faulty_of}
use Rattle.party.specs.Sender.{message_by, open_by_sender_of}
use Rattle.party.specs.declared.Stage.{Stage}
use Rattle.party.specs.declared.Stage.TheVariants.{Root, Bit, First, Second, Ended}
use Rattle.party.specs.declared.Party.{Party}
use Rattle.agreement.specs.Calls.{Call, agree_root, agree_bit, take_shares, take_relays, Event, accepted, events, final, did, opened_and_checked, judged, recoded, lengths, result_after}
use Rattle.agreement.specs.Agreement.{Good, sum_over, join_over}
use Rattle.agreement.specs.Broadcast.{Opener as Begins}
use Rattle.state_bytes.specs.Layout.{state_of}
use Rattle.capi.specs.Calls.{Replies, open_call, open_by_sender_call, called, result_length_call}
use Rattle.capi.specs.Lists.{left}

-- a cause where it applies; and of causes, listed in the order in which they are given, the first that applies; 0: none
abbrev pub when : ℕ → Bool → ℕ
when k b = cond b k 0

unfoldable pub foremost : List ℕ → ℕ
foremost [] = 0
foremost (k ∷ ks) = cond (eqb k 0) (foremost ks) k

-- causes 1 and 2 of n and t, and others behind them
abbrev pub group_then : ℕ → ℕ → List ℕ → ℕ
group_then n t ks = foremost (when 1 (not (parties n)) ∷ when 2 (leb n (2 * t)) ∷ ks)

-- a step: the buffer that it is lent, and what can be wrong with what it is handed; step 5 does not look at the inbox of a party that has ended
abbrev pub lent : Call → List ℕ
lent (agree_root z) = []
lent (agree_bit bit out) = out
lent (take_shares inbox out) = out
lent (take_relays inbox out) = out

abbrev pub wrong : Party → Call → ℕ
wrong x (agree_root z) = when 7 (not (eqb (length z) 32))
wrong x (agree_bit bit out) = when 7 (ltb 1 bit)
wrong x (take_shares inbox out) = when 8 (not (fills x.seat.n inbox))
wrong x (take_relays inbox out) = when 8 (not (has_ended x.stage || fills x.seat.n inbox))

-- what an accepted one writes, the next state, the value that it answers, and the result and the map of boxes seen to cheat, which step 5 alone has
abbrev pub due : Party → Call → List ℕ
due x (agree_root z) = []
due x (agree_bit bit out) = outbox_of sha256 x bit
due x (take_shares inbox out) = relay_of sha256 x inbox
due x (take_relays inbox out) = result_bytes (result_of sha256 x inbox)

abbrev pub next : Party → Call → Party
next x (agree_root z) = at_bit x.seat (message_in x) z
next x (agree_bit bit out) = cond (eqb bit 0) (at_end x.seat nothing 0) (at_first x.seat (message_in x) x.root)
next x (take_shares inbox out) = at_second x.seat (message_in x) x.root (held_of sha256 x inbox) (faulty_shares sha256 x inbox)
next x (take_relays inbox out) = at_end x.seat (result_of sha256 x inbox) (faulty_of sha256 x inbox)

abbrev pub answered : Party → Call → ℕ
answered x (agree_root z) = cond (happy sha256 (at_bit x.seat (message_in x) z)) 1 0
answered x (agree_bit bit out) = length (outbox_of sha256 x bit)
answered x (take_shares inbox out) = length (relay_of sha256 x inbox)
answered x (take_relays inbox out) = length (result_bytes (result_of sha256 x inbox))

abbrev pub outcome : Party → Call → Option Result
outcome x (agree_root z) = none
outcome x (agree_bit bit out) = none
outcome x (take_shares inbox out) = none
outcome x (take_relays inbox out) = some (result_of sha256 x inbox)

abbrev pub cheats_told : Party → Call → ℕ
cheats_told x (agree_root z) = 0
cheats_told x (agree_bit bit out) = 0
cheats_told x (take_shares inbox out) = 0
cheats_told x (take_relays inbox out) = faulty_of sha256 x inbox

-- the room for what a step writes: nothing, an outbox, a relay, a message
abbrev pub room_for : Call → ℕ
room_for (agree_root z) = 0
room_for (agree_bit bit out) = max_outbox
room_for (take_shares inbox out) = max_packet
room_for (take_relays inbox out) = max_message

-- the length of a result that is a message, and 0 where there is none
abbrev pub result_length : Stage → ℕ
result_length Root = 0
result_length Bit = 0
result_length First = 0
result_length Second = 0
result_length (Ended None) = 0
result_length (Ended (Some l)) = l

-- a tool that writes: turned away for a cause, or these bytes in the buffer (cause 9 where it is shorter)
abbrev pub unless : ℕ → List ℕ → List ℕ → Given
unless k bs out = cond (eqb k 0) (written bs out) (gave (Refused k) out)

-- what comes of shares that are joined: cause 12, or a book
abbrev pub cause_joined : Recovered → ℕ
cause_joined (cause k) = 12
cause_joined (message m) = 0

abbrev pub book_joined : Recovered → List ℕ
book_joined (cause k) = []
book_joined (message m) = m

-- a packet that was read is neither silence nor a share
abbrev pub unread : Reading → Bool
unread silence = false
unread unreadable = true
unread (shared number share path) = false

-- a sitting's number, `session`, has four bytes
abbrev pub FourBytes : ℕ → Type 0
FourBytes session = session < 2 ^ 32

-- a leaf string is 0x00, the sitting's number, the highest byte first, but nothing for number 0, then j and the share
abbrev pub leaf : ℕ → ℕ → List ℕ → List ℕ
leaf session j x =
    0x00 ∷ (cond (eqb session 0) [] (session / 2 ^ 24 % 256 ∷ session / 2 ^ 16 % 256 ∷ session / 2 ^ 8 % 256 ∷ session % 256 ∷ []) ++ (j ∷ x))

-- the first k hashes of a path are as many as n and j give, and fold from share j to the root z
abbrev pub Leads : ℕ → ℕ → ℕ → List ℕ → List (List ℕ) → ℕ → List ℕ → Type 0
Leads session n j x p k z =
    (k ≡ length (sides (shape n) (j - 1))) × (folded sha256 (sides (shape n) (j - 1)) (take k p) (sha256 (leaf session j x)) ≡ z)

-- leaf string j of a book is that of share j
abbrev pub leaves : ℕ → ℕ → ℕ → List ℕ → List (List ℕ)
leaves session n t m = tabulate n (λ i. leaf session (i + 1) (share (n - t) (i + 1) m))

-- NIST's two examples for SHA-256, of one block and of two, and their digests
abbrev pub example_messages : List (List ℕ)
example_messages =
    (0x61 ∷ 0x62 ∷ 0x63 ∷ [])
    ∷ (0x61 ∷ 0x62 ∷ 0x63 ∷ 0x64 ∷ 0x62 ∷ 0x63 ∷ 0x64 ∷ 0x65 ∷ 0x63 ∷ 0x64 ∷ 0x65 ∷ 0x66 ∷ 0x64 ∷ 0x65 ∷ 0x66 ∷ 0x67
    ∷ 0x65 ∷ 0x66 ∷ 0x67 ∷ 0x68 ∷ 0x66 ∷ 0x67 ∷ 0x68 ∷ 0x69 ∷ 0x67 ∷ 0x68 ∷ 0x69 ∷ 0x6a ∷ 0x68 ∷ 0x69 ∷ 0x6a ∷ 0x6b
    ∷ 0x69 ∷ 0x6a ∷ 0x6b ∷ 0x6c ∷ 0x6a ∷ 0x6b ∷ 0x6c ∷ 0x6d ∷ 0x6b ∷ 0x6c ∷ 0x6d ∷ 0x6e ∷ 0x6c ∷ 0x6d ∷ 0x6e ∷ 0x6f
    ∷ 0x6d ∷ 0x6e ∷ 0x6f ∷ 0x70 ∷ 0x6e ∷ 0x6f ∷ 0x70 ∷ 0x71 ∷ []) ∷ []

abbrev pub example_digests : List (List ℕ)
example_digests =
    (0xba ∷ 0x78 ∷ 0x16 ∷ 0xbf ∷ 0x8f ∷ 0x01 ∷ 0xcf ∷ 0xea ∷ 0x41 ∷ 0x41 ∷ 0x40 ∷ 0xde ∷ 0x5d ∷ 0xae ∷ 0x22 ∷ 0x23
    ∷ 0xb0 ∷ 0x03 ∷ 0x61 ∷ 0xa3 ∷ 0x96 ∷ 0x17 ∷ 0x7a ∷ 0x9c ∷ 0xb4 ∷ 0x10 ∷ 0xff ∷ 0x61 ∷ 0xf2 ∷ 0x00 ∷ 0x15 ∷ 0xad ∷ [])
    ∷ (0x24 ∷ 0x8d ∷ 0x6a ∷ 0x61 ∷ 0xd2 ∷ 0x06 ∷ 0x38 ∷ 0xb8 ∷ 0xe5 ∷ 0xc0 ∷ 0x26 ∷ 0x93 ∷ 0x0c ∷ 0x3e ∷ 0x60 ∷ 0x39
    ∷ 0xa3 ∷ 0x3c ∷ 0xe4 ∷ 0x59 ∷ 0x64 ∷ 0xff ∷ 0x21 ∷ 0x67 ∷ 0xf6 ∷ 0xec ∷ 0xed ∷ 0xd4 ∷ 0x19 ∷ 0xdb ∷ 0x06 ∷ 0xc1 ∷ []) ∷ []

-- an accepted call, as whoever makes it sees it: the agreed root and the bit answered; the agreed bit and the outbox; the first inbox and the relay;
-- the second inbox, or whatever is handed in with a later reading, and the result
pub data Act : Type 0 where
  rooted : List ℕ → ℕ → Act
  sent : ℕ → List ℕ → Act
  relayed : List ℕ → List ℕ → Act
  ended : List ℕ → Option Result → Act

abbrev pub step_in : Act → ℕ
step_in (rooted z b) = 2
step_in (sent b out) = 3
step_in (relayed inbox out) = 4
step_in (ended inbox r) = 5

-- the first of step k
unfoldable pub first : ℕ → List Act → Option Act
first k [] = none
first k (a ∷ as') = cond (eqb (step_in a) k) (some a) (first k as')

-- bytes sent among n boxes: the packets without their lengths, a relay counted for each other box
abbrev pub bytes_in : ℕ → Act → ℕ
bytes_in n (rooted z b) = 0
bytes_in n (sent b out) = lengths (bodies n out)
bytes_in n (relayed inbox out) = (n - 1) * length out
bytes_in n (ended inbox r) = 0

-- a good box: its number and book, the cause of its opening and the root that it gave, its accepted calls in their order, the result that its state
-- holds after all calls, and the strings that it hashed, worked out from what it was given: those of its opening and of the path checks that settle what it
-- relays and rebuilds, those of all its path checks, and those of the book that it rebuilt and coded again
pub record Box : Type 0 where
  pub own : ℕ
  pub book : List ℕ
  pub cause : ℕ
  pub root : List ℕ
  pub acts : List Act
  pub result : Option Result
  pub opened_and_checked : List (List ℕ)
  pub judged : List (List ℕ)
  pub recoded : List (List ℕ)

-- it ends with a result: its state holds it, or an accepted step 5 gave it
abbrev pub EndsWith : Box → Result → Type 0
EndsWith A R = (A.result ≡ some R) ⊎ ((inbox : List ℕ) × Memᴰ (ended inbox (some R)) A.acts)

-- no two different strings of the openings of these boxes and of the path checks that settle what they relay and rebuild, all taken together, have one hash
abbrev pub Clean : List Box → Type 0
Clean good =
    let ss = join_over (λ (A : Box). A.opened_and_checked) good in
    (x y : List ℕ) → Memᴰ x ss → Memᴰ y ss → sha256 x ≡ sha256 y → x ≡ y

-- a party with its list of calls, as a box
abbrev pub act_of : Call → Stepped → Act
act_of (agree_root z) r = rooted z r.value
act_of (agree_bit bit out) r = sent bit (take r.value r.buffer)
act_of (take_shares inbox out) r = relayed inbox (take r.value r.buffer)
act_of (take_relays inbox out) r = ended inbox r.result

abbrev pub party_box : ℕ → ℕ → ℕ → Good → Box
party_box session n t A =
    record {
      own = A.own;
      book = A.message;
      cause = (open_of sha256 session n t A.own A.message).cause;
      root = (open_of sha256 session n t A.own A.message).root;
      acts = map (λ (e : Event). act_of e.call e.reply) (did sha256 session n t A.own A.message A.calls);
      result = result_after sha256 session n t A.own A.message A.calls;
      opened_and_checked = opened_and_checked sha256 session n t A.own A.message A.calls;
      judged = judged sha256 session n t A.own A.message A.calls;
      recoded = recoded sha256 session n t A.own A.message A.calls;
    }

-- a host of the C interface: its number and book, the buffers that it lends to the opening, for the state and for the root, and the calls that it makes
-- on the state's bytes
pub record Host : Type 0 where
  pub own : ℕ
  pub book : List ℕ
  pub state_room : List ℕ
  pub root_room : List ℕ
  pub calls : List Call

-- a call is accepted where its number is below 2^32, and then that number is its value; step 5's says by its lowest bit whether there is a book, and the
-- state is asked for its length
abbrev pub act_seen : Call → Replies → Act
act_seen (agree_root z) r = rooted z r.number
act_seen (agree_bit bit out) r = sent bit (take r.number r.out)
act_seen (take_shares inbox out) r = relayed inbox (take r.number r.out)
act_seen (take_relays inbox out) r = ended inbox (some (cond (eqb (r.number % 2) 0) nothing (settled (take (result_length_call r.state) r.out))))

unfoldable pub acts_seen : List ℕ → List Call → List Act
acts_seen s [] = []
acts_seen s (c ∷ cs) =
    let r = called sha256 s c in cond (ltb r.number (2 ^ 32)) (act_seen c r ∷ acts_seen r.state cs) (acts_seen r.state cs)

-- as a box; its result is what the state's bytes say after all calls
abbrev pub host_box : ℕ → ℕ → ℕ → Host → Box
host_box session n t h =
    let r = open_call sha256 session n t h.own h.book h.state_room h.root_room in
    record {
      own = h.own;
      book = h.book;
      cause = r.number / 2 ^ 32;
      root = take 32 r.out;
      acts = acts_seen r.state h.calls;
      result = result_in (state_of (left sha256 r.state h.calls));
      opened_and_checked = opened_and_checked sha256 session n t h.own h.book h.calls;
      judged = judged sha256 session n t h.own h.book h.calls;
      recoded = recoded sha256 session n t h.own h.book h.calls;
    }

-- either
abbrev pub box_of : ℕ → ℕ → ℕ → Good ⊎ Host → Box
box_of session n t (inl A) = party_box session n t A
box_of session n t (inr h) = host_box session n t h

-- the party with the number, book and calls of a good box
abbrev pub party_of : Host → Good
party_of h = record { own = h.own; message = h.book; calls = h.calls }

abbrev pub party : Good ⊎ Host → Good
party (inl A) = A
party (inr h) = party_of h

-- a good box that is called further
abbrev pub further : List Call → Good ⊎ Host → Good ⊎ Host
further more (inl A) = inl (record { own = A.own; message = A.message; calls = A.calls ++ more })
further more (inr h) = inr (record { own = h.own; book = h.book; state_room = h.state_room; root_room = h.root_room; calls = h.calls ++ more })

-- the same result, held and given by every accepted step 5; the bytes sent and the strings hashed are those from before
pub record NothingMore (n : ℕ) (before after : Box) : Type 0 where
  pub held : after.result ≡ before.result
  pub readings : (inbox : List ℕ) (r : Option Result) → Memᴰ (ended inbox r) after.acts → r ≡ before.result
  pub sent : sum_over (bytes_in n) after.acts ≡ sum_over (bytes_in n) before.acts
  pub hashed : (after.opened_and_checked ≡ before.opened_and_checked) × (after.judged ≡ before.judged) × (after.recoded ≡ before.recoded)

-- the packet of a book that is sent whole
abbrev pub book_packet : List ℕ → List ℕ
book_packet m = 0x08 ∷ length m / 256 ∷ length m % 256 ∷ m

-- a good box that opened by a named sender: as a box, with the book that it opened with; the sender that it named, what it was handed, and the packet that it wrote
pub record OpenedBox : Type 0 where
  pub box : Box
  pub sender : ℕ
  pub handed : List ℕ
  pub packet : List ℕ

-- a party; its calls are on the state that this opening gave
abbrev pub opener_party : ℕ → ℕ → ℕ → Begins → OpenedBox
opener_party session n t A =
    let m = message_by A.own A.sender A.bytes in
    let r = open_by_sender_of sha256 session n t A.own A.sender A.bytes A.out in
    record {
      box = record {
        own = A.own;
        book = m;
        cause = r.opened.cause;
        root = r.opened.root;
        acts = map (λ (e : Event). act_of e.call e.reply) (accepted (events sha256 r.opened.state A.calls));
        result = result_in (final sha256 r.opened.state A.calls);
        opened_and_checked = opened_and_checked sha256 session n t A.own m A.calls;
        judged = judged sha256 session n t A.own m A.calls;
        recoded = recoded sha256 session n t A.own m A.calls;
      };
      sender = A.sender;
      handed = A.bytes;
      packet = take r.value r.buffer;
    }

-- a host, with a buffer for the packet too
pub record SenderHost : Type 0 where
  pub own : ℕ
  pub sender : ℕ
  pub handed : List ℕ
  pub state_room : List ℕ
  pub root_room : List ℕ
  pub packet_room : List ℕ
  pub calls : List Call

abbrev pub opener_host : ℕ → ℕ → ℕ → SenderHost → OpenedBox
opener_host session n t h =
    let m = message_by h.own h.sender h.handed in
    let r = open_by_sender_call sha256 session n t h.own h.sender h.handed h.state_room h.root_room h.packet_room in
    record {
      box = record {
        own = h.own;
        book = m;
        cause = r.number / 2 ^ 32;
        root = take 32 r.root;
        acts = acts_seen r.state h.calls;
        result = result_in (state_of (left sha256 r.state h.calls));
        opened_and_checked = opened_and_checked sha256 session n t h.own m h.calls;
        judged = judged sha256 session n t h.own m h.calls;
        recoded = recoded sha256 session n t h.own m h.calls;
      };
      sender = h.sender;
      handed = h.handed;
      packet = take (r.number % 2 ^ 32) r.out;
    }

-- either
abbrev pub opener_of : ℕ → ℕ → ℕ → Begins ⊎ SenderHost → OpenedBox
opener_of session n t (inl A) = opener_party session n t A
opener_of session n t (inr h) = opener_host session n t h
