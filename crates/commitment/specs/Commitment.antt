-- What a session's number, n, t and a message give without a state (document 01, "Field, shares, tree" and steps 1, 3 and 4): the root of the message's shares,
-- the packet with share j, and what a party whose message has the agreed root sends. The hash of the tree is a parameter H. Assumes nothing.
use Rattle.std.specs.Prelude.{Bool, true, false, cond, not, List, [], ℕ, ◌+◌, ◌-◌, ltb, eqb, length, take}
use Rattle.limits.specs.Limits.{max_message, numbered, group_cause}
use Rattle.buffer.specs.Splice.{tabulate}
use Rattle.buffer.specs.Given.{Given, gave, written}
use Rattle.buffer.specs.Given.{Refused, Done}
use Rattle.erasure.specs.Coding.{share, shares}
use Rattle.merkle.specs.Shares.{blank, sides_of, leaves_of, root_of, path_of, same}
use Rattle.packet.specs.Format.{packet_of}
use Rattle.packet.specs.Inbox.{inbox_of}
use Rattle.merkle.specs.Answer.{Rooted}
use Rattle.commitment.specs.Sent.{Sent}

-- causes 1, 2, 3, 4 of n, t, a party's own number and its message's length; 0: none
unfoldable pub open_cause : ℕ → ℕ → ℕ → ℕ → ℕ
open_cause n t own len =
    cond (not (eqb (group_cause n t) 0)) (group_cause n t) (cond (not (numbered n own)) 3 (cond (ltb max_message len) 4 0))

module _ (H : List ℕ → List ℕ) where
  -- the leaf hashes of a message's shares, and their root (where open_cause gives 0; so of the packets below)
  abbrev pub leaves_for : ℕ → ℕ → ℕ → List ℕ → List (List ℕ)
  leaves_for session n t m = leaves_of H session n (shares n (n - t) m)

  unfoldable pub message_root : ℕ → ℕ → ℕ → List ℕ → List ℕ
  message_root session n t m = root_of H n (leaves_for session n t m)

  -- the root in an answer: causes 1, 2, 3, 4
  unfoldable pub rooted_of : ℕ → ℕ → ℕ → ℕ → List ℕ → Rooted
  rooted_of session n t own m =
      cond (not (eqb (open_cause n t own (length m)) 0)) (record { cause = open_cause n t own (length m); root = blank })
      (record { cause = 0; root = message_root session n t m })

  -- the packet with share j and its path
  abbrev pub packet_with : ℕ → ℕ → ℕ → List ℕ → ℕ → List ℕ
  packet_with session n t m j = packet_of j (share (n - t) j m) (take (length (sides_of n j)) (path_of H n j (leaves_for session n t m)))

  -- the packets for parties 1 to n, but none for the own number; and the own relay, but none where the party is alone
  abbrev pub packets_with : ℕ → ℕ → ℕ → ℕ → List ℕ → List (List ℕ)
  packets_with session n t own m = tabulate n (λ i. cond (eqb (i + 1) own) [] (packet_with session n t m (i + 1)))

  abbrev pub relay_with : ℕ → ℕ → ℕ → ℕ → List ℕ → List ℕ
  relay_with session n t own m = cond (eqb n 1) [] (packet_with session n t m own)

-- what comes of sending: that none of causes 1 to 4 applies and the message has the agreed root, and the answer with its number and value and the
-- lent buffer
pub record Sending : Type 0 where
  pub happy : Bool
  pub given : Given

abbrev pub sending : Bool → Given → Sending
sending happy g = record { happy = happy; given = g }

abbrev pub sent : Sent → List ℕ → Sending
sent r out = sending r.happy (gave r.answer out)

module _ (H : List ℕ → List ℕ) where
  -- what a happy party sends: where `relays` says so its relay (step 4), else its outbox (step 3 on bit 1)
  abbrev pub mail_with : ℕ → Bool → ℕ → ℕ → ℕ → List ℕ → List ℕ
  mail_with session relays n t own m = cond relays (relay_with H session n t own m) (inbox_of (packets_with H session n t own m))

  -- that, if the message has the root z; with another root no bytes are written, and the party itself says what an unhappy one sends. Causes 1, 2,
  -- 3, 4, then 9 where the buffer is shorter
  unfoldable pub send_of : ℕ → Bool → ℕ → ℕ → ℕ → List ℕ → List ℕ → List ℕ → Sending
  send_of session relays n t own m z out =
      cond (not (eqb (open_cause n t own (length m)) 0)) (sending false (gave (Refused (open_cause n t own (length m))) out))
      (cond (same (message_root H session n t m) z) (sending true (written (mail_with session relays n t own m) out)) (sending false (gave (Done 0) out)))
