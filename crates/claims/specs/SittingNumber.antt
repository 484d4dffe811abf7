-- What request No. 6 of document 02 asks for, at SHA-256: a sitting has a number of four bytes, which stands in every leaf string unless it is 0, and is kept in
-- the box's state; under two numbers a book has two roots, unless two different strings collide. It is claimed of one book, since of two it is false: with one box,
-- `two-books` has two under two numbers with one root. Assumes nothing.
use Rattle.std.specs.Prelude.{◌≡◌, ◌⊎◌, ◌≢◌, List, [], ◌∷◌, ℕ, ◌-◌, ◌/◌, ◌%◌, ◌^◌, ◌≤◌, length}
use Rattle.limits.specs.Limits.{max_message, group_cause}
use Rattle.erasure.specs.Coding.{shares}
use Rattle.sha256.specs.Sha256.{sha256}
use Rattle.merkle.specs.Strings.{Collision}
use Rattle.merkle.specs.Shares.{leaf_string, coding_strings}
use Rattle.commitment.specs.Commitment.{message_root}
use Rattle.party.specs.Steps.{open_of}
use Rattle.party.specs.Sender.{open_by_sender_of}
use Rattle.party.specs.declared.Party.{Party}
use Rattle.agreement.specs.Calls.{Call, made}
use Rattle.state_bytes.specs.Layout.{state_length}
use Rattle.capi.specs.Calls.{packed, open_call, open_by_sender_call, called, session_call}
use Rattle.claims.specs.Terms.{FourBytes, SenderHost}

pub record EverySittingHasItsNumber : Type 0 where
  -- the leaf string: 0x00, the number's four bytes, the highest first, the share's number, the share; number 0 keeps the string that there was before
  pub leaf : (session j : ℕ) (x : List ℕ) → session ≢ 0 → leaf_string session j x
      ≡ 0x00 ∷ session / 2 ^ 24 % 256 ∷ session / 2 ^ 16 % 256 ∷ session / 2 ^ 8 % 256 ∷ session % 256 ∷ j ∷ x
  pub leaf-zero : (j : ℕ) (x : List ℕ) → leaf_string 0 j x ≡ 0x00 ∷ j ∷ x
  -- under one number it tells the share's number and the share
  pub one-leaf : (session j k : ℕ) (x y : List ℕ) → leaf_string session j x ≡ leaf_string session k y → (j ≡ k) × (x ≡ y)
  -- both openings take the number into the state, no call changes it, and the bytes of a state tell it
  pub opened : (session n t own : ℕ) (m : List ℕ) → let r = open_of sha256 session n t own m in r.cause ≡ 0 → r.state.seat.session ≡ session
  pub by-sender : (session n t own q : ℕ) (bs out : List ℕ) → let r = (open_by_sender_of sha256 session n t own q bs out).opened in
      r.cause ≡ 0 → r.state.seat.session ≡ session
  pub kept : (x : Party) (c : Call) → (made sha256 x c).state.seat.session ≡ x.seat.session
  pub host-opened : (session n t own : ℕ) (m s z : List ℕ) → FourBytes session → (open_of sha256 session n t own m).cause ≡ 0 → state_length ≤ length s
      → 32 ≤ length z → session_call (open_call sha256 session n t own m s z).state ≡ packed 0 session
  pub host-by-sender : (session n t : ℕ) (h : SenderHost) → FourBytes session
      → let r = open_by_sender_call sha256 session n t h.own h.sender h.handed h.state_room h.root_room h.packet_room in
      r.number / 2 ^ 32 ≡ 0 → session_call r.state ≡ packed 0 session
  pub host-kept : (s : List ℕ) (c : Call) → session_call (called sha256 s c).state ≡ session_call s
  -- a book under two numbers: two roots, or two different ones of the strings hashed for them have one hash
  pub roots : (session other n t : ℕ) (m : List ℕ) → FourBytes session → FourBytes other → session ≢ other → group_cause n t ≡ 0 → length m ≤ max_message
      → (message_root sha256 session n t m ≢ message_root sha256 other n t m)
      ⊎ Collision sha256 (coding_strings sha256 session n (shares n (n - t) m)) (coding_strings sha256 other n (shares n (n - t) m))
  -- two books under two numbers, with one box: they have one root, and the one string that is hashed for either is the same
  pub two-books : let o : List ℕ = 0x7F ∷ 0x01 ∷ 0x00 ∷ 0x00 ∷ [] in (message_root sha256 0x0100047F 1 0 [] ≡ message_root sha256 0 1 0 o)
      × (coding_strings sha256 0x0100047F 1 (shares 1 1 []) ≡ coding_strings sha256 0 1 (shares 1 1 o)) × (length (coding_strings sha256 0 1 (shares 1 1 o)) ≡ 1)
