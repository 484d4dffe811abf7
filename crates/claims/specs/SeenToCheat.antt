-- What request No. 7 of document 02 asks for, at SHA-256: a box (here a party) keeps a map of the boxes that it saw cheat in its first or second inbox, and gives
-- it with its result; and no good box is ever in a good box's map. That supposes one n, root and sitting number among the good boxes, and that what they
-- send to each other arrives; nothing of hashes, of the bit, of t or of how many are bad. Silence is no cheating, and who cheats need not be seen by all.
-- Assumes nothing.
use Rattle.std.specs.Prelude.{◌≡◌, ◌⊎◌, ◌≢◌, Bool, true, false, not, ◌&&◌, ◌||◌, ℕ, ◌+◌, ◌-◌, ◌*◌, ◌/◌, ◌%◌, ◌^◌, ◌≤◌, ◌<◌, eqb, length}
use Rattle.std.proofs.Common.{inl, inr}
use mathlib.Core.List.{List, [], ◌∷◌, map, Memᴰ}
use Rattle.std.proofs.Math.Option.{Option, none, some}
use Rattle.sha256.specs.Sha256.{sha256}
use Rattle.merkle.specs.Shares.{passes}
use Rattle.packet.specs.Format.{Reading, silence, unreadable, shared, read_of}
use Rattle.party.specs.State.{Result, nothing, settled, has_ended}
use Rattle.party.specs.Steps.{open_of, entry}
use Rattle.party.specs.Sender.{message_by, open_by_sender_of}
use Rattle.party.specs.declared.Party.{Party}
use Rattle.agreement.specs.Calls.{Call, take_shares, take_relays, step_of, made}
use Rattle.agreement.specs.Agreement.{Good}
use Rattle.state_bytes.specs.Layout.{state_of}
use Rattle.capi.specs.Calls.{packed, open_call, called, faulty_call}
use Rattle.claims.specs.Terms.{FourBytes, Act, rooted, sent, relayed, ended, first, Host, Box, box_of}
use Rattle.claims.specs.Claims.{Sitting}

-- a map is a number, in which box p has the value two to the p - 1
abbrev pub saw : ℕ → ℕ → Bool
saw seen p = eqb (seen / 2 ^ (p - 1) % 2) 1

-- a packet, as it is read, of which a number is demanded under the root z: it is a cheat's unless it is silence, or has that number and passes the path check
abbrev pub cheats : ℕ → ℕ → ℕ → List ℕ → Reading → Bool
cheats session n number z silence = false
cheats session n number z unreadable = true
cheats session n number z (shared j x p) = not (eqb j number && passes sha256 session n number x p (length p) z)

-- what box p sent in an inbox of box x; the own entry never counts
abbrev pub cheated_in : Party → List ℕ → ℕ → ℕ → Bool
cheated_in x inbox number p =
    not (eqb p x.seat.own) && cheats x.seat.session x.seat.n number x.root (read_of x.seat.n (entry x.seat.n p inbox))

-- every map that a party's state has, before and after each call; and the same where the state is bytes
unfoldable pub maps_held : Party → List Call → List ℕ
maps_held x [] = x.faulty ∷ []
maps_held x (c ∷ cs) = x.faulty ∷ maps_held (made sha256 x c).state cs

unfoldable pub maps_kept : List ℕ → List Call → List ℕ
maps_kept s [] = (state_of s).faulty ∷ []
maps_kept s (c ∷ cs) = (state_of s).faulty ∷ maps_kept (called sha256 s c).state cs

-- a good box, with the t that it was told; as a box, and its maps
pub record Member : Type 0 where
  pub t : ℕ
  pub who : Good ⊎ Host

abbrev pub maps_of : ℕ → ℕ → ℕ → Good ⊎ Host → List ℕ
maps_of session n t (inl A) = maps_held (open_of sha256 session n t A.own A.message).state A.calls
maps_of session n t (inr h) = maps_kept (open_call sha256 session n t h.own h.book h.state_room h.root_room).state h.calls

-- what a box wrote in step 3, and in step 4; no bytes where it had none
abbrev pub outbox_in : Option Act → List ℕ
outbox_in none = []
outbox_in (some (rooted z b)) = []
outbox_in (some (sent b out)) = out
outbox_in (some (relayed inbox out)) = []
outbox_in (some (ended inbox r)) = []

abbrev pub relay_in : Option Act → List ℕ
relay_in none = []
relay_in (some (rooted z b)) = []
relay_in (some (sent b out)) = []
relay_in (some (relayed inbox out)) = out
relay_in (some (ended inbox r)) = []

module _ (session n : ℕ) (good : List Member) (z : List ℕ) where
  abbrev pub Each : (Member → Type 0) → Type 0
  Each P = (A : Member) → Memᴰ A good → P A

  abbrev pub box : Member → Box
  box A = box_of session n A.t A.who

  pub record Linked : Type 0 where
    -- all opened with the sitting's number and n, and whoever was told a root was told z
    pub opened : Each (λ A. (box A).cause ≡ 0)
    pub root : Each (λ A. (w : List ℕ) (b : ℕ) → first 2 (box A).acts ≡ some (rooted w b) → w ≡ z)
    -- what a good box sent to another, and nothing else, stands under its number in that one's first inbox, and in its second; of a box that took no first inbox,
    -- and reads its result with any, nothing is said
    pub first-inbox : Each (λ A. (inbox relay : List ℕ) → first 4 (box A).acts ≡ some (relayed inbox relay)
        → Each (λ B. (box A).own ≢ (box B).own → entry n (box B).own inbox ≡ entry n (box A).own (outbox_in (first 3 (box B).acts))))
    pub second-inbox : Each (λ A. (other relay inbox : List ℕ) (r : Option Result) → first 4 (box A).acts ≡ some (relayed other relay)
        → first 5 (box A).acts ≡ some (ended inbox r)
        → Each (λ B. (box A).own ≢ (box B).own → entry n (box B).own inbox ≡ relay_in (first 4 (box B).acts)))

  -- in no map of a good box is a good box
  abbrev pub NoneSeen : Type 0
  NoneSeen = Each (λ A. Each (λ B. (seen : ℕ) → Memᴰ seen (maps_of session n A.t A.who) → saw seen (box B).own ≡ false))

abbrev pub bit0 : Option Result → ℕ
bit0 none = 0
bit0 (some nothing) = 0
bit0 (some (settled m)) = 1

pub record NoGoodBoxIsSeenToCheat : Type 0 where
  -- the map is empty after every opening and after steps 2 and 3; after step 4 it names just those whose packets in the first inbox were cheats', the own number
  -- being demanded; step 5 adds those whose packets in the second inbox are, the sender's number being demanded
  pub opened : (session n t own : ℕ) (m : List ℕ) → (open_of sha256 session n t own m).state.faulty ≡ 0
  pub early : (x : Party) (c : Call) → (made sha256 x c).cause ≡ 0 → step_of c ≢ 4 → step_of c ≢ 5 → (made sha256 x c).state.faulty ≡ 0
  pub first : (x : Party) (inbox out : List ℕ) (p : ℕ) → let r = made sha256 x (take_shares inbox out) in r.cause ≡ 0 → 1 ≤ p → p ≤ x.seat.n
      → saw r.state.faulty p ≡ cheated_in x inbox x.seat.own p
  pub second : (x : Party) (inbox out : List ℕ) (p : ℕ) → let r = made sha256 x (take_relays inbox out) in r.cause ≡ 0 → has_ended x.stage ≡ false
      → 1 ≤ p → p ≤ x.seat.n → saw r.state.faulty p ≡ saw x.faulty p || cheated_in x inbox p p
  -- it is given with the result, and again with every later reading
  pub given : (x : Party) (inbox out : List ℕ) → let r = made sha256 x (take_relays inbox out) in r.cause ≡ 0 → r.faulty ≡ r.state.faulty
  pub again : (x : Party) (inbox out : List ℕ) → let r = made sha256 x (take_relays inbox out) in r.cause ≡ 0 → has_ended x.stage ≡ true
      → r.state.faulty ≡ x.faulty
  -- no accepted call gives a map with a box beyond n or the box itself; a state with such a map is cause 5
  pub within : (x : Party) (c : Call) → let r = made sha256 x c in r.cause ≡ 0 → (r.state.faulty < 2 ^ x.seat.n) × (saw r.state.faulty x.seat.own ≡ false)
  pub beyond : (x : Party) (c : Call) → (2 ^ x.seat.n ≤ x.faulty) ⊎ (saw x.faulty x.seat.own ≡ true) → (made sha256 x c).cause ≡ 5
  -- on bytes: the state tells its map, and step 5's value is twice the map and 1 more for a book
  pub host : (s : List ℕ) (c : Call) → let r = made sha256 (state_of s) c in r.cause ≡ 0 → faulty_call (called sha256 s c).state ≡ packed 0 r.state.faulty
  pub host-given : (s inbox out : List ℕ) → let r = made sha256 (state_of s) (take_relays inbox out) in r.cause ≡ 0
      → (called sha256 s (take_relays inbox out)).number ≡ 2 * r.state.faulty + bit0 r.result
  -- a box that opens by a named sender (No. 5) has the state of one that opens with the book that it read, so that what is said of boxes is said of it
  pub by-sender : (session n t own q : ℕ) (bs out : List ℕ) → let r = (open_by_sender_of sha256 session n t own q bs out).opened in
      r.cause ≡ 0 → r ≡ open_of sha256 session n t own (message_by own q bs)
  -- good boxes, parties and hosts, with any calls; and so in every sitting that demand 3 speaks of
  pub none_seen : (session n : ℕ) (good : List Member) (z : List ℕ) → FourBytes session → Linked session n good z → NoneSeen session n good z
  pub sitting : (session n t : ℕ) (good : List (Good ⊎ Host)) (z : List ℕ) (bit : ℕ) → FourBytes session → Sitting n t (map (box_of session n t) good) z bit
      → NoneSeen session n (map (λ (g : Good ⊎ Host). record { t = t; who = g }) good) z
