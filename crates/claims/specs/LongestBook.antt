-- What request No. 2 of document 02 asks for, at SHA-256: one greatest length of a message (document 01: a book), by which a box judges what it opens with, codes,
-- rebuilds and holds, and one of a share, two bytes more, by which it judges what it reads and holds; and rooms that follow from them and are enough. The numbers
-- stand in `limits`; that a broken state is cause 5 and an unreadable packet cause 10 stands in `Claims`. In a rehearsal `plan` Layout.books_fit and `report`
-- Output.line_of judge by the same limit. Assumes nothing.
use Rattle.std.specs.Prelude.{◌≡◌, ◌≢◌, true, cond, not, ◌&&◌, ◌||◌, List, ◌∷◌, ◌++◌, ℕ, ◌+◌, ◌-◌, ◌*◌, ◌/◌, ◌%◌, ◌^◌, ◌≤◌, ◌<◌, ltb, leb, length}
use Rattle.limits.specs.Limits.{max_message, max_share, numbered, group_cause}
use Rattle.buffer.specs.Entries.{size}
use Rattle.bitmap.specs.Bitmap.{names}
use Rattle.sha256.specs.Sha256.{sha256}
use Rattle.erasure.specs.Coding.{share_length, frame, shares, encode_of}
use Rattle.erasure.specs.Rebuild.{Point, framed, cause, message, unframed, joined}
use Rattle.merkle.specs.Tree.{shape, sides}
use Rattle.packet.specs.Format.{unreadable, shared, hashes, read_of}
use Rattle.commitment.specs.Rooms.{max_shares}
use Rattle.party.specs.State.{broken}
use Rattle.party.specs.Steps.{open_of}
use Rattle.party.specs.declared.Party.{Party}
use Rattle.agreement.specs.Calls.{Call, made}
use Rattle.state_bytes.specs.Layout.{state_length}
use Rattle.capi.specs.Calls.{open_call, called}
use Rattle.claims.specs.Terms.{when, lent, unless, room_for, result_length}

pub record BooksHaveOneGreatestLength : Type 0 where
  pub two-more : max_share ≡ max_message + 2
  -- cause 4: an opening and the coder, where n, t and the own number are in their ranges
  pub opening : (session n t own : ℕ) (m : List ℕ) → group_cause n t ≡ 0 → numbered n own ≡ true
      → (open_of sha256 session n t own m).cause ≡ when 4 (ltb max_message (length m))
  pub coder : (n t : ℕ) (m out : List ℕ) → group_cause n t ≡ 0 → encode_of n t m out ≡ unless (when 4 (ltb max_message (length m))) (shares n (n - t) m) out
  -- cause 12: a frame of b blocks of s bytes that is a message's gives it back; shares that are joined to one, as rebuilding and step 5 do, give none where it
  -- states a greater length
  pub frames : (b : ℕ) (m : List ℕ) → 1 ≤ b → length m ≤ max_message → unframed b (share_length b (length m)) (frame b m) ≡ message m
  pub long-frames : (b s : ℕ) (us : List Point) → max_message < size (framed b s us) → joined b s us ≡ cause 12
  -- cause 10: a packet of map 7 with a number, a share and the bytes r of its path, as many hashes as n and the number give, is read exactly if the share has
  -- 1 to max_share bytes; and whatever is read has such a share
  pub packets : (n j : ℕ) (share r : List ℕ) → let k = length (sides (shape n) (j - 1)) in numbered n j ≡ true → length r ≡ 32 * k
      → read_of n (7 ∷ j ∷ length share / 256 ∷ length share % 256 ∷ (share ++ r))
      ≡ cond (leb 1 (length share) && leb (length share) max_share) (shared j share (hashes k r)) unreadable
  pub read : (n j : ℕ) (packet share : List ℕ) (p : List (List ℕ)) → read_of n packet ≡ shared j share p → (1 ≤ length share) × (length share ≤ max_share)
  -- cause 5: a state whose n, t and own number are in their ranges is broken exactly if its message, share or result is over its limit, or its map of boxes seen
  -- to cheat names one beyond n or itself (No. 7)
  pub state : (x : Party) → group_cause x.seat.n x.seat.t ≡ 0 → numbered x.seat.n x.seat.own ≡ true
      → broken x ≡ (ltb max_message x.len || ltb max_share x.held || (not (ltb x.faulty (2 ^ x.seat.n)) || names x.faulty x.seat.own)
      || ltb max_message (result_length x.stage))
  -- cause 9: no opening and no step that is lent its room is refused for it, on a state or on bytes; and all shares of a message have room
  pub room : (x : Party) (c : Call) → room_for c ≤ length (lent c) → (made sha256 x c).cause ≢ 9
  pub host-room : (s : List ℕ) (c : Call) → room_for c ≤ length (lent c) → (called sha256 s c).number / 2 ^ 32 ≢ 9
  pub host-opening : (session n t own : ℕ) (m s z : List ℕ) → state_length ≤ length s → 32 ≤ length z → (open_call sha256 session n t own m s z).number / 2 ^ 32 ≢ 9
  pub shares-room : (n t : ℕ) (m : List ℕ) → group_cause n t ≡ 0 → length m ≤ max_message → length (shares n (n - t) m) ≤ max_shares
