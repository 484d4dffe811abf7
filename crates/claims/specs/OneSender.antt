-- What request No. 5 of document 02 asks for, at SHA-256, for parties and hosts: one named sender gives its book to all, and a good sender's book is every good box's
-- result; whatever a bad one sends, all good boxes still have one result. Assumes nothing.
use Rattle.std.specs.Prelude.{◌≡◌, ◌≢◌, cond, not, ◌&&◌, ℕ, ◌+◌, ◌-◌, ◌*◌, ◌≤◌, ltb, eqb, length}
use mathlib.Core.List.{List, [], ◌∷◌, map, Memᴰ}
use Rattle.limits.specs.Limits.{max_message, numbered}
use Rattle.buffer.specs.Bounds.{Bytes}
use Rattle.buffer.specs.Splice.{spliced}
use Rattle.erasure.specs.Coding.{share_length}
use Rattle.sha256.specs.Sha256.{sha256}
use Rattle.merkle.specs.Height.{height}
use Rattle.packet.specs.Format.{unreadable, read_of}
use Rattle.packet.specs.Message.{message, read_message, unreadable as nothing_read}
use Rattle.party.specs.State.{Result, settled}
use Rattle.party.specs.Steps.{open_of, refused_opening}
use Rattle.party.specs.Sender.{message_read, Begun, open_by_sender_of}
use Rattle.agreement.specs.Agreement.{sum_over}
use Rattle.claims.specs.Terms.{when, group_then, FourBytes, book_packet, OpenedBox, opener_of}
use Rattle.claims.specs.Claims.{Sitting, OneResult, bytes_sent}

-- what comes, r, of the opening of box `own` that names the sender q, is lent out, opens with the book m and writes the packet p
pub record OpensBySender (session n t own q : ℕ) (out m p : List ℕ) (r : Begun) : Type 0 where
  pub cause : r.opened.cause ≡ group_then n t (when 3 (not (numbered n own)) ∷ when 3 (not (numbered n q)) ∷ when 4 (ltb max_message (length m))
      ∷ when 9 (ltb (length out) (length p)) ∷ [])
  pub refused : r.opened.cause ≢ 0
      → (r.opened ≡ refused_opening r.opened.cause) × (r.value ≡ cond (eqb r.opened.cause 9) (length p) 0) × (r.buffer ≡ out)
  pub accepted : r.opened.cause ≡ 0 → (r.opened ≡ open_of sha256 session n t own m) × (r.value ≡ length p) × (r.buffer ≡ spliced out 0 p)

-- a sitting as demand 3 supposes it, whose good boxes name the sender q; where q is good, each other good box was handed the packet that q wrote
module _ (n t : ℕ) (good : List OpenedBox) (q : ℕ) (z : List ℕ) (bit : ℕ) where
  pub record SenderSitting : Type 0 where
    pub sitting : Sitting n t (map (λ (A : OpenedBox). A.box) good) z bit
    pub named : (A : OpenedBox) → Memᴰ A good → A.sender ≡ q
    pub delivered : (S A : OpenedBox) → Memᴰ S good → Memᴰ A good → S.box.own ≡ q → A.box.own ≢ q → A.handed ≡ S.packet

  abbrev pub bytes_in_all : ℕ
  bytes_in_all = sum_over (λ (A : OpenedBox). (n - 1) * length A.packet) good + bytes_sent n t (map (λ (A : OpenedBox). A.box) good) z bit

  pub record SendersBook (R : Result) : Type 0 where
    pub one : OneResult n t (map (λ (A : OpenedBox). A.box) good) z bit R
    pub senders : (S : OpenedBox) → Memᴰ S good → S.box.own ≡ q → R ≡ settled S.handed
    pub bound : (m : List ℕ) → R ≡ settled m
        → bytes_in_all ≤ 2 * length good * (n - 1) * (4 + share_length (n - t) (length m) + 32 * height n) + (n - 1) * (3 + length m)
    pub bad-sender : ((A : OpenedBox) → Memᴰ A good → A.box.own ≢ q) → bytes_in_all ≡ bytes_sent n t (map (λ (A : OpenedBox). A.box) good) z bit

abbrev pub AllSettle : {A : Type 0} → (ℕ → ℕ → A → OpenedBox) → Type 0
AllSettle {A} opener = (n t : ℕ) (good : List A) (q : ℕ) (z : List ℕ) (bit : ℕ) → SenderSitting n t (map (opener n t) good) q z bit
    → (R : Result) × SendersBook n t (map (opener n t) good) q z bit R

pub record OneSendsAllSettle : Type 0 where
  -- a book's packet is read back, and has one form; neither kind of packet is read as the other
  pub read : (m : List ℕ) → length m ≤ max_message → read_message (book_packet m) ≡ message m
  pub one_form : (p m : List ℕ) → Bytes p → read_message p ≡ message m → (p ≡ book_packet m) × (length m ≤ max_message)
  pub neither : (n : ℕ) (m r : List ℕ) → (read_of n (book_packet m) ≡ unreadable) × (read_message (0x07 ∷ r) ≡ nothing_read)
  pub opening : (session n t own q : ℕ) (bs out : List ℕ) → OpensBySender session n t own q out (cond (eqb own q) bs (message_read (read_message bs)))
      (cond (eqb own q && not (eqb n 1)) (book_packet bs) []) (open_by_sender_of sha256 session n t own q bs out)
  pub sittings : (session : ℕ) → FourBytes session → AllSettle (opener_of session)
