-- Broadcast (document 02, No. 5): a session whose good parties open by one named sender. What is supposed of them, what then holds, and the claim that it
-- does. It is agreement's claim on the messages that they open with, and what a good sender adds to it. The hash is a parameter; the claim is proved for every
-- one of 32 bytes (proofs/Broadcast). Assumes nothing.
use Rattle.std.specs.Prelude.{◌≡◌, ◌≢◌, true, ℕ, ◌+◌, ◌-◌, ◌*◌, ◌≤◌, length, take}
use mathlib.Core.List.{List, map, Memᴰ}
use Rattle.buffer.specs.Bounds.{Bytes}
use Rattle.erasure.specs.Coding.{share_length}
use Rattle.merkle.specs.Height.{height}
use Rattle.party.specs.State.{Result, nothing, settled}
use Rattle.party.specs.Sender.{message_by, Begun, open_by_sender_of}
use Rattle.agreement.specs.Calls.{Call, opening}
use Rattle.agreement.specs.Agreement.{Good, different, absent, sum_over, CalledAll, Ruled, DeliveredAll, Clean, sent, Conclusions}

-- a good party: its number, the sender that it names, what its opening is handed (its message where it is the sender, else the packet that came) and lent, and
-- the calls that it gets after its opening
pub record Opener : Type 0 where
  pub own : ℕ
  pub sender : ℕ
  pub bytes : List ℕ
  pub out : List ℕ
  pub calls : List Call

-- as a good party of agreement, with the message that it opens with
abbrev pub party_of : Opener → Good
party_of A = record { own = A.own; message = message_by A.own A.sender A.bytes; calls = A.calls }

module _ (H : List ℕ → List ℕ) (session n t : ℕ) (good : List Opener) where
  abbrev pub Every : (Opener → Type 0) → Type 0
  Every P = (A : Opener) → Memᴰ A good → P A

  abbrev pub parties : List Good
  parties = map party_of good

  -- what a party's opening gave back, and the packet that it wrote
  abbrev pub begun : Opener → Begun
  begun A = open_by_sender_of H session n t A.own A.sender A.bytes A.out

  abbrev pub gave : Opener → List ℕ
  gave A = take (begun A).value (begun A).buffer

  -- all opened with one session number, n and t, under different numbers, and named the sender q; what they opened with is bytes, as it is where what they
  -- were handed is; where the sender is good, each other one was handed what it wrote; of the numbers up to n at most t are borne by none of them
  pub record OpenedAll (q : ℕ) : Type 0 where
    pub accepted : Every (λ A. (begun A).opened.cause ≡ 0)
    pub named : Every (λ A. A.sender ≡ q)
    pub bytes : Every (λ A. Bytes (party_of A).message)
    pub delivered : Every (λ S. S.own ≡ q → Every (λ A. A.own ≢ q → A.bytes ≡ gave S))
    pub apart : different (map (λ (A : Opener). A.own) good) ≡ true
    pub bad : absent n 1 (map (λ (A : Opener). A.own) good) ≤ t

  -- what is supposed: of the calls, the short agreement, the packets and the hash, as agreement does
  pub record Premises (q : ℕ) (z : List ℕ) (bit : ℕ) : Type 0 where
    pub opened : OpenedAll q
    pub called : CalledAll H session n t parties z bit
    pub ruled : Ruled H session n t parties z bit
    pub delivered : bit ≡ 1 → DeliveredAll H session n t parties
    pub clean : Clean H session n t parties

  -- the bytes that good parties sent: in the sender's exchange its packet to the n - 1 others, and then as in agreement
  abbrev pub sent_in_all : ℕ
  sent_in_all = sum_over (λ (A : Opener). (n - 1) * length (gave A)) good + sent H session n t parties

  -- what then holds of one result R: each opening gave the state and root of the ordinary one, so that what is supposed and said of calls is of calls on that
  -- state; all that agreement says; a good sender's message is the result; and the bytes are within agreement's bound and, if the sender is good, its packet
  -- to each other party, and none if the result is nothing
  pub record Settled (q bit : ℕ) (R : Result) : Type 0 where
    pub opens : Every (λ A. (begun A).opened ≡ opening H session n t A.own (party_of A).message)
    pub agreed : Conclusions H session n t parties bit R
    pub senders : Every (λ S. S.own ≡ q → R ≡ settled S.bytes)
    pub bound : (m : List ℕ) → R ≡ settled m
        → sent_in_all ≤ 2 * length good * (n - 1) * (4 + share_length (n - t) (length m) + 32 * height n) + (n - 1) * (3 + length m)
    pub bound-bad : Every (λ A. A.own ≢ q) → sent_in_all ≡ sent H session n t parties
    pub free : R ≡ nothing → sent_in_all ≡ 0

-- for all session numbers, n and t, all good parties and senders, all agreed values
abbrev pub Broadcast : (List ℕ → List ℕ) → Type 0
Broadcast H =
    (session n t : ℕ) (good : List Opener) (q : ℕ) (z : List ℕ) (bit : ℕ) → Premises H session n t good q z bit
    → (R : Result) × Settled H session n t good q bit R
