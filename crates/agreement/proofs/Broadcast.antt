-- Broadcast follows from agreement: an accepted opening by a sender is the ordinary one with the message that was read, so good parties that open by one
-- sender are good parties of agreement; where the sender is good, all have read its message, and the common message is the result. Assumes nothing.
use mathlib.Core.Path.{◌≡◌, sym, ap, subst, ◌∙◌}
use mathlib.Core.Logic.{◌≢◌}
use mathlib.Core.List.{List, map, Memᴰ}
use Prim.Native.Nat.{ℕ, ◌+◌, ◌-◌, ◌*◌, ◌≤◌}
use native.Mathlib.Decide.{ℕ_discrete}
use native.Mathlib.Nat.{mul-le-mul_left}
use native.Mathlib.Omega.{arith}
use lib.ListN.{length, length-map}
use Rattle.limits.specs.Limits.{max_message}
use Rattle.buffer.specs.Bounds.{Bytes}
use Rattle.erasure.specs.Coding.{share_length}
use Rattle.merkle.specs.Height.{height}
use Rattle.sha256.specs.Sha256.{sha256}
use Rattle.sha256.proofs.Laws.{sha256-length}
use Rattle.packet.specs.Message.{read_message}
use Rattle.commitment.proofs.Opening.{open-bounds}
use Rattle.party.specs.State.{Result, nothing, settled}
use Rattle.party.specs.Sender.{message_read, packet_by}
use Rattle.party.specs.Answer.{Opened}
use Rattle.party.proofs.Sender.{sender-message, other-message, sender-packet, other-packet, packet-short, sent-read, cause-bounds}
use Rattle.party.proofs.Sender.{accepted-fits, accepted-opens, accepted-wrote}
use Rattle.agreement.specs.Calls.{opening}
use Rattle.agreement.specs.Agreement.{Good, different, sent, Conclusions}
use Rattle.agreement.specs.Agreement as agreement
use Rattle.agreement.specs.Broadcast.{Opener, party_of, parties, begun, gave, Premises, Settled, Broadcast}
use Rattle.agreement.proofs.Lists.{sum-none, sum_one, one_each}
use Rattle.agreement.proofs.Mapped.{all_map, map-map}
use Rattle.agreement.proofs.Agreement.{agreement}

module _ (H : List ℕ → List ℕ) (wide : (s : List ℕ) → length (H s) ≡ 32) (session n t : ℕ) (good : List Opener) (q : ℕ) (z : List ℕ) (bit : ℕ)
    (P : Premises H session n t good q z bit) where
  abbrev In : Opener → Type 0
  In A = Memᴰ A good

  -- each opening is the ordinary one, and what was written is the packet
  opens : (A : Opener) → In A → (begun H session n t good A).opened ≡ opening H session n t A.own (party_of A).message
  opens A h = accepted-opens n t A.own A.sender A.bytes H session A.out (P.opened.accepted A h)

  wrote : (A : Opener) → In A → gave H session n t good A ≡ packet_by n A.own A.sender A.bytes
  wrote A h = accepted-wrote n t A.own A.sender A.bytes H session A.out (P.opened.accepted A h)

  -- the numbers of the sender and of the party, and its message's length
  bounds : (A : Opener) → In A → (1 ≤ A.own) × (A.own ≤ n) × (length (party_of A).message ≤ max_message) × (1 ≤ q) × (q ≤ n)
  bounds A h =
      let f = accepted-fits n t A.own A.sender A.bytes H session A.out (P.opened.accepted A h) in
      let c = cause-bounds n t A.own A.sender A.bytes f.0 in
      let b = open-bounds n t A.own (length (party_of A).message) c.0 in
      let e = P.opened.named A h in
      (b.1, b.2, b.3, omega (arith, c.1, e), omega (arith, c.2, e))

  numbers : map (λ (A : Good). A.own) (parties H session n t good) ≡ map (λ (A : Opener). A.own) good
  numbers = map-map party_of (λ (A : Good). A.own) good

  premises : agreement.Premises H session n t (parties H session n t good) z bit
  premises =
      record {
        opened = record {
          bytes = all_map party_of (λ (A : Good). Bytes A.message) good P.opened.bytes;
          accepted = all_map party_of (λ (A : Good). (opening H session n t A.own A.message).cause ≡ 0) good
              (λ A h. sym (ap (λ (o : Opened). o.cause) (opens A h)) ∙ P.opened.accepted A h);
          apart = ap different numbers ∙ P.opened.apart;
          bad = subst (λ (l : List ℕ). agreement.absent n 1 l ≤ t) (sym numbers) P.opened.bad;
        };
        called = P.called;
        ruled = P.ruled;
        delivered = P.delivered;
        clean = P.clean;
      }

  -- a good sender's message is every good party's
  module _ (S : Opener) (hS : In S) (eS : S.own ≡ q) where
    own-sender : S.own ≡ S.sender
    own-sender = eS ∙ sym (P.opened.named S hS)

    short : length S.bytes ≤ max_message
    short = omega (arith, (bounds S hS).2, ap length (sender-message S.own S.sender S.bytes own-sender))

    received : (A : Opener) → In A → A.own ≢ q → (party_of A).message ≡ S.bytes
    received A h d =
        let more : n ≢ 1 = λ e. d (omega (arith, (bounds A h).0, (bounds A h).1, (bounds A h).3, (bounds A h).4)) in
        other-message A.own A.sender A.bytes (λ e. d (e ∙ P.opened.named A h))
        ∙ ap (λ (b : List ℕ). message_read (read_message b))
        (P.opened.delivered S hS eS A h d ∙ wrote S hS ∙ sender-packet S.own S.sender S.bytes n own-sender more)
        ∙ sent-read S.bytes short

    all_have : (A : Opener) → In A → (party_of A).message ≡ S.bytes
    all_have A h = elim (ℕ_discrete A.own q) [
      | yes e ↦ let same : A ≡ S = one_each (λ (B : Opener). B.own) good P.opened.apart h hS (e ∙ sym eS) in
          ap (λ (B : Opener). (party_of B).message) same ∙ sender-message S.own S.sender S.bytes own-sender
      | no d ↦ received A h d
    ]

  module _ (R : Result) (C : Conclusions H session n t (parties H session n t good) bit R) where
    senders : (S : Opener) → In S → S.own ≡ q → R ≡ settled S.bytes
    senders S hS eS =
        C.common S.bytes (all_map party_of (λ (A : Good). A.message ≡ S.bytes) good (λ A h. all_have S hS eS A h))

    -- the bytes of the sender's exchange
    abbrev first : Opener → ℕ
    first A = (n - 1) * length (gave H session n t good A)

    others-none : (A : Opener) → In A → A.own ≢ q → first A ≡ 0
    others-none A h d =
        ap (λ (p : List ℕ). (n - 1) * length p)
        (wrote A h ∙ other-packet A.own A.sender A.bytes n (λ e. d (e ∙ P.opened.named A h))) ∙ omega arith

    sender-some : (m : List ℕ) → R ≡ settled m → (A : Opener) → In A → A.own ≡ q → first A ≤ (n - 1) * (3 + length m)
    sender-some m e A h eA =
        let own : A.bytes ≡ m = let same : settled A.bytes ≡ settled m = sym (senders A h eA) ∙ e in cc in
        mul-le-mul_left {m = length (gave H session n t good A)} {n = 3 + length m} (n - 1) (omega (
          arith,
          ap length (wrote A h),
          packet-short n A.own A.sender A.bytes,
          ap length own,
        ))

    sent-bound : (m : List ℕ) → R ≡ settled m
        → sent H session n t (parties H session n t good) ≤ 2 * length good * (n - 1) * (4 + share_length (n - t) (length m) + 32 * height n)
    sent-bound m e =
        subst (λ (k : ℕ). sent H session n t (parties H session n t good) ≤ 2 * k * (n - 1) * (4 + share_length (n - t) (length m) + 32 * height n))
        (length-map good party_of) (C.bound m e)

    no-sender : R ≡ nothing → (A : Opener) → In A → A.own ≢ q
    no-sender e A h eA = let same : nothing ≡ settled A.bytes = sym e ∙ senders A h eA in let c : ◌≡◌ {A = ℕ} 0 1 = cc in omega arith

    settles : Settled H session n t good q bit R
    settles =
        record {
          opens = opens;
          agreed = C;
          senders = senders;
          bound = λ m e. omega (
            arith,
            sent-bound m e,
            sum_one (λ (A : Opener). A.own) first q ((n - 1) * (3 + length m)) good P.opened.apart others-none (sender-some m e),
          );
          bound-bad = λ d. omega (arith, sum-none first good (λ A h. others-none A h (d A h)));
          free = λ e. omega (arith, C.free e, sum-none first good (λ A h. others-none A h (no-sender e A h)));
        }

pub broadcast : (H : List ℕ → List ℕ) → ((s : List ℕ) → length (H s) ≡ 32) → Broadcast H
broadcast H wide session n t good q z bit P =
    let a = agreement H wide session n t (parties H session n t good) z bit (premises H wide session n t good q z bit P) in
    (a.0, settles H wide session n t good q z bit P a.0 a.1)

-- at SHA-256
pub broadcast-sha256 : Broadcast sha256
broadcast-sha256 = broadcast sha256 sha256-length
