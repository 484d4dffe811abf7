-- What the schools are promised, over the definitions that the functions' contracts cite and at SHA-256: demand 1, every call tells its outcome;
-- demand 2, books come back from their shares, and roots, paths and hashes are the standards'; demand 3, all good boxes end with one
-- result, whatever the others send. A box is a party there, a book a message. Assumes nothing.
use Rattle.std.specs.Prelude.{◌≡◌, ◌⊎◌, ◌≢◌, true, false, cond, not, ℕ, ◌+◌, ◌-◌, ◌*◌, ◌/◌, ◌%◌, ◌^◌, ◌≤◌, ◌<◌, ltb, eqb, length, get_or, take, drop}
use mathlib.Core.List.{List, [], ◌∷◌, ◌++◌, map, Memᴰ}
use Rattle.std.proofs.Math.Option.{Option, none, some}
use Rattle.limits.specs.Limits.{max_parties, max_message, max_hashed, parties, numbered, group_cause}
use Rattle.buffer.specs.Bounds.{Bytes}
use Rattle.buffer.specs.Splice.{spliced}
use Rattle.buffer.specs.Entries.{fills, bodies}
use Rattle.buffer.specs.Given.{gave, written}
use Rattle.buffer.specs.Given.{Done}
use Rattle.erasure.specs.Coding.{share_length, share, shares, encode_of}
use Rattle.erasure.specs.Rebuild.{present, point, joined, rebuild_of}
use Rattle.sha256.specs.Constants.{Bits, primes}
use Rattle.sha256.specs.Sha256.{K, initial, sha256, hash_of}
use Rattle.merkle.specs.Tree.{split, shape, sides, root, path}
use Rattle.merkle.specs.Strings.{Collision}
use Rattle.merkle.specs.Height.{height}
use Rattle.merkle.specs.Shares.{blank, coding_strings, path_length_of, check_of}
use Rattle.packet.specs.Format.{chained, read_of}
use Rattle.packet.specs.Answer.{cause_in, read_at}
use Rattle.packet.specs.Class.{valid, class_of, class_strings}
use Rattle.commitment.specs.Commitment.{message_root, packet_with}
use Rattle.party.specs.State.{Result, nothing, settled, seat_of, at_root, blank_state, broken}
use Rattle.party.specs.Steps.{turn_of, open_of, Stepped, cause_of, value_of, result_given, faulty_given}
use Rattle.party.specs.declared.Party.{Party}
use Rattle.party.specs.Answer.{Opened}
use Rattle.agreement.specs.Calls.{Call, step_of, made, entry}
use Rattle.agreement.specs.Agreement.{different, absent, sum_over}
use Rattle.state_bytes.specs.Layout.{state_length, state_bytes, state_of}
use Rattle.capi.specs.Calls.{packed, value_shown, Replies, open_call, called}
use Rattle.claims.specs.Terms.{when, foremost, group_then, lent, wrong, due, next, answered, outcome, cheats_told, unless, cause_joined, book_joined, unread}
use Rattle.claims.specs.Terms.{FourBytes, leaf, Leads, leaves, example_messages, example_digests, rooted, sent, relayed, ended, first, bytes_in, Box, Clean, party_box, box_of}

-- DEMAND 1. The opening, a step on any state, and both on bytes: the cause, what a refusal keeps, what an accepted call gives, and that a lawful one is
-- accepted. Cause 9 tells the length needed
pub record OpeningTells (session n t own : ℕ) (m : List ℕ) (r : Opened) : Type 0 where
  pub cause : r.cause ≡ group_then n t (when 3 (not (numbered n own)) ∷ when 4 (ltb max_message (length m)) ∷ [])
  pub refused : r.cause ≢ 0 → (r.state ≡ blank_state) × (r.root ≡ blank)
  pub accepted : r.cause ≡ 0 → (r.state ≡ at_root (seat_of session n t own) m) × (r.root ≡ message_root sha256 session n t m) × (broken r.state ≡ false)
  pub lawful : 1 ≤ n → n ≤ max_parties → 2 * t < n → 1 ≤ own → own ≤ n → length m ≤ max_message → r.cause ≡ 0

pub record StepTells (x : Party) (c : Call) (r : Stepped) : Type 0 where
  pub cause : r.cause ≡ foremost (when 5 (broken x) ∷ when 6 (not (eqb (turn_of x.stage) (step_of c))) ∷ wrong x c
      ∷ when 9 (ltb (length (lent c)) (length (due x c))) ∷ [])
  pub refused : r.cause ≢ 0 → (r.state ≡ x) × (r.buffer ≡ lent c) × (r.value ≡ cond (eqb r.cause 9) (length (due x c)) 0) × (r.result ≡ none)
      × (r.faulty ≡ 0)
  pub accepted : r.cause ≡ 0 → (r.state ≡ next x c) × (r.buffer ≡ spliced (lent c) 0 (due x c)) × (r.value ≡ answered x c)
      × (r.result ≡ outcome x c) × (r.faulty ≡ cheats_told x c) × (broken r.state ≡ false)
  pub lawful : broken x ≡ false → turn_of x.stage ≡ step_of c → wrong x c ≡ 0 → length (due x c) ≤ length (lent c) → r.cause ≡ 0
  pub answer : (r.cause ≡ cause_of r.answer) × (r.value ≡ value_of r.answer) × (r.result ≡ result_given r.answer r.buffer)
      × (r.faulty ≡ faulty_given r.answer)

pub record HostOpeningTells (session : ℕ) (s z : List ℕ) (r : Opened) (q : Replies) : Type 0 where
  pub number : q.number ≡ cond (eqb r.cause 0)
      (cond (ltb (length s) state_length) (packed 9 state_length) (cond (ltb (length z) 32) (packed 9 32) (packed 0 32))) (packed r.cause 0)
  pub refused : q.number ≢ packed 0 32 → (q.state ≡ s) × (q.out ≡ z)
  pub accepted : q.number ≡ packed 0 32 → (q.state ≡ (written (state_bytes r.state) s).buffer) × (q.out ≡ (written r.root z).buffer)
      × (FourBytes session → state_of q.state ≡ r.state)

-- the value fits below the cause; step 5's is twice the map of boxes seen to cheat, and 1 more for a book
pub record HostStepTells (s : List ℕ) (c : Call) (r : Stepped) (q : Replies) : Type 0 where
  pub number : (q.number ≡ packed r.cause (value_shown r.result r.faulty r.value)) × (value_shown r.result r.faulty r.value < 2 ^ 32)
  pub refused : r.cause ≢ 0 → (q.state ≡ s) × (q.out ≡ lent c)
  pub accepted : r.cause ≡ 0 → (q.state ≡ (written (state_bytes r.state) s).buffer) × (q.out ≡ r.buffer) × (state_of q.state ≡ r.state)

pub record EveryCallTellsItsOutcome : Type 0 where
  pub opening : (session n t own : ℕ) (m : List ℕ) → OpeningTells session n t own m (open_of sha256 session n t own m)
  pub step : (x : Party) (c : Call) → StepTells x c (made sha256 x c)
  pub host-opening : (session n t own : ℕ) (m s z : List ℕ) → HostOpeningTells session s z (open_of sha256 session n t own m) (open_call sha256 session n t own m s z)
  pub host-step : (s : List ℕ) (c : Call) → HostStepTells s c (made sha256 (state_of s) c) (called sha256 s c)
  -- the tools: shares, rebuilding from the n - t lowest-numbered shares present, hash, path and its check, packet. On bytes, and of a state that is asked for its
  -- stage, own number, sitting's number, map of boxes seen to cheat or result's length, their contracts are the definitions of `capi`
  pub shares : (n t : ℕ) (m out : List ℕ) → encode_of n t m out ≡ unless (group_then n t (when 4 (ltb max_message (length m)) ∷ [])) (shares n (n - t) m) out
  pub rebuild : (n t : ℕ) (es out : List ℕ) → let ps = present 1 (bodies n es) in let r = joined (n - t) (length (point ps 0).share) (take (n - t) ps) in
      rebuild_of n t es out ≡ unless (group_then n t (when 8 (not (fills n es)) ∷ when 11 (ltb (length ps) (n - t)) ∷ cause_joined r ∷ [])) (book_joined r) out
  pub hash : (m : List ℕ) → hash_of m ≡ record { cause = when 4 (ltb max_hashed (length m)); digest = cond (ltb max_hashed (length m)) blank (sha256 m) }
  pub path-length : (n j : ℕ) → ((path_length_of n j).cause ≡ foremost (when 1 (not (parties n)) ∷ when 3 (not (numbered n j)) ∷ []))
      × ((path_length_of n j).hashes ≡ cond (eqb (path_length_of n j).cause 0) (length (sides (shape n) (j - 1))) 0)
  pub check : (session n j : ℕ) (x : List ℕ) (p : List (List ℕ)) (k : ℕ) (z : List ℕ) → (check_of sha256 session n j x p k z).cause
      ≡ foremost (when 1 (not (parties n)) ∷ when 3 (not (numbered n j)) ∷ when 4 (ltb max_hashed (length (leaf session j x))) ∷ when 7 (not (eqb (length z) 32)) ∷ [])
  -- yes exactly if the path has the right length and folds to the root, whoever made it
  pub check-yes : (session n j : ℕ) (x : List ℕ) (p : List (List ℕ)) (k : ℕ) (z : List ℕ) → let r = check_of sha256 session n j x p k z in
      (r.passed ≡ true → (r.cause ≡ 0) × Leads session n j x p k z) × (r.cause ≡ 0 → Leads session n j x p k z → r.passed ≡ true)
  pub packet : (n : ℕ) (p : List ℕ) → cause_in (read_at n p 0) ≡ foremost (when 1 (not (parties n)) ∷ when 10 (unread (read_of n p)) ∷ [])

-- DEMAND 2. A book among n boxes of which t may be bad, within the limits
pub record Book (n t : ℕ) (m : List ℕ) : Type 0 where
  pub group : group_cause n t ≡ 0
  pub short : length m ≤ max_message
  pub bytes : Bytes m

-- of n entries the n - t lowest-numbered that are not empty, each with its number: there are as many, and they are the book's shares
pub record Used (n t : ℕ) (entries m : List ℕ) : Type 0 where
  pub enough : n - t ≤ length (present 1 (bodies n entries))
  pub own : (i : ℕ) → i < n - t
      → (point (present 1 (bodies n entries)) i).share ≡ share (n - t) (point (present 1 (bodies n entries)) i).number m

pub record BooksComeBackFromTheirShares : Type 0 where
  -- any n - t shares of a book give it back, and what is given back has the shares that it came from
  pub complete : (n t : ℕ) (m entries out : List ℕ) → Book n t m → fills n entries ≡ true → Used n t entries m
      → rebuild_of n t entries out ≡ written m out
  pub sound : (n t l : ℕ) (entries out : List ℕ) → Bytes entries → (rebuild_of n t entries out).answer ≡ Done l
      → (m : List ℕ) × Book n t m × Used n t entries m × (rebuild_of n t entries out ≡ gave (Done (length m)) (spliced out 0 m))

pub record RootsAndPathsAreRFC6962s : Type 0 where
  -- section 2.1, with leaf strings, 0x00 in front: the tree over one leaf, and over n from those over the first k and over the others, k the largest
  -- power of two below n
  pub power : (n : ℕ) → 2 ≤ n → (e : ℕ) × (split n ≡ 2 ^ e) × (split n < n) × (n ≤ 2 * split n)
  pub root-one : (d : List ℕ) → root sha256 (shape 1) (d ∷ []) ≡ sha256 d
  pub root-more : (n : ℕ) (ds : List (List ℕ)) → 2 ≤ n → root sha256 (shape n) ds
      ≡ sha256 (0x01 ∷ (root sha256 (shape (split n)) (take (split n) ds) ++ root sha256 (shape (n - split n)) (drop (split n) ds)))
  -- section 2.1.1: the audit path of leaf i, from 0
  pub path-one : (ds : List (List ℕ)) → path sha256 (shape 1) 0 ds ≡ []
  pub path-left : (n i : ℕ) (ds : List (List ℕ)) → 2 ≤ n → i < split n → path sha256 (shape n) i ds
      ≡ path sha256 (shape (split n)) i (take (split n) ds) ++ (root sha256 (shape (n - split n)) (drop (split n) ds) ∷ [])
  pub path-right : (n i : ℕ) (ds : List (List ℕ)) → 2 ≤ n → split n ≤ i → path sha256 (shape n) i ds
      ≡ path sha256 (shape (n - split n)) (i - split n) (drop (split n) ds) ++ (root sha256 (shape (split n)) (take (split n) ds) ∷ [])
  -- these are the root that a box opens with, and the path in the packet with share j
  pub book-root : (session n t : ℕ) (m : List ℕ) → Book n t m → message_root sha256 session n t m ≡ root sha256 (shape n) (leaves session n t m)
  pub book-path : (session n t j : ℕ) (m : List ℕ) → Book n t m → 1 ≤ j → j ≤ n → let x = share (n - t) j m in packet_with sha256 session n t m j
      ≡ 0x07 ∷ j ∷ length x / 256 ∷ length x % 256 ∷ (x ++ chained (path sha256 (shape n) (j - 1) (leaves session n t m)))

-- the packet with a share of a book passes under its root; whatever passes, whoever made it, has the book's share, and two books with one root are one,
-- or else two different strings that were hashed have one hash
pub record ARootHasOneBook : Type 0 where
  pub passes : (session n t j : ℕ) (m : List ℕ) → Book n t m → 1 ≤ j → j ≤ n → class_of sha256 session n j (message_root sha256 session n t m) (packet_with sha256 session n t m j)
      ≡ valid (share (n - t) j m) (path sha256 (shape n) (j - 1) (leaves session n t m))
  pub binds : (session n t j : ℕ) (m packet x : List ℕ) (p : List (List ℕ)) → Book n t m
      → class_of sha256 session n j (message_root sha256 session n t m) packet ≡ valid x p
      → (x ≡ share (n - t) j m) ⊎ Collision sha256 (class_strings sha256 session n j packet) (coding_strings sha256 session n (shares n (n - t) m))
  pub one : (session n t : ℕ) (m o : List ℕ) → Book n t m → Book n t o → message_root sha256 session n t m ≡ message_root sha256 session n t o
      → (m ≡ o) ⊎ Collision sha256 (coding_strings sha256 session n (shares n (n - t) m)) (coding_strings sha256 session n (shares n (n - t) o))

pub record HashesAreFIPS180-4s : Type 0 where
  -- 4.2.2 and 5.3.3: the constants are the bits of cube and square roots of the first primes; and the published examples. The rest of the standard is the
  -- definition itself, in its order and letters (`sha256` Sha256)
  pub constants : (i : ℕ) → i < 64 → Bits 3 (get_or (primes 312) i 0) (get_or K i 0)
  pub words : (i : ℕ) → i < 8 → Bits 2 (get_or (primes 20) i 0) (get_or initial i 0)
  pub examples : map sha256 example_messages ≡ example_digests

-- DEMAND 3. Good boxes, with the agreed root z and the agreed bit
module _ (n t : ℕ) (good : List Box) (z : List ℕ) (bit : ℕ) where
  abbrev pub All : (Box → Type 0) → Type 0
  All P = (A : Box) → Memᴰ A good → P A

  pub record Sitting : Type 0 where
    -- all opened with n, t and a book of bytes, under different numbers; the numbers up to n that none of them has are bad, at most t
    pub opened : All (λ A. (A.cause ≡ 0) × Bytes A.book)
    pub numbers : different (map (λ (A : Box). A.own) good) ≡ true
    pub bad : absent n 1 (map (λ (A : Box). A.own) good) ≤ t
    -- the first accepted steps 2 and 3 got the agreed root and bit; on bit 1 steps 4 and 5 were accepted too
    pub step2 : All (λ A. (b : ℕ) × (first 2 A.acts ≡ some (rooted z b)))
    pub step3 : All (λ A. (out : List ℕ) × (first 3 A.acts ≡ some (sent bit out)))
    pub step4 : bit ≡ 1 → All (λ A. (inbox out : List ℕ) × (first 4 A.acts ≡ some (relayed inbox out)))
    pub step5 : bit ≡ 1 → All (λ A. (inbox : List ℕ) × (r : Option Result) × (first 5 A.acts ≡ some (ended inbox r)))
    -- the rule of the short agreement: what all good boxes put in comes out
    pub root-rule : (v : List ℕ) → All (λ A. A.root ≡ v) → z ≡ v
    pub bit-rule : (v : ℕ) → All (λ A. first 2 A.acts ≡ some (rooted z v)) → bit ≡ v
    -- what a good box sent to another stands under its number in that one's inbox; of all else in an inbox nothing is said
    pub first-inbox : bit ≡ 1 → All (λ A. All (λ B. A.own ≢ B.own → (inbox relay outbox : List ℕ)
        → first 4 A.acts ≡ some (relayed inbox relay) → first 3 B.acts ≡ some (sent bit outbox)
        → entry n B.own inbox ≡ entry n A.own outbox))
    pub second-inbox : bit ≡ 1 → All (λ A. All (λ B. A.own ≢ B.own → (inbox other relay : List ℕ) (r : Option Result)
        → first 5 A.acts ≡ some (ended inbox r) → first 4 B.acts ≡ some (relayed other relay) → entry n B.own inbox ≡ relay))
    -- no two different strings of their openings and path checks have one hash
    pub clean : Clean good

  abbrev pub bytes_sent : ℕ
  bytes_sent = sum_over (λ (A : Box). sum_over (bytes_in n) A.acts) good

  -- one result R, in every state and from the first step 5: nothing or a good box's book, the common one where all opened with one; and few bytes
  pub record OneResult (R : Result) : Type 0 where
    pub held : All (λ A. A.result ≡ some R)
    pub given : bit ≡ 1 → All (λ A. (inbox : List ℕ) × (first 5 A.acts ≡ some (ended inbox (some R))))
    pub somebodys : (R ≡ nothing) ⊎ ((A : Box) × Memᴰ A good × (R ≡ settled A.book))
    pub common : (m : List ℕ) → All (λ A. A.book ≡ m) → R ≡ settled m
    pub bound : (m : List ℕ) → R ≡ settled m
        → bytes_sent ≤ 2 * length good * (n - 1) * (4 + share_length (n - t) (length m) + 32 * height n)
    pub free : R ≡ nothing → bytes_sent ≡ 0

abbrev pub EndWithOneResult : {A : Type 0} → (ℕ → ℕ → A → Box) → Type 0
EndWithOneResult {A} box = (n t : ℕ) (good : List A) (z : List ℕ) (bit : ℕ) → Sitting n t (map (box n t) good) z bit
    → (R : Result) × OneResult n t (map (box n t) good) z bit R

-- in every sitting, with one number for all: parties with their states; and boxes of which any may be hosts, with bytes
abbrev pub AllGoodBoxesEndWithOneResult : Type 0
AllGoodBoxesEndWithOneResult = (session : ℕ) → EndWithOneResult (party_box session)

abbrev pub AllGoodHostsEndWithOneResult : Type 0
AllGoodHostsEndWithOneResult = (session : ℕ) → FourBytes session → EndWithOneResult (box_of session)
