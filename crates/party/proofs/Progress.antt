-- Progress: a lawful call is accepted. In turn, on a state that is not broken, with arguments within their limits and a buffer as long as
-- what is written, no step turns its call away; and an accepted call gives back a state that is not broken. So no party can meet its
-- contracts by refusing. By the laws of the causes. Assumes nothing.
use mathlib.Core.Path.{◌≡◌, refl, ap, ◌∙◌}
use mathlib.Core.Bool.{Bool, true, false, cond}
use mathlib.Core.List.{List, []}
use Prim.Native.Nat.{ℕ, ◌-◌, ◌*◌, ◌≤◌, ◌<◌}
use native.Mathlib.Omega.{arith}
use borrow.Author.Tests.{le-ltb, ltb-false, eq-eqb}
use lib.Dec.{eqb}
use lib.ListN.{length, length-take}
use Rattle.limits.specs.Limits.{max_parties, max_message, max_share}
use Rattle.limits.proofs.Group.{group-fine}
use Rattle.buffer.specs.Entries.{fills, bodies}
use Rattle.erasure.specs.Rebuild.{Recovered, present}
use Rattle.erasure.specs.Rebuild as rebuild
use Rattle.packet.proofs.Reading.{fields-of}
use Rattle.packet.proofs.Class.{passing}
use Rattle.party.specs.State.{Result, nothing, settled, result_bytes, message_in, at_root, at_bit, at_first, at_second, at_end, broken, happy}
use Rattle.party.specs.State.{result_at, has_ended, overlong}
use Rattle.party.specs.Steps.{turn_of, open_of, bit_cause, inbox_cause, relays_cause, agree_root_of, outbox_of, agree_bit_of, Taken, missing, found, taken_by}
use Rattle.party.specs.Steps.{share_taken, faulty_shares, relay_of, held_of, take_shares_of, gathered, recovered_by, rebuilt, result_found, held_or, result_of, faulty_of, ending, take_relays_of, writes, Stepped}
use Rattle.std.specs.Prelude.{Some, None}
use Rattle.party.specs.declared.Stage.{Stage}
use Rattle.party.specs.declared.Stage.TheVariants.{Root, Bit, First, Second, Ended}
use Rattle.commitment.specs.declared.Seat.{Seat}
use Rattle.party.specs.declared.Party.{Party}
use Rattle.party.specs.Answer.{Opened}
use Rattle.commitment.specs.Commitment.{open_cause}
use Rattle.commitment.specs.Rebuild.{under_root}
use Rattle.commitment.proofs.Opening.{open-fine}
use Rattle.commitment.proofs.Rebuild.{Short, short-recovered, short-under}
use Rattle.party.proofs.Causes.{fit_of, whole-stage, broken-stage, state-fine, root-fine, bit-fine, inbox-fine, relays-fine}
use Rattle.party.proofs.Outcomes.{open-given, root-given}
use Rattle.party.proofs.Checks.{took}
use Rattle.party.proofs.Faulty.{Holds, holds-empty, holds-fine}

-- a buffer that is long enough is written to
room_for : (x next : Party) (bs out : List ℕ) → length bs ≤ length out → (writes x next bs out).cause ≡ 0
room_for x next bs out h = rw (le-ltb (length out) (length bs) h)

room-for-end : (x : Party) (r : Result) (f : ℕ) (out : List ℕ) → length (result_bytes r) ≤ length out → (ending x r f out).cause ≡ 0
room-for-end x nothing f out h = refl
room-for-end x (settled m) f out h = rw (le-ltb (length out) (length m) h)

module _ (H : List ℕ → List ℕ) where
  -- step 1
  pub open-accepted : (session n t own : ℕ) (m : List ℕ) → 1 ≤ n → n ≤ max_parties → 2 * t < n → 1 ≤ own → own ≤ n → length m ≤ max_message
      → (open_of H session n t own m).cause ≡ 0
  open-accepted session n t own m low high faults first last short =
      ap (λ (r : Opened). r.cause)
      (open-given H session n t own m (open-fine n t own (length m) (group-fine n t low high faults) first last short))

  module _ (x : Party) (whole : broken x ≡ false) where
    -- step 2
    pub root-accepted : (z : List ℕ) → turn_of x.stage ≡ 2 → length z ≡ 32 → (agree_root_of H x z).cause ≡ 0
    root-accepted z turn long =
        ap (λ (r : Stepped). r.cause) (root-given H x z (root-fine x z (state-fine 2 x whole turn) long))

    -- step 3
    pub bit-accepted : (bit : ℕ) (out : List ℕ) → turn_of x.stage ≡ 3 → bit ≤ 1 → length (outbox_of H x bit) ≤ length out
        → (agree_bit_of H x bit out).cause ≡ 0
    unfolding agree_bit_of
    bit-accepted bit out turn low room =
        let e = bit-fine x bit (state-fine 3 x whole turn) low in
        rw (eq-eqb (bit_cause x bit) 0 e)
        (room_for x
        (cond (eqb bit 0) (at_end x.seat nothing 0) (at_first x.seat (message_in x) x.root))
        (outbox_of H x bit) out room)

    -- step 4
    pub shares-accepted : (inbox out : List ℕ) → turn_of x.stage ≡ 4 → fills x.seat.n inbox ≡ true
        → length (relay_of H x inbox) ≤ length out → (take_shares_of H x inbox out).cause ≡ 0
    unfolding take_shares_of
    shares-accepted inbox out turn filled room =
        let e = inbox-fine 4 x inbox (state-fine 4 x whole turn) filled in
        rw (eq-eqb (inbox_cause 4 x inbox) 0 e)
        (room_for x (at_second x.seat (message_in x) x.root (held_of H x inbox) (faulty_shares H x inbox)) (relay_of H x inbox) out room)

    -- step 5; the inbox of a party that has ended may be any
    pub relays-accepted : (inbox out : List ℕ) → turn_of x.stage ≡ 5 → (has_ended x.stage ≡ false → fills x.seat.n inbox ≡ true)
        → length (result_bytes (result_of H x inbox)) ≤ length out → (take_relays_of H x inbox out).cause ≡ 0
    unfolding take_relays_of
    relays-accepted inbox out turn filled room =
        let e = relays-fine x inbox (state-fine 5 x whole turn) filled in
        rw (eq-eqb (relays_cause x inbox) 0 e) (room-for-end x (result_of H x inbox) (faulty_of H x inbox) out room)

-- the forms of states within their limits are not broken
module _ (s : Seat) (low : 1 ≤ s.n) (high : s.n ≤ max_parties) (faults : 2 * s.t < s.n) (first : 1 ≤ s.own) (last : s.own ≤ s.n) where
  opened : (len : ℕ) → len ≤ max_message → open_cause s.n s.t s.own len ≡ 0
  opened len = open-fine s.n s.t s.own len (group-fine s.n s.t low high faults) first last

  module _ (m : List ℕ) (short : length m ≤ max_message) where
    pub root-whole : broken (at_root s m) ≡ false
    unfolding at_root
    root-whole = broken-stage (at_root s m) (opened (length m) short) (omega arith) (holds-fine (at_root s m) (holds-empty s.n s.own))

    pub bit-whole : (z : List ℕ) → broken (at_bit s m z) ≡ false
    unfolding at_bit
    bit-whole z = broken-stage (at_bit s m z) (opened (length m) short) (omega arith) (holds-fine (at_bit s m z) (holds-empty s.n s.own))

    pub first-whole : (z : List ℕ) → broken (at_first s m z) ≡ false
    unfolding at_first
    first-whole z = broken-stage (at_first s m z) (opened (length m) short) (omega arith) (holds-fine (at_first s m z) (holds-empty s.n s.own))

    pub second-whole : (z y : List ℕ) (f : ℕ) → length y ≤ max_share → Holds s.n s.own f → broken (at_second s m z y f) ≡ false
    unfolding at_second
    second-whole z y f few map = broken-stage (at_second s m z y f) (opened (length m) short) few (holds-fine (at_second s m z y f) map)

  pub end_whole : (r : Result) (f : ℕ) → length (result_bytes r) ≤ max_message → Holds s.n s.own f → broken (at_end s r f) ≡ false
  unfolding at_end
  end_whole nothing f h map = broken-stage (at_end s nothing f) (opened 0 (omega arith)) (omega arith) (holds-fine (at_end s nothing f) map)
  end_whole (settled m) f h map =
      broken-stage (at_end s (settled m) f) (opened 0 (omega arith)) (omega arith) (holds-fine (at_end s (settled m) f) map)
      ∙ le-ltb max_message (length m) h

-- what an accepted call keeps is within the limits: the message, the share taken, and the result
module _ (H : List ℕ → List ℕ) (x : Party) (whole : broken x ≡ false) where
  pub message-short : length (message_in x) ≤ max_message
  message-short = omega (arith, length-take x.len x.message, (fit_of x whole).short)

  pub held-short : (inbox : List ℕ) → length (held_of H x inbox) ≤ max_share
  unfolding held_of
  held-short inbox = go (happy H x) (taken_by H x inbox) refl
    where
      go : (b : Bool) (t : Taken) → taken_by H x inbox ≡ t → length (cond b [] (share_taken (taken_by H x inbox))) ≤ max_share
      go true t e = omega arith
      go false missing e = rw e (omega arith)
      go false (found y p) e =
          let k = took H x.seat.session x.seat.n x.seat.own x.root 1 (bodies x.seat.n inbox) y p e in
          let q = passing H x.seat.session x.seat.n x.seat.own x.root k.packet y p k.good in
          rw e (fields-of x.seat.n k.packet x.seat.own y p q.reads).most

  rebuilt-short : (r : Recovered) → Short r → length (result_bytes (rebuilt r)) ≤ max_message
  rebuilt-short (rebuild.cause k) h = omega arith
  rebuilt-short (rebuild.message m) h = h

  pub found-short : (inbox : List ℕ) → length (result_bytes (result_found H x inbox)) ≤ max_message
  unfolding result_found
  found-short inbox = go (happy H x)
    where
      go : (b : Bool) → length (result_bytes (cond b (settled (message_in x))
          (rebuilt (under_root H x.seat.session x.seat.n x.seat.t x.root (recovered_by H x inbox))))) ≤ max_message
      go true = message-short
      go false =
          rebuilt-short (under_root H x.seat.session x.seat.n x.seat.t x.root (recovered_by H x inbox))
          (short-under H x.seat.session x.seat.n x.seat.t x.root (recovered_by H x inbox)
          (short-recovered (x.seat.n - x.seat.t) (present 1 (gathered H x 1 (bodies x.seat.n inbox)))))

  -- a result that is held is within the limit, or the state were broken
  pub result-short : (inbox : List ℕ) → length (result_bytes (result_of H x inbox)) ≤ max_message
  unfolding result_of
  result-short inbox = go x.stage (whole-stage x whole) (found-short inbox)
    where
      go : (s : Stage) → overlong s ≡ false → length (result_bytes (result_found H x inbox)) ≤ max_message
          → length (result_bytes (held_or (result_at s x.message) (result_found H x inbox))) ≤ max_message
      go Root h f = f
      go Bit h f = f
      go First h f = f
      go Second h f = f
      go (Ended None) h f = omega arith
      go (Ended (Some l)) h f = omega (arith, length-take l x.message, ltb-false max_message l h)
