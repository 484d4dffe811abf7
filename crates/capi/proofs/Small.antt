-- Every value fits the lower half of an answer: what a step writes, a message, the shares of one, what is asked of a state. By the limits.
-- Assumes nothing.
use mathlib.Core.Path.{◌≡◌, refl, sym, subst}
use mathlib.Core.Bool.{Bool, true, false, cond}
use mathlib.Core.List.{List, []}
use Prim.Native.Nat.{ℕ, ◌-◌, ◌*◌, ◌/◌, ◌%◌, ◌^◌, ◌<◌, ◌≤◌}
use native.Mathlib.Nat.{mul-le-mul_right, mul-le-mul_left}
use native.Mathlib.Decide.{ℕ_discrete}
use native.Mathlib.Omega.{arith}
use borrow.Author.Tests.{eq-eqb, ne_eqb, ltb-false}
use lib.Dec.{ltb, eqb}
use lib.Pow.{pow_mono}
use lib.ListN.{length, length-take}
use Rattle.limits.specs.Limits.{max_parties, max_message, max_share, group_cause}
use Rattle.limits.proofs.Group.{group_of}
use Rattle.buffer.specs.Splice.{spliced}
use Rattle.buffer.specs.Given.{Given, Written, value_of, gave, written}
use Rattle.buffer.specs.Given as goal
use Rattle.erasure.specs.Coding.{share_length, shares, encode_of}
use Rattle.erasure.specs.Rebuild.{Recovered, cause, message, answered, rebuild_of}
use Rattle.erasure.proofs.Frame.{share-most}
use Rattle.sha256.specs.Sha256.{sha256}
use Rattle.sha256.proofs.Laws.{sha256-length}
use Rattle.commitment.specs.Private.{Coded}
use Rattle.commitment.specs.Rooms.{max_packet, max_outbox}
use Rattle.commitment.proofs.Shared.{length-shares}
use Rattle.party.specs.State.{Result, nothing, settled, result_bytes, message_in, at_bit, at_first, at_second, at_end, happy}
use Rattle.party.specs.Steps.{Stepped, stepped, gives, writes, root_cause, with_root, agree_root_of, bit_cause, packet_for, outbox_of, agree_bit_of}
use Rattle.party.specs.Steps.{inbox_cause, relays_cause, relay_of, held_of, faulty_shares, faulty_of, Taken, missing, found, taken_by, packet_taken, take_shares_of, result_of, ending, take_relays_of}
use Rattle.party.specs.Private.{Fit}
use Rattle.party.specs.declared.Party.{Party}
use Rattle.party.specs.declared.Reply.{Reply}
use Rattle.party.specs.Answer as answer
use Rattle.party.proofs.Causes.{state-fit, state-sound, inbox-sound, relays-sound}
use Rattle.party.proofs.Kept.{take-padded}
use Rattle.party.proofs.Outcomes.{root-refused, root-given}
use Rattle.party.proofs.Progress.{result-short}
use Rattle.party.proofs.Faulty.{holds-given}
use Rattle.party.proofs.Rooms.{outbox-fits, relay-fits}
use Rattle.erasure.proofs.Outcomes.{rebuild-refused}
use Rattle.commitment.specs.Rebuild.{under_root, rebuild_with_root_of}
use Rattle.commitment.proofs.Rebuild.{Short, short-under, entries_found, short-entries, rebuild-entries}
use Rattle.commitment.proofs.Rebuild.{with-root-refused, with-root-wide, with-root-entries}
use Rattle.agreement.specs.Calls.{Call, agree_root, agree_bit, take_shares, take_relays, made}
use Rattle.capi.specs.Calls.{packed, value_shown, number_of}
use Rattle.capi.proofs.Answers.{value-fits}
use Rattle.capi.proofs.Sound.{bit-sound}

-- what is written, or would be
writes-value : (x next : Party) (bs out : List ℕ) → (writes x next bs out).value ≡ length bs
writes-value x next bs out = go (ltb (length out) (length bs))
  where
    go : (b : Bool)
        → (cond b (gives x (answer.Short (length bs)) out) (gives next (answer.Sent (length bs)) (spliced out 0 bs))).value ≡ length bs
    go true = refl
    go false = refl

value-of : (bs out : List ℕ) → (written bs out).value ≡ length bs
unfolding written
value-of bs out = go (ltb (length out) (length bs))
  where
    go : (b : Bool)
        → (cond b (gave (goal.Short (length bs)) out) (gave (goal.Done (length bs)) (spliced out 0 bs))).value ≡ length bs
    go true = refl
    go false = refl

writes-map : (x next : Party) (bs out : List ℕ) → (writes x next bs out).faulty ≡ 0
writes-map x next bs out = go (ltb (length out) (length bs))
  where
    go : (b : Bool) → (cond b (gives x (answer.Short (length bs)) out) (gives next (answer.Sent (length bs)) (spliced out 0 bs))).faulty ≡ 0
    go true = refl
    go false = refl

-- a value and a map that fit
abbrev pub Fitting : Stepped → Type 0
Fitting r = (r.value < 2 ^ 32) × (r.faulty < 2 ^ 31)

map-fits : (n f : ℕ) → n ≤ max_parties → f < 2 ^ n → f < 2 ^ 31
map-fits n f h g = omega (arith, g, pow_mono {i = n} {j = max_parties} h, pow_mono {i = max_parties} {j = 31} (omega arith))

writes-fitting : (x next : Party) (bs out : List ℕ) → length bs < 2 ^ 32 → Fitting (writes x next bs out)
writes-fitting x next bs out h = (omega (arith, writes-value x next bs out, h), omega (arith, writes-map x next bs out))

ending-fitting : (x : Party) (r : Result) (f : ℕ) (out : List ℕ) → length (result_bytes r) ≤ max_message → f < 2 ^ 31 → Fitting (ending x r f out)
ending-fitting x nothing f out h g = (omega arith, g)
ending-fitting x (settled m) f out h g = go (ltb (length out) (length m))
  where
    go : (b : Bool) → Fitting (cond b (gives x (answer.Short (length m)) out)
        (gives (at_end x.seat (settled m) f) (answer.Message (length m) f) (spliced out 0 m)))
    go true = (omega (arith, h), omega arith)
    go false = (omega (arith, h), g)

-- what a party writes hangs on its message and not on how it is kept
coded : (x : Party) → Fit x → Coded x.seat.n x.seat.t (message_in x)
coded x f =
    record {
      low = f.low;
      high = f.high;
      faults = omega (arith, f.faults);
      short = omega (arith, length-take x.len x.message, f.short);
    }

module _ (H : List ℕ → List ℕ) (x : Party) where
  abbrev Bit : Party
  Bit = at_bit x.seat (message_in x) x.root

  abbrev First : Party
  First = at_first x.seat (message_in x) x.root

  bit-same : (bit : ℕ) → outbox_of H Bit bit ≡ outbox_of H x bit
  unfolding outbox_of packet_for happy at_bit
  bit-same bit = rw (take-padded max_message (message_in x))

  taken-same : (t : Taken) → packet_taken First t ≡ packet_taken x t
  unfolding at_first
  taken-same missing = refl
  taken-same (found y p) = refl

  first-same : (inbox : List ℕ) → relay_of H First inbox ≡ relay_of H x inbox
  unfolding relay_of packet_for happy at_first
  first-same inbox = rw (take-padded max_message (message_in x), taken-same (taken_by H x inbox))

module _ (H : List ℕ → List ℕ) (wide : (s : List ℕ) → length (H s) ≡ 32) (x : Party) where
  -- step 2: a bit
  root-small : (z : List ℕ) → Fitting (agree_root_of H x z)
  root-small z = elim (ℕ_discrete (root_cause x z) 0) [
    | yes e ↦ rw (root-given H x z e) (one (happy H (with_root x z)), omega arith)
    | no e ↦ rw (root-refused H x z e) (omega arith, omega arith)
  ]
    where
      one : (b : Bool) → cond b 1 0 < 2 ^ 32
      one true = omega arith
      one false = omega arith

  -- step 3
  pub outbox-small : Fit x → (bit : ℕ) → length (outbox_of H x bit) ≤ max_outbox
  outbox-small f bit =
      subst (λ (l : List ℕ). length l ≤ max_outbox) (bit-same H x bit)
      (outbox-fits H wide x.seat (message_in x) x.root (coded x f) bit)

  bit-small : (bit : ℕ) (out : List ℕ) → Fitting (agree_bit_of H x bit out)
  unfolding agree_bit_of
  bit-small bit out = elim (ℕ_discrete (bit_cause x bit) 0) [
    | yes e ↦ let next : Party = cond (eqb bit 0) (at_end x.seat nothing 0)
        (at_first x.seat (message_in x) x.root) in
        rw (eq-eqb (bit_cause x bit) 0 e)
        (writes-fitting x next (outbox_of H x bit) out (omega (arith, outbox-small (state-fit 3 x (bit-sound x bit e)) bit)))
    | no e ↦ rw (ne_eqb (bit_cause x bit) 0 e) (omega arith, omega arith)
  ]

  -- step 4
  pub relay-small : Fit x → (inbox : List ℕ) → length (relay_of H x inbox) ≤ max_packet
  relay-small f inbox =
      subst (λ (l : List ℕ). length l ≤ max_packet) (first-same H x inbox)
      (relay-fits H wide x.seat (message_in x) x.root (coded x f) f.first f.last inbox)

  shares-small : (inbox out : List ℕ) → Fitting (take_shares_of H x inbox out)
  unfolding take_shares_of
  shares-small inbox out = elim (ℕ_discrete (inbox_cause 4 x inbox) 0) [
    | yes e ↦ let next : Party = at_second x.seat (message_in x) x.root (held_of H x inbox) (faulty_shares H x inbox) in
        rw (eq-eqb (inbox_cause 4 x inbox) 0 e)
        (writes-fitting x next (relay_of H x inbox) out (omega (arith, relay-small (state-fit 4 x (inbox-sound 4 x inbox e).0) inbox)))
    | no e ↦ rw (ne_eqb (inbox_cause 4 x inbox) 0 e) (omega arith, omega arith)
  ]

  -- step 5
  relays-small : (inbox out : List ℕ) → Fitting (take_relays_of H x inbox out)
  unfolding take_relays_of
  relays-small inbox out = elim (ℕ_discrete (relays_cause x inbox) 0) [
    | yes e ↦ let sound = (relays-sound x inbox e).0 in
        let f = state-fit 5 x sound in
        rw (eq-eqb (relays_cause x inbox) 0 e)
        (ending-fitting x (result_of H x inbox) (faulty_of H x inbox) out (result-short H x (state-sound 5 x sound).0 inbox)
        (map-fits x.seat.n (faulty_of H x inbox) f.high (holds-given H x inbox f).named))
    | no e ↦ rw (ne_eqb (relays_cause x inbox) 0 e) (omega arith, omega arith)
  ]

  -- any step
  pub call-small : (c : Call) → Fitting (made H x c)
  unfolding made
  call-small (agree_root z) = root-small z
  call-small (agree_bit bit out) = bit-small bit out
  call-small (take_shares inbox out) = shares-small inbox out
  call-small (take_relays inbox out) = relays-small inbox out

  -- so both halves are there: what the header's two helpers give
  pub call-halves : (c : Call) → let r = made H x c in
      (number_of r / 2 ^ 32 ≡ r.cause) × (number_of r % 2 ^ 32 ≡ value_shown r.result r.faulty r.value)
  unfolding packed
  call-halves c =
      let r = made H x c in
      let g = call-small c in
      let h = value-fits r.result r.faulty r.value g.0 g.1 in
      (omega (arith, h), omega (arith, h))

-- so every answer of a step fits
module _ (x : Party) (r : Reply) (new : List ℕ) where
  pub root_fits : (z : List ℕ) → stepped r new ≡ agree_root_of sha256 x z → Fitting (stepped r [])
  root_fits z e = subst Fitting (sym e) (root-small sha256 sha256-length x z)

  pub bit_fits : (bit : ℕ) (out : List ℕ) → stepped r new ≡ agree_bit_of sha256 x bit out → Fitting (stepped r [])
  bit_fits bit out e = subst Fitting (sym e) (bit-small sha256 sha256-length x bit out)

  pub shares_fit : (inbox out : List ℕ) → stepped r new ≡ take_shares_of sha256 x inbox out → Fitting (stepped r [])
  shares_fit inbox out e = subst Fitting (sym e) (shares-small sha256 sha256-length x inbox out)

  pub relays_fit : (inbox out : List ℕ) → stepped r new ≡ take_relays_of sha256 x inbox out → Fitting (stepped r [])
  relays_fit inbox out e = subst Fitting (sym e) (relays-small sha256 sha256-length x inbox out)

abbrev Below : Given → Type 0
Below g = g.value < 2 ^ 32

-- what is answered has the value of what was given
pub given_small : (w : Written) (out : List ℕ) (g : Given) → gave w out ≡ g → g.value < 2 ^ 32 → value_of w < 2 ^ 32
given_small w out g e h = subst Below (sym e) h

-- the shares of a message
pub encode_small : (n t : ℕ) (m out : List ℕ) → (encode_of n t m out).value < 2 ^ 32
unfolding encode_of
encode_small n t m out = elim (ℕ_discrete (group_cause n t) 0) [
  | yes e ↦ rw (eq-eqb (group_cause n t) 0 e) (go e (ltb max_message (length m)) refl)
  | no e ↦ rw (ne_eqb (group_cause n t) 0 e) (omega arith)
]
  where
    fits : group_cause n t ≡ 0 → length m ≤ max_message → length (shares n (n - t) m) ≤ max_parties * max_share
    fits e h =
        let g = group_of n t e in
        let b = share-most (n - t) (length m) (omega (arith, g)) in
        omega (
          arith,
          length-shares n (n - t) m,
          mul-le-mul_right (share_length (n - t) (length m)) g.high,
          mul-le-mul_left max_parties b,
          h,
        )

    go : group_cause n t ≡ 0 → (b : Bool) → ltb max_message (length m) ≡ b
        → (cond b (gave (goal.Refused 4) out) (written (shares n (n - t) m) out)).value < 2 ^ 32
    go e true q = omega arith
    go e false q =
        omega (arith, value-of (shares n (n - t) m) out, fits e (ltb-false max_message (length m) q))

-- a message rebuilt
answered-small : (r : Recovered) (out : List ℕ) → Short r → (answered r out).value < 2 ^ 32
answered-small (cause k) out h = omega arith
answered-small (message m) out h = omega (arith, value-of m out, h)

pub rebuild_small : (n t : ℕ) (es out : List ℕ) → (rebuild_of n t es out).value < 2 ^ 32
rebuild_small n t es out = elim (ℕ_discrete (group_cause n t) 0) [
  | yes e ↦ subst Below (sym (rebuild-entries n t es out e)) (answered-small (entries_found n t es) out (short-entries n t es))
  | no e ↦ subst Below (sym (rebuild-refused n t es out e)) (omega arith)
]

pub with_root_small : (H : List ℕ → List ℕ) (session n t : ℕ) (z es out : List ℕ) → (rebuild_with_root_of H session n t z es out).value < 2 ^ 32
with_root_small H session n t z es out = elim (ℕ_discrete (group_cause n t) 0) [
  | yes e ↦ elim (ℕ_discrete (length z) 32) [
    | yes w ↦ subst Below (sym (with-root-entries n t es out H session z e w))
        (answered-small (under_root H session n t z (entries_found n t es)) out (short-under H session n t z (entries_found n t es) (short-entries n t es)))
    | no w ↦ subst Below (sym (with-root-wide n t es out H session z e w)) (omega arith)
  ]
  | no e ↦ subst Below (sym (with-root-refused n t es out H session z e)) (omega arith)
]

-- a digest
pub digest_small : (d out : List ℕ) → length d ≡ 32 → (written d out).value < 2 ^ 32
digest_small d out e = omega (arith, value-of d out, e)
