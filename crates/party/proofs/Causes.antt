-- The causes for which a party's steps are refused: one law for each, and what holds where none applies. Assumes nothing.
use mathlib.Core.Path.{◌≡◌, sym, ap, ◌∙◌}
use mathlib.Core.Bool.{Bool, true, false, cond, not, ◌||◌}
use mathlib.Core.List.{List}
use Prim.Native.Nat.{ℕ, ◌^◌, ◌≤◌}
use native.Mathlib.Omega.{arith}
use borrow.Author.Tests.{le-ltb, eq-eqb, ltb-true, ltb-false, eqb-true, not-false}
use lib.Dec.{ltb, eqb}
use lib.ListN.{length}
use Rattle.limits.specs.Limits.{max_message, max_share, numbered, group_cause}
use Rattle.limits.proofs.Ranges.{numbered_within, numbered-range}
use Rattle.limits.proofs.Group.{group_of, group-fine}
use Rattle.buffer.specs.Entries.{fills}
use Rattle.bitmap.specs.Bitmap.{names, up_to}
use Rattle.limits.proofs.Booleans.{neither}
use Rattle.commitment.specs.Commitment.{open_cause}
use Rattle.commitment.proofs.Opening.{spared, cleared, open-fine, open-bounds}
use Rattle.party.specs.State.{has_ended, stray, broken, overlong}
use Rattle.party.specs.Steps.{turn_of, state_cause, root_cause, bit_cause, inbox_cause, relays_cause}
use Rattle.party.specs.Private.{Fit}
use Rattle.party.specs.declared.Party.{Party}
use Rattle.party.proofs.Ways.{Way, on, off, way, clash}

-- a state that is not broken keeps its bounds
pub fit_of : (x : Party) → broken x ≡ false → Fit x
unfolding broken
fit_of x e =
    let g : Bool = not (eqb (group_cause x.seat.n x.seat.t) 0) in
    let o : Bool = not (numbered x.seat.n x.seat.own) in
    let l : Bool = ltb max_message x.len in
    let h : Bool = ltb max_share x.held in
    let m : Bool = not (up_to x.seat.n x.faulty) in
    let stage = neither (g || o || l || h || stray x) (overlong x.stage) e in
    let map = neither (g || o || l || h) (stray x) stage.0 in
    let named = neither m (names x.faulty x.seat.own) map.1 in
    let held = neither (g || o || l) h map.0 in
    let long = neither (g || o) l held.0 in
    let first = neither g o long.0 in
    let group = group_of x.seat.n x.seat.t (eqb-true (group_cause x.seat.n x.seat.t) 0 (not-false (eqb (group_cause x.seat.n x.seat.t) 0) first.0)) in
    let own = numbered-range x.seat.n x.seat.own (not-false (numbered x.seat.n x.seat.own) first.1) in
    record {
      low = group.low;
      high = group.high;
      faults = omega (arith, group.faults);
      first = own.0;
      last = own.1;
      short = ltb-false max_message x.len long.1;
      few = ltb-false max_share x.held held.1;
      named = ltb-true x.faulty (2 ^ x.seat.n) (not-false (up_to x.seat.n x.faulty) named.0);
      others = named.1;
    }

-- and a result within its limit
pub whole-stage : (x : Party) → broken x ≡ false → overlong x.stage ≡ false
unfolding broken
whole-stage x e =
    (neither
    (not (eqb (group_cause x.seat.n x.seat.t) 0) || not (numbered x.seat.n x.seat.own) || ltb max_message x.len
    || ltb max_share x.held || stray x)
    (overlong x.stage) e).1

-- the opening of such a state's message would be accepted
pub fit-open : (x : Party) → Fit x → (len : ℕ) → len ≤ max_message → open_cause x.seat.n x.seat.t x.seat.own len ≡ 0
fit-open x f len short =
    open-fine x.seat.n x.seat.t x.seat.own len (group-fine x.seat.n x.seat.t f.low f.high (omega (arith, f.faults))) f.first f.last
    short

-- a state whose message could be opened with, and whose share is not too long: it goes by the map and the stage
module _ (x : Party) where
  module _ (fine : open_cause x.seat.n x.seat.t x.seat.own x.len ≡ 0) where
    module _ (short : x.held ≤ max_share) where
      last-two : broken x ≡ stray x || overlong x.stage
      unfolding broken
      last-two =
          let b = open-bounds x.seat.n x.seat.t x.seat.own x.len fine in
          rw (
            eq-eqb (group_cause x.seat.n x.seat.t) 0 b.0,
            numbered_within x.seat.n x.seat.own b.1 b.2,
            le-ltb max_message x.len b.3,
            le-ltb max_share x.held short,
          )

      pub broken-stage : stray x ≡ false → broken x ≡ overlong x.stage
      broken-stage h = last-two ∙ ap (λ (b : Bool). b || overlong x.stage) h

-- causes 5 and 6
module _ (turn : ℕ) (x : Party) where
  module _ (sound : broken x ≡ false) where
    pub state-fine : turn_of x.stage ≡ turn → state_cause turn x ≡ 0
    unfolding state_cause
    state-fine h = rw (sound, eq-eqb (turn_of x.stage) turn h)

-- where neither applies, the state is not broken and the step is in turn
pub state-sound : (turn : ℕ) (x : Party) → state_cause turn x ≡ 0 → (broken x ≡ false) × (turn_of x.stage ≡ turn)
unfolding state_cause
state-sound turn x e =
    let h = spared (broken x) 4 (cond (not (eqb (turn_of x.stage) turn)) 6 0) e in
    let k = spared (not (eqb (turn_of x.stage) turn)) 5 0 h.1 in
    (h.0, eqb-true (turn_of x.stage) turn (not-false (eqb (turn_of x.stage) turn) k.0))

-- where neither applies, the state keeps its bounds
pub state-fit : (turn : ℕ) (x : Party) → state_cause turn x ≡ 0 → Fit x
state-fit turn x e = fit_of x (state-sound turn x e).0

-- causes 5 to 7 of the agreed root
module _ (x : Party) (z : List ℕ) where
  module _ (fine : state_cause 2 x ≡ 0) where
    pub root-fine : length z ≡ 32 → root_cause x z ≡ 0
    unfolding root_cause
    root-fine h = rw (eq-eqb (state_cause 2 x) 0 fine, eq-eqb (length z) 32 h)

-- causes 5 to 7 of the agreed bit
module _ (x : Party) (bit : ℕ) where
  module _ (fine : state_cause 3 x ≡ 0) where
    pub bit-fine : bit ≤ 1 → bit_cause x bit ≡ 0
    unfolding bit_cause
    bit-fine h = rw (eq-eqb (state_cause 3 x) 0 fine, le-ltb 1 bit h)

-- where none applies to the agreed root, or to the bit, neither does one of the state
pub root-sound : (x : Party) (z : List ℕ) → root_cause x z ≡ 0 → (state_cause 2 x ≡ 0) × (length z ≡ 32)
unfolding root_cause
root-sound x z e =
    let h = cleared (state_cause 2 x) (cond (not (eqb (length z) 32)) 7 0) e in
    (h.0, eqb-true (length z) 32 (not-false (eqb (length z) 32) (spared (not (eqb (length z) 32)) 6 0 h.1).0))

pub bit-sound : (x : Party) (bit : ℕ) → bit_cause x bit ≡ 0 → (state_cause 3 x ≡ 0) × (bit ≤ 1)
unfolding bit_cause
bit-sound x bit e =
    let h = cleared (state_cause 3 x) (cond (ltb 1 bit) 7 0) e in
    (h.0, ltb-false 1 bit (spared (ltb 1 bit) 6 0 h.1).0)

-- causes 5, 6 and 8 of an inbox
module _ (turn : ℕ) (x : Party) (inbox : List ℕ) where
  module _ (fine : state_cause turn x ≡ 0) where
    pub inbox-fine : fills x.seat.n inbox ≡ true → inbox_cause turn x inbox ≡ 0
    unfolding inbox_cause
    inbox-fine h = rw (eq-eqb (state_cause turn x) 0 fine, h)

-- where none applies, neither does one of the state, and the inbox is filled
pub inbox-sound : (turn : ℕ) (x : Party) (inbox : List ℕ) → inbox_cause turn x inbox ≡ 0
    → (state_cause turn x ≡ 0) × (fills x.seat.n inbox ≡ true)
unfolding inbox_cause
inbox-sound turn x inbox e =
    let h = cleared (state_cause turn x) (cond (not (fills x.seat.n inbox)) 8 0) e in
    (h.0, not-false (fills x.seat.n inbox) (spared (not (fills x.seat.n inbox)) 7 0 h.1).0)

-- causes 5, 6 and 8 of step 5, by whether the party has ended
module _ (x : Party) (inbox : List ℕ) where
  pub relays-ended : has_ended x.stage ≡ true → relays_cause x inbox ≡ state_cause 5 x
  unfolding relays_cause
  relays-ended h = rw h

  pub relays-waiting : has_ended x.stage ≡ false → relays_cause x inbox ≡ inbox_cause 5 x inbox
  unfolding relays_cause
  relays-waiting h = rw h

  -- where none applies, neither does one of the state, and the inbox is filled if it is looked at
  pub relays-sound : relays_cause x inbox ≡ 0 → (state_cause 5 x ≡ 0) × (has_ended x.stage ≡ false → fills x.seat.n inbox ≡ true)
  relays-sound e = go (way (has_ended x.stage))
    where
      go : Way (has_ended x.stage) → (state_cause 5 x ≡ 0) × (has_ended x.stage ≡ false → fills x.seat.n inbox ≡ true)
      go (on h) = (sym (relays-ended h) ∙ e, λ w. clash h w)
      go (off h) = let s = inbox-sound 5 x inbox (sym (relays-waiting h) ∙ e) in (s.0, λ w. s.1)

  pub relays-fine : state_cause 5 x ≡ 0 → (has_ended x.stage ≡ false → fills x.seat.n inbox ≡ true) → relays_cause x inbox ≡ 0
  relays-fine fine filled = go (way (has_ended x.stage))
    where
      go : Way (has_ended x.stage) → relays_cause x inbox ≡ 0
      go (on h) = relays-ended h ∙ fine
      go (off h) = relays-waiting h ∙ inbox-fine 5 x inbox fine (filled h)
