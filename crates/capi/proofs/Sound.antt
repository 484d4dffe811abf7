-- An accepted call had no cause, so that the state it got is not broken, and has all its bytes. Assumes nothing.
use mathlib.Core.Path.{◌≡◌, refl, sym, ap, ◌∙◌}
use mathlib.Core.Bool.{true, false, cond, not, true≢false}
use mathlib.Core.List.{List, []}
use Prim.Native.Nat.{ℕ, ◌≤◌}
use native.Mathlib.Decide.{ℕ_discrete, dec_lt}
use native.Mathlib.Omega.{arith}
use borrow.Author.Tests.{eqb-true, not-false}
use lib.Dec.{ltb, eqb}
use lib.ListN.{length}
use Rattle.limits.specs.Limits.{parties, group_cause}
use Rattle.commitment.proofs.Opening.{spared, cleared}
use Rattle.party.specs.State.{blank_state, broken}
use Rattle.party.specs.Steps.{state_cause, Stepped, refused, root_cause, agree_root_of, bit_cause, agree_bit_of, inbox_cause, relays_cause, take_shares_of, take_relays_of}
use Rattle.party.specs.declared.Party.{Party}
use Rattle.party.proofs.Causes.{state-sound, inbox-sound, relays-sound}
use Rattle.party.proofs.Outcomes.{root-refused, bit-refused, shares-refused, relays-refused}
use Rattle.state_bytes.specs.Layout.{state_length, state_of}
use Rattle.state_bytes.proofs.Reading.{state-short}
use Rattle.agreement.specs.Calls.{Call, agree_root, agree_bit, take_shares, take_relays, made}

-- a step that was accepted had no cause
no-cause : (k : ℕ) (x : Party) (out : List ℕ) (r : Stepped) → ((k ≡ 0 → ⊥) → r ≡ refused x k out) → r.cause ≡ 0 → k ≡ 0
no-cause k x out r f e = elim (ℕ_discrete k 0) [
  | yes q ↦ q
  | no q ↦ absurd (q (sym (ap (λ (g : Stepped). g.cause) (f q)) ∙ e))
]

root-sound : (x : Party) (z : List ℕ) → root_cause x z ≡ 0 → (state_cause 2 x ≡ 0) × (length z ≡ 32)
unfolding root_cause
root-sound x z e =
    let h = cleared (state_cause 2 x) (cond (not (eqb (length z) 32)) 7 0) e in
    (h.0, eqb-true (length z) 32 (not-false (eqb (length z) 32) (spared (not (eqb (length z) 32)) 6 0 h.1).0))

pub bit-sound : (x : Party) (bit : ℕ) → bit_cause x bit ≡ 0 → state_cause 3 x ≡ 0
unfolding bit_cause
bit-sound x bit e = (cleared (state_cause 3 x) (cond (ltb 1 bit) 7 0) e).0

module _ (H : List ℕ → List ℕ) (x : Party) where
  pub root-fine : (z : List ℕ) → (made H x (agree_root z)).cause ≡ 0 → (state_cause 2 x ≡ 0) × (length z ≡ 32)
  unfolding made
  root-fine z e = root-sound x z (no-cause (root_cause x z) x [] (agree_root_of H x z) (root-refused H x z) e)

  -- so the state was not broken
  pub whole : (c : Call) → (made H x c).cause ≡ 0 → broken x ≡ false
  unfolding made
  whole (agree_root z) e = (state-sound 2 x (root-fine z e).0).0
  whole (agree_bit bit out) e =
      (state-sound 3 x (bit-sound x bit (no-cause (bit_cause x bit) x out (agree_bit_of H x bit out) (bit-refused H x bit out) e))).0
  whole (take_shares inbox out) e =
      (state-sound 4 x (inbox-sound 4 x inbox
      (no-cause (inbox_cause 4 x inbox) x out (take_shares_of H x inbox out) (shares-refused H x inbox out) e)).0).0
  whole (take_relays inbox out) e =
      (state-sound 5 x (relays-sound x inbox
      (no-cause (relays_cause x inbox) x out (take_relays_of H x inbox out) (relays-refused H x inbox out) e)).0).0

-- bytes on which a call was accepted are those of a state
blank-broken : broken blank_state ≡ true
unfolding broken parties group_cause blank_state
blank-broken = refl

pub accepted-long : (H : List ℕ → List ℕ) (s : List ℕ) (c : Call) → (made H (state_of s) c).cause ≡ 0 → state_length ≤ length s
accepted-long H s c e = elim (dec_lt (length s) state_length) [
  | yes h ↦ absurd (true≢false (sym blank-broken ∙ ap broken (sym (state-short s h)) ∙ whole H (state_of s) c e))
  | no h ↦ omega arith
]
