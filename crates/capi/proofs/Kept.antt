-- A list of calls through bytes is the list of calls on states: after each call the buffer says the state that the step gave back, and the
-- answers are those of the steps. So whatever is proved of a party's calls holds for the host's. A refused call leaves the bytes; an accepted
-- one writes a form that is read back. Assumes nothing.
use mathlib.Core.Path.{◌≡◌, refl, sym, ap, subst, ◌∙◌}
use mathlib.Core.Bool.{Bool, true, false, cond}
use mathlib.Core.List.{List, [], ◌∷◌, map}
use Prim.Native.Nat.{ℕ, ◌^◌, ◌≤◌, ◌<◌}
use native.Mathlib.Decide.{ℕ_discrete}
use native.Mathlib.Omega.{arith}
use lib.Dec.{eqb}
use lib.ListN.{length}
use Rattle.limits.proofs.Group.{group_of}
use Rattle.commitment.proofs.Opening.{open-bounds}
use Rattle.party.specs.State.{seat_of, Result, nothing, settled, message_in, at_first, at_end}
use Rattle.party.specs.Steps.{open_of, Stepped, faulty_shares, held_of, result_of, faulty_of}
use Rattle.commitment.specs.declared.Seat.{Seat}
use Rattle.party.specs.declared.Party.{Party}
use Rattle.party.specs.Answer.{Opened}
use Rattle.party.proofs.Causes.{fit_of}
use Rattle.party.proofs.Faulty.{holds-empty, holds-shares, holds-given}
use Rattle.party.proofs.Progress.{message-short, held-short, result-short, end_whole}
use Rattle.state_bytes.specs.Layout.{state_length, state_of}
use Rattle.state_bytes.proofs.Reading.{root-32, session-small}
use Rattle.state_bytes.proofs.Inverse.{Storable, written_read, root-storable, bit-storable, first-storable, second-storable, end-storable}
use Rattle.agreement.specs.Calls.{Call, agree_root, agree_bit, take_shares, take_relays, made, events, final}
use Rattle.agreement.proofs.Run.{refused-keeps, did2, did3, did4, did5, event}
use Rattle.agreement.proofs.Ran.{opened-is}
use Rattle.capi.specs.Calls.{Returned, Replies, open_call, called, unless_broken, length_answer, result_length_call}
use Rattle.capi.specs.Lists.{answers, left, shown, length_of}
use Rattle.capi.proofs.Answers.{over-written, over-left, open_done}
use Rattle.capi.proofs.Asked.{unbroken}
use Rattle.capi.proofs.Sound.{root-fine, whole, accepted-long}

-- an end tells the length of its result
end-length : (s : Seat) (r : Result) (f : ℕ) → length_answer (at_end s r f).stage ≡ length_of r
unfolding at_end
end-length s nothing f = refl
end-length s (settled m) f = refl

-- the state that an accepted call gives back fits its bytes
either : (b : Bool) (y z : Party) → Storable y → Storable z → Storable (cond b y z)
either true y z f g = f
either false y z f g = g

module _ (H : List ℕ → List ℕ) (x : Party) (four : x.seat.session < 2 ^ 32) (root : length x.root ≡ 32) where
  storable : (c : Call) → (made H x c).cause ≡ 0 → Storable (made H x c).state
  storable (agree_root z) e =
      let w = whole H x (agree_root z) e in
      let f = fit_of x w in
      subst (λ (r : Stepped). Storable r.state) (sym (did2 H x z e).1)
      (bit-storable x.seat four f.high (omega (arith, f.faults)) f.last (message_in x) (message-short H x w) z (root-fine H x z e).1)
  storable (agree_bit bit out) e =
      let w = whole H x (agree_bit bit out) e in
      let f = fit_of x w in
      subst (λ (r : Stepped). Storable r.state) (sym (did3 H x bit out e).2)
      (either (eqb bit 0) (at_end x.seat nothing 0) (at_first x.seat (message_in x) x.root)
      (end-storable x.seat four f.high (omega (arith, f.faults)) f.last nothing 0 (omega arith) (holds-empty x.seat.n x.seat.own).named)
      (first-storable x.seat four f.high (omega (arith, f.faults)) f.last (message_in x) (message-short H x w) x.root root))
  storable (take_shares inbox out) e =
      let w = whole H x (take_shares inbox out) e in
      let f = fit_of x w in
      subst (λ (r : Stepped). Storable r.state) (sym (did4 H x inbox out e).1)
      (second-storable x.seat four f.high (omega (arith, f.faults)) f.last (message_in x) (message-short H x w) x.root root
      (held_of H x inbox) (faulty_shares H x inbox) (held-short H x w inbox) (holds-shares H x inbox f).named)
  storable (take_relays inbox out) e =
      let w = whole H x (take_relays inbox out) e in
      let f = fit_of x w in
      subst (λ (r : Stepped). Storable r.state) (sym (did5 H x inbox out e).1)
      (end-storable x.seat four f.high (omega (arith, f.faults)) f.last (result_of H x inbox) (faulty_of H x inbox) (result-short H x w inbox)
      (holds-given H x inbox f).named)

module _ (H : List ℕ → List ℕ) where
  -- one call: the buffer then says the state that the step gave back
  pub call_kept : (s : List ℕ) (c : Call) → state_of (called H s c).state ≡ (made H (state_of s) c).state
  unfolding called
  call_kept s c =
      let r = made H (state_of s) c in
      elim (ℕ_discrete r.cause 0) [
        | yes e ↦ ap (λ (g : Replies). state_of g.state) (over-written s r e)
            ∙ written_read r.state (storable H (state_of s) (session-small s) (root-32 s) c e) s (accepted-long H s c e)
        | no e ↦ ap (λ (g : Replies). state_of g.state) (over-left s r e) ∙ sym (refused-keeps H (state_of s) c e)
      ]

  -- any list of calls
  pub calls-kept : (s : List ℕ) (cs : List Call) → state_of (left H s cs) ≡ final H (state_of s) cs
  unfolding left final
  calls-kept s [] = refl
  calls-kept s (c ∷ cs) = calls-kept (called H s c).state cs ∙ ap (λ (x : Party). final H x cs) (call_kept s c)

  pub calls-told : (s : List ℕ) (cs : List Call) → answers H s cs ≡ map shown (events H (state_of s) cs)
  unfolding answers events called
  calls-told s [] = refl
  calls-told s (c ∷ cs) =
      ap (λ (l : List Returned). shown (event H (state_of s) c) ∷ l)
      (calls-told (called H s c).state cs ∙ ap (λ (x : Party). map shown (events H x cs)) (call_kept s c))

  -- after an accepted step 5 the buffer tells the length of the message that the step gave, or cause 6 where it gave nothing
  pub length-kept : (s inbox out : List ℕ) → (made H (state_of s) (take_relays inbox out)).cause ≡ 0
      → result_length_call (called H s (take_relays inbox out)).state ≡ length_of (result_of H (state_of s) inbox)
  unfolding result_length_call
  length-kept s inbox out e =
      let x = state_of s in
      let c = take_relays inbox out in
      let r = result_of H x inbox in
      let m = faulty_of H x inbox in
      let w = whole H x c e in
      let f = fit_of x w in
      ap (λ (y : Party). unless_broken y (length_answer y.stage)) (call_kept s c ∙ ap (λ (g : Stepped). g.state) (did5 H x inbox out e).1)
      ∙ unbroken (at_end x.seat r m) (length_answer (at_end x.seat r m).stage)
      (end_whole x.seat f.low f.high (omega (arith, f.faults)) f.first f.last r m (result-short H x w inbox) (holds-given H x inbox f))
      ∙ end-length x.seat r m

  -- an accepted opening: the buffer then says the state that a party opens with
  pub open_kept : (session n t own : ℕ) (m s z : List ℕ) → session < 2 ^ 32 → (open_of H session n t own m).cause ≡ 0 → state_length ≤ length s → 32 ≤ length z
      → state_of (open_call H session n t own m s z).state ≡ (open_of H session n t own m).state
  open_kept session n t own m s z four e long room =
      let o = opened-is H session n t own m e in
      let b = open-bounds n t own (length m) o.0 in
      let g = group_of n t b.0 in
      ap (λ (r : Replies). state_of r.state) (open_done H session n t own m s z e long room)
      ∙ written_read (open_of H session n t own m).state
      (subst (λ (r : Opened). Storable r.state) (sym o.1) (root-storable (seat_of session n t own) four g.high g.faults b.2 m b.3)) s long
