-- The accepted calls of a party, one after the other: a refused call keeps the state, an accepted one is the step that is in turn and gives what
-- its definition says, and once the party has ended its result and map are kept by every call and nothing more is sent or hashed. By the tests of the
-- steps, and by inductions over the list of calls. Assumes nothing.
use mathlib.Core.Path.{◌≡◌, refl, sym, ap, ◌∙◌, subst}
use mathlib.Core.Logic.{◌⊎◌, inl, inr, ◌≢◌}
use mathlib.Core.Bool.{false, cond, not}
use mathlib.Core.List.Memᴰ
use mathlib.Core.List.{List, [], ◌∷◌, Memᴰ}
use mathlib.Core.Option.{Option, some}
use Prim.Native.Nat.{ℕ, ◌≤◌}
use native.Mathlib.Omega.{arith}
use borrow.Author.Tests.{ltb-false, eqb-true, eqb-false}
use lib.Dec.{eqb, ltb}
use lib.ListN.{length}
use Rattle.buffer.specs.Splice.{spliced}
use Rattle.buffer.proofs.Splice.{take-spliced}
use Rattle.party.specs.State.{Result, nothing, settled, result_bytes, message_in, at_first, at_second, at_end, result_in, broken, happy}
use Rattle.party.specs.Steps.{turn_of, state_cause, root_cause, with_root, Stepped, gives, refused, writes, bit_cause, outbox_of}
use Rattle.party.specs.Steps.{agree_bit_of, inbox_cause, relays_cause, faulty_shares, relay_of, held_of, take_shares_of, result_of, faulty_of, ending, take_relays_of}
use Rattle.party.specs.declared.Party.{Party}
use Rattle.commitment.specs.declared.Seat.{Seat}
use Rattle.party.specs.Answer.{Answer}
use Rattle.party.specs.Answer as answer
use Rattle.party.proofs.Ways.{Way, on, off, way}
use Rattle.commitment.proofs.Opening.{cleared, spared}
use Rattle.party.proofs.Causes.{state-sound, inbox-sound, relays-sound}
use Rattle.party.proofs.Outcomes.{root-refused, root-given, holds-ended}
use Rattle.party.proofs.Kept.{result-end}
use Rattle.agreement.specs.Calls.{Call, agree_root, agree_bit, take_shares, take_relays, step_of, Event, accepted, written_by}
use Rattle.agreement.specs.Calls.{sent_in, sent_over, made, events, final, strings_over, checked_in, checked_over, judged_in, judged_over, recoded_in, recoded_over}

-- a call is taken, or turned away with the state kept and no map given
abbrev Turned : Party → Stepped → Type 0
Turned x r = (r.cause ≢ 0) × (r.state ≡ x) × (r.faulty ≡ 0)

nine : ◌≡◌ {A = ℕ} 9 0 → ⊥
nine e = omega arith

written-or : (k : ℕ) (x next : Party) (bs out : List ℕ)
    → ((k ≡ 0) × (cond (not (eqb k 0)) (refused x k out) (writes x next bs out)
    ≡ gives next (answer.Sent (length bs)) (spliced out 0 bs)))
    ⊎ Turned x (cond (not (eqb k 0)) (refused x k out) (writes x next bs out))
written-or k x next bs out = go (way (eqb k 0)) (way (ltb (length out) (length bs)))
  where
    go : Way (eqb k 0) → Way (ltb (length out) (length bs))
        → ((k ≡ 0) × (cond (not (eqb k 0)) (refused x k out) (writes x next bs out)
        ≡ gives next (answer.Sent (length bs)) (spliced out 0 bs)))
        ⊎ Turned x (cond (not (eqb k 0)) (refused x k out) (writes x next bs out))
    go (on e) (off f) = inl (eqb-true k 0 e, rw (e, f))
    go (on e) (on f) = inr (rw (e, f) (nine, refl, refl))
    go (off e) w = inr (rw e (eqb-false k 0 e, refl, refl))

-- what a result leaves in the buffer
abbrev left : Result → List ℕ → List ℕ
left nothing out = out
left (settled m) out = spliced out 0 m

abbrev end_of : Result → ℕ → Answer
end_of nothing f = answer.Nothing f
end_of (settled m) f = answer.Message (length m) f

abbrev pub ended_with : Seat → Result → ℕ → List ℕ → Stepped
ended_with s r f out =
    record {
      state = at_end s r f;
      answer = end_of r f;
      cause = 0;
      value = length (result_bytes r);
      result = some r;
      faulty = f;
      buffer = left r out;
    }

ending-or : (x : Party) (r : Result) (f : ℕ) (out : List ℕ)
    → (ending x r f out ≡ ended_with x.seat r f out) ⊎ Turned x (ending x r f out)
ending-or x nothing f out = inl refl
ending-or x (settled m) f out = go (way (ltb (length out) (length m)))
  where
    go : Way (ltb (length out) (length m))
        → (ending x (settled m) f out ≡ ended_with x.seat (settled m) f out) ⊎ Turned x (ending x (settled m) f out)
    go (on e) = inr (rw e (nine, refl, refl))
    go (off e) = inl (rw (e, take-spliced out m))

ended-or : (k : ℕ) (x : Party) (r : Result) (f : ℕ) (out : List ℕ)
    → ((k ≡ 0) × ((cond (not (eqb k 0)) (refused x k out) (ending x r f out)) ≡ ended_with x.seat r f out))
    ⊎ Turned x ((cond (not (eqb k 0)) (refused x k out) (ending x r f out)))
ended-or k x r f out = go (way (eqb k 0)) (ending-or x r f out)
  where
    go : Way (eqb k 0) → (ending x r f out ≡ ended_with x.seat r f out) ⊎ Turned x (ending x r f out)
        → ((k ≡ 0) × ((cond (not (eqb k 0)) (refused x k out) (ending x r f out)) ≡ ended_with x.seat r f out))
        ⊎ Turned x ((cond (not (eqb k 0)) (refused x k out) (ending x r f out)))
    go (on e) (inl g) = inl (eqb-true k 0 e, rw e g)
    go (on e) (inr g) = inr (rw e g)
    go (off e) g = inr (rw e (eqb-false k 0 e, refl, refl))

-- of the two, by the cause
away : {A : Type 0} {x : Party} (r : Stepped) → (A → r.cause ≡ 0) → r.cause ≢ 0 → A ⊎ Turned x r → Turned x r
away r f d (inl a) = absurd (d (f a))
away r f d (inr b) = b

taken : {A : Type 0} {x : Party} (r : Stepped) → r.cause ≡ 0 → A ⊎ Turned x r → A
taken r e (inl a) = a
taken r e (inr b) = absurd (b.0 e)

-- a step that no cause turns away is not turned away for its state
root-state : (x : Party) (z : List ℕ) → root_cause x z ≡ 0 → state_cause 2 x ≡ 0
unfolding root_cause
root-state x z e = (cleared (state_cause 2 x) (cond (not (eqb (length z) 32)) 7 0) e).0

bit-state : (x : Party) (bit : ℕ) → bit_cause x bit ≡ 0 → (state_cause 3 x ≡ 0) × (bit ≤ 1)
unfolding bit_cause
bit-state x bit e =
    let h = cleared (state_cause 3 x) (cond (ltb 1 bit) 7 0) e in
    (h.0, ltb-false 1 bit (spared (ltb 1 bit) 6 0 h.1).0)

module _ (H : List ℕ → List ℕ) where
  -- what an accepted call gives, from the state it got
  abbrev pub made2 : Party → List ℕ → Stepped
  made2 x z = gives (with_root x z) (answer.Happy (happy H (with_root x z))) []

  abbrev pub made3 : Party → ℕ → List ℕ → Stepped
  made3 x bit out =
      gives (cond (eqb bit 0) (at_end x.seat nothing 0) (at_first x.seat (message_in x) x.root))
      (answer.Sent (length (outbox_of H x bit)))
      (spliced out 0 (outbox_of H x bit))

  abbrev pub made4 : Party → List ℕ → List ℕ → Stepped
  made4 x inbox out =
      gives (at_second x.seat (message_in x) x.root (held_of H x inbox) (faulty_shares H x inbox)) (answer.Sent (length (relay_of H x inbox)))
      (spliced out 0 (relay_of H x inbox))

  -- each step, taken or turned away
  root-or : (x : Party) (z : List ℕ)
      → ((root_cause x z ≡ 0) × (made H x (agree_root z) ≡ made2 x z)) ⊎ Turned x (made H x (agree_root z))
  unfolding made
  root-or x z = go (way (eqb (root_cause x z) 0))
    where
      go : Way (eqb (root_cause x z) 0) → ((root_cause x z ≡ 0) × (made H x (agree_root z) ≡ made2 x z)) ⊎ Turned x (made H x (agree_root z))
      go (on e) = let c = eqb-true (root_cause x z) 0 e in inl (c, root-given H x z c)
      go (off e) = let c = eqb-false (root_cause x z) 0 e in inr (rw (root-refused H x z c) (c, refl, refl))

  bit_or : (x : Party) (bit : ℕ) (out : List ℕ)
      → ((bit_cause x bit ≡ 0) × (made H x (agree_bit bit out) ≡ made3 x bit out)) ⊎ Turned x (made H x (agree_bit bit out))
  unfolding made agree_bit_of
  bit_or x bit out =
      (written-or (bit_cause x bit) x
      (cond (eqb bit 0) (at_end x.seat nothing 0) (at_first x.seat (message_in x) x.root))
      (outbox_of H x bit) out)

  shares-or : (x : Party) (inbox out : List ℕ)
      → ((inbox_cause 4 x inbox ≡ 0) × (made H x (take_shares inbox out) ≡ made4 x inbox out)) ⊎ Turned x (made H x (take_shares inbox out))
  unfolding made take_shares_of
  shares-or x inbox out =
      (written-or (inbox_cause 4 x inbox) x (at_second x.seat (message_in x) x.root (held_of H x inbox) (faulty_shares H x inbox))
      (relay_of H x inbox) out)

  relays-or : (x : Party) (inbox out : List ℕ)
      → ((relays_cause x inbox ≡ 0) × (made H x (take_relays inbox out) ≡ ended_with x.seat (result_of H x inbox) (faulty_of H x inbox) out))
      ⊎ Turned x (made H x (take_relays inbox out))
  unfolding made take_relays_of
  relays-or x inbox out = ended-or (relays_cause x inbox) x (result_of H x inbox) (faulty_of H x inbox) out

  -- a call that is turned away keeps the state, and gives no map
  turned : (x : Party) (c : Call) → (made H x c).cause ≢ 0 → Turned x (made H x c)
  turned x (agree_root z) d = away (made H x (agree_root z)) (λ e. ap (λ (r : Stepped). r.cause) e.1) d (root-or x z)
  turned x (agree_bit bit out) d = away (made H x (agree_bit bit out)) (λ e. ap (λ (r : Stepped). r.cause) e.1) d (bit_or x bit out)
  turned x (take_shares inbox out) d = away (made H x (take_shares inbox out)) (λ e. ap (λ (r : Stepped). r.cause) e.1) d (shares-or x inbox out)
  turned x (take_relays inbox out) d = away (made H x (take_relays inbox out)) (λ e. ap (λ (r : Stepped). r.cause) e.1) d (relays-or x inbox out)

  pub refused-keeps : (x : Party) (c : Call) → (made H x c).cause ≢ 0 → (made H x c).state ≡ x
  refused-keeps x c d = (turned x c d).1

  pub refused-mapless : (x : Party) (c : Call) → (made H x c).cause ≢ 0 → (made H x c).faulty ≡ 0
  refused-mapless x c d = (turned x c d).2

  -- what an accepted call is: on a state that fits it, and what it gives
  pub did2 : (x : Party) (z : List ℕ) → (made H x (agree_root z)).cause ≡ 0
      → (state_cause 2 x ≡ 0) × (made H x (agree_root z) ≡ made2 x z)
  did2 x z a =
      let t = taken (made H x (agree_root z)) a (root-or x z) in
      (root-state x z t.0, t.1)

  pub did3 : (x : Party) (bit : ℕ) (out : List ℕ) → (made H x (agree_bit bit out)).cause ≡ 0
      → (state_cause 3 x ≡ 0) × (bit ≤ 1) × (made H x (agree_bit bit out) ≡ made3 x bit out)
  did3 x bit out a =
      let t = taken (made H x (agree_bit bit out)) a (bit_or x bit out) in
      let b = bit-state x bit t.0 in
      (b.0, b.1, t.1)

  pub did4 : (x : Party) (inbox out : List ℕ) → (made H x (take_shares inbox out)).cause ≡ 0
      → (state_cause 4 x ≡ 0) × (made H x (take_shares inbox out) ≡ made4 x inbox out)
  did4 x inbox out a =
      let t = taken (made H x (take_shares inbox out)) a (shares-or x inbox out) in
      ((inbox-sound 4 x inbox t.0).0, t.1)

  pub did5 : (x : Party) (inbox out : List ℕ) → (made H x (take_relays inbox out)).cause ≡ 0
      → (state_cause 5 x ≡ 0) × (made H x (take_relays inbox out) ≡ ended_with x.seat (result_of H x inbox) (faulty_of H x inbox) out)
  did5 x inbox out a =
      let t = taken (made H x (take_relays inbox out)) a (relays-or x inbox out) in
      ((relays-sound x inbox t.0).0, t.1)

  fitting : (x : Party) (c : Call) → (made H x c).cause ≡ 0 → state_cause (step_of c) x ≡ 0
  fitting x (agree_root z) a = (did2 x z a).0
  fitting x (agree_bit bit out) a = (did3 x bit out a).0
  fitting x (take_shares inbox out) a = (did4 x inbox out a).0
  fitting x (take_relays inbox out) a = (did5 x inbox out a).0

  -- so the state is whole, and waits for that step
  pub unbroken : (x : Party) (c : Call) → (made H x c).cause ≡ 0 → broken x ≡ false
  unbroken x c a = (state-sound (step_of c) x (fitting x c a)).0

  pub in-turn : (x : Party) (c : Call) → (made H x c).cause ≡ 0 → turn_of x.stage ≡ step_of c
  in-turn x c a = (state-sound (step_of c) x (fitting x c a)).1

  abbrev pub event : Party → Call → Event
  event x c = record { before = x; call = c; reply = made H x c }

  -- accepted calls, each on the state that the one before gave back
  abbrev pub Chain : Party → List Event → Party → Type 0
  Chain x [] fin = fin ≡ x
  Chain x (e ∷ es) fin = (e ≡ event x e.call) × (e.reply.cause ≡ 0) × Chain e.reply.state es fin

  pub chain : (x : Party) (cs : List Call) → Chain x (accepted (events H x cs)) (final H x cs)
  unfolding accepted events final
  chain x [] = refl
  chain x (c ∷ cs) = go (way (eqb (made H x c).cause 0)) (chain (made H x c).state cs)
    where
      go : Way (eqb (made H x c).cause 0)
          → Chain (made H x c).state (accepted (events H (made H x c).state cs)) (final H (made H x c).state cs)
          → Chain x (accepted (events H x (c ∷ cs))) (final H x (c ∷ cs))
      go (on y) r = rw y (refl, eqb-true (made H x c).cause 0 y, r)
      go (off y) r =
          rw y (subst (λ (s : Party). Chain s (accepted (events H (made H x c).state cs)) (final H (made H x c).state cs))
          (refused-keeps x c (eqb-false (made H x c).cause 0 y)) r)

  -- the next accepted call is the one that the stage awaits
  pub leads : (x fin : Party) (d : Event) (es : List Event) → Chain x (d ∷ es) fin → turn_of x.stage ≡ step_of d.call
  leads x fin d es h = in-turn x d.call (subst (λ (v : Event). v.reply.cause ≡ 0) h.0 h.1)

  -- an accepted step 5 gives a result and a map, and the state holds them
  ends : (x : Party) (inbox out : List ℕ) → (made H x (take_relays inbox out)).cause ≡ 0 → let r = made H x (take_relays inbox out) in
      (r.result ≡ some (result_of H x inbox)) × (result_in r.state ≡ some (result_of H x inbox))
      × (r.faulty ≡ faulty_of H x inbox) × (r.state.faulty ≡ faulty_of H x inbox)
  unfolding at_end
  ends x inbox out a =
      let d = (did5 x inbox out a).1 in (
        ap (λ (s : Stepped). s.result) d,
        ap (λ (s : Stepped). result_in s.state) d ∙ result-end x.seat (result_of H x inbox) (faulty_of H x inbox),
        ap (λ (s : Stepped). s.faulty) d,
        ap (λ (s : Stepped). s.state.faulty) d,
      )

  -- an accepted call on a party that holds a result: the state holds it again, with the same map, and nothing is sent or hashed
  record Again (n : ℕ) (x : Party) (c : Call) (r : Result) : Type 0 where
    holds : result_in (made H x c).state ≡ some r
    map-kept : (made H x c).state.faulty ≡ x.faulty
    unsent : (bs : List ℕ) → sent_in n c bs ≡ 0
    unchecked : checked_in H x c ≡ []
    unjudged : judged_in H x c ≡ []
    uncoded : recoded_in H x c ≡ []

  again : (n : ℕ) (x : Party) (c : Call) (r : Result) → result_in x ≡ some r → (made H x c).cause ≡ 0 → Again n x c r
  unfolding checked_in judged_in recoded_in result_of faulty_of
  again n x (agree_root z) r h a = let e = in-turn x (agree_root z) a in absurd (omega (arith, e, (holds-ended x r h).1))
  again n x (agree_bit bit out) r h a = let e = in-turn x (agree_bit bit out) a in absurd (omega (arith, e, (holds-ended x r h).1))
  again n x (take_shares inbox out) r h a = let e = in-turn x (take_shares inbox out) a in absurd (omega (arith, e, (holds-ended x r h).1))
  again n x (take_relays inbox out) r h a =
      let same : result_of H x inbox ≡ r = rw h in
      record {
        holds = (ends x inbox out a).1 ∙ ap {B = Option Result} some same;
        map-kept = (ends x inbox out a).3 ∙ rw (holds-ended x r h).0;
        unsent = λ bs. refl;
        unchecked = rw (holds-ended x r h).0;
        unjudged = rw (holds-ended x r h).0;
        uncoded = rw (holds-ended x r h).0;
      }

  -- once ended, the result and the map are kept by every call, and nothing is sent or hashed
  abbrev pub Still : ℕ → Result → ℕ → List Event → Party → Type 0
  Still n r f es fin =
      (result_in fin ≡ some r) × (sent_over n es ≡ 0) × (checked_over H es ≡ []) × (judged_over H es ≡ []) × (recoded_over H es ≡ []) × (fin.faulty ≡ f)

  pub still : (n : ℕ) (x fin : Party) (es : List Event) (r : Result) → result_in x ≡ some r → Chain x es fin → Still n r x.faulty es fin
  unfolding sent_over strings_over
  still n x fin [] r a h = (ap result_in h ∙ a, refl, refl, refl, refl, ap (λ (y : Party). y.faulty) h)
  still n x fin (d ∷ es) r a h =
      let g = again n x d.call r a (subst (λ (v : Event). v.reply.cause ≡ 0) h.0 h.1) in
      let kept : result_in d.reply.state ≡ some r = ap (λ (v : Event). result_in v.reply.state) h.0 ∙ g.holds in
      let none : checked_in H d.before d.call ≡ [] = ap (λ (v : Event). checked_in H v.before d.call) h.0 ∙ g.unchecked in
      let passed : judged_in H d.before d.call ≡ [] = ap (λ (v : Event). judged_in H v.before d.call) h.0 ∙ g.unjudged in
      let again : recoded_in H d.before d.call ≡ [] = ap (λ (v : Event). recoded_in H v.before d.call) h.0 ∙ g.uncoded in
      let map : d.reply.state.faulty ≡ x.faulty = ap (λ (v : Event). v.reply.state.faulty) h.0 ∙ g.map-kept in
      let s = still n d.reply.state fin es r kept h.2 in
      (s.0, rw (g.unsent (written_by d), s.1), rw (none, s.2), rw (passed, s.3), rw (again, s.4), s.5 ∙ map)

  -- what an accepted step 5 gave is held
  pub gave : (x : Party) (c : Call) → (made H x c).cause ≡ 0 → step_of c ≡ 5
      → (r : Result) × ((made H x c).result ≡ some r) × (result_in (made H x c).state ≡ some r) × ((made H x c).faulty ≡ (made H x c).state.faulty)
  gave x (agree_root z) a e = absurd (omega arith)
  gave x (agree_bit bit out) a e = absurd (omega arith)
  gave x (take_shares inbox out) a e = absurd (omega arith)
  gave x (take_relays inbox out) a e = let g = ends x inbox out a in (result_of H x inbox, g.0, g.1, g.2 ∙ sym g.3)

  -- so it is the result and the map that are held at the end
  pub record Gave (fin : Party) (e : Event) : Type 0 where
    pub result : Result
    pub is : e.reply.result ≡ some result
    pub held : result_in fin ≡ some result
    pub map-given : e.reply.faulty ≡ fin.faulty
    pub map-held : e.reply.state.faulty ≡ fin.faulty

  pub gave-held : (x fin : Party) (es : List Event) → Chain x es fin → (e : Event) → Memᴰ e es → step_of e.call ≡ 5 → Gave fin e
  gave-held x fin [] h e m five = absurd (Memᴰ.not-nil m)
  gave-held x fin (d ∷ es) h e m five = go (Memᴰ.cases_cons m) (gave-held d.reply.state fin es h.2 e)
    where
      go : (e ≡ d) ⊎ Memᴰ e es → (Memᴰ e es → step_of e.call ≡ 5 → Gave fin e) → Gave fin e
      go (inr k) rest = rest k five
      go (inl q) rest =
          let k = gave x d.call (subst (λ (v : Event). v.reply.cause ≡ 0) h.0 h.1) (sym (ap (λ (v : Event). step_of v.call) q) ∙ five) in
          let held : result_in d.reply.state ≡ some k.0 = ap (λ (v : Event). result_in v.reply.state) h.0 ∙ k.2 in
          let s = still 0 d.reply.state fin es k.0 held h.2 in
          let map : d.reply.faulty ≡ d.reply.state.faulty =
          ap (λ (v : Event). v.reply.faulty) h.0 ∙ k.3 ∙ sym (ap (λ (v : Event). v.reply.state.faulty) h.0) in
          record {
            result = k.0;
            is = ap (λ (v : Event). v.reply.result) (q ∙ h.0) ∙ k.1;
            held = s.0;
            map-given = ap (λ (v : Event). v.reply.faulty) q ∙ map ∙ sym s.5;
            map-held = ap (λ (v : Event). v.reply.state.faulty) q ∙ sym s.5;
          }
