-- What went before the end of a party: where its state holds a result, or an accepted step 5 gave one, its opening was accepted, and so were steps 2 and 3
-- and, on bit 1, steps 4 and 5, each first on the state that the one before gave. By cases of how far its accepted calls went. Assumes nothing.
use mathlib.Core.Path.{◌≡◌, refl, sym, ap, ◌∙◌, subst}
use mathlib.Core.Logic.{◌⊎◌, inl, inr, ◌≢◌}
use mathlib.Core.Bool.{true, false, true≢false}
use mathlib.Core.List.Memᴰ
use mathlib.Core.List.{List, [], ◌∷◌, Memᴰ}
use mathlib.Core.Option.{Option, none, some, none-ne-some}
use Prim.Native.Nat.{ℕ}
use native.Mathlib.Decide.{ℕ_discrete}
use native.Mathlib.Omega.{arith}
use lib.ListN.{length}
use Rattle.limits.specs.Limits.{parties, group_cause}
use Rattle.party.specs.State.{Result, nothing, seat_of, at_root, at_bit, at_first, at_second, at_end, blank_state, broken, result_in, has_ended}
use Rattle.party.specs.Steps.{open_cause, result_of, faulty_of}
use Rattle.party.specs.declared.Party.{Party}
use Rattle.party.specs.Answer.{Opened}
use Rattle.party.proofs.Kept.{result-end}
use Rattle.party.proofs.Outcomes.{open-given, open-refused, holds-ended}
use Rattle.party.proofs.Ways.{clash}
use Rattle.agreement.specs.Calls.{Call, agree_root, agree_bit, step_of, Event, accepted, first, events, final}
use Rattle.agreement.specs.Calls.{opening, did, first_of, result_after}
use Rattle.agreement.proofs.Lists.{same_some, on-cons}
use Rattle.agreement.proofs.Run.{unbroken, Chain, chain, leads, still}
use Rattle.agreement.proofs.Ran.{X3, reply5, ev2, ev3, ev4, ev5, voted, Course, at-root, at-bit, ended-void, at-first, at-second, ended}
use Rattle.agreement.proofs.Ran.{Ran, fin, ends_is, goes, ran}

-- a state that has not ended holds no result
pub waits-none : (x : Party) → has_ended x.stage ≡ false → result_in x ≡ none
waits-none x w = go (result_in x) refl
  where
    go : (o : Option Result) → result_in x ≡ o → result_in x ≡ none
    go none e = e
    go (some r) e = clash (holds-ended x r e).0 w

module _ (H : List ℕ → List ℕ) where
  -- once a result is held, every later call gets a state that holds it, and is a step 5
  pub later-holds : (x fin : Party) (es : List Event) (r : Result) → result_in x ≡ some r → Chain H x es fin
      → (e : Event) → Memᴰ e es → (result_in e.before ≡ some r) × (step_of e.call ≡ 5)
  later-holds x fin [] r a h e m = absurd (Memᴰ.not-nil m)
  later-holds x fin (d ∷ es) r a h e m = go (Memᴰ.cases_cons m) (later-holds d.reply.state fin es r kept h.2 e)
    where
      kept : result_in d.reply.state ≡ some r
      kept = (still H 0 x d.reply.state (d ∷ []) r a (h.0, h.1, refl)).0

      go : (e ≡ d) ⊎ Memᴰ e es → (Memᴰ e es → (result_in e.before ≡ some r) × (step_of e.call ≡ 5))
          → (result_in e.before ≡ some r) × (step_of e.call ≡ 5)
      go (inl q) rest = (
        ap (λ (v : Event). result_in v.before) (q ∙ h.0) ∙ a,
        ap (λ (v : Event). step_of v.call) q ∙ sym (leads H x fin d es h) ∙ (holds-ended x r a).1,
      )
      go (inr k) rest = rest k

  -- the state of a refused opening accepts no call
  blank-broken : broken blank_state ≡ true
  unfolding broken blank_state group_cause parties
  blank-broken = refl

  blank-refuses : (fin : Party) (es : List Event) → Chain H blank_state es fin → (es ≡ []) × (fin ≡ blank_state)
  blank-refuses fin [] h = (refl, h)
  blank-refuses fin (d ∷ es) h =
      absurd (true≢false (sym blank-broken ∙ unbroken H blank_state d.call (subst (λ (v : Event). v.reply.cause ≡ 0) h.0 h.1)))

  -- a party that opened with a message and got these calls
  module _ (session n t i : ℕ) (m : List ℕ) (calls : List Call) where
    unopened : (opening H session n t i m).cause ≢ 0 → (did H session n t i m calls ≡ []) × (result_after H session n t i m calls ≡ none)
    unfolding did blank_state
    unopened d =
        let c : open_cause n t i (length m) ≢ 0 = λ q. d (ap (λ (o : Opened). o.cause) (open-given H session n t i m q)) in
        let e : (opening H session n t i m).state ≡ blank_state = ap (λ (o : Opened). o.state) (open-refused H session n t i m c) in
        let b = blank-refuses (final H blank_state calls) (accepted (events H blank_state calls)) (chain H blank_state calls) in (
          ap (λ (x : Party). accepted (events H x calls)) e ∙ b.0,
          ap (λ (x : Party). result_in (final H x calls)) e ∙ ap result_in b.1,
        )

    -- so whoever has an accepted call, or a result, was opened
    pub opened-did : (e : Event) → Memᴰ e (did H session n t i m calls) → (opening H session n t i m).cause ≡ 0
    opened-did e h = go (ℕ_discrete (opening H session n t i m).cause 0)
      where
        go : Dec ((opening H session n t i m).cause ≡ 0) → (opening H session n t i m).cause ≡ 0
        go (yes c) = c
        go (no d) = absurd (Memᴰ.not-nil (subst (Memᴰ e) (unopened d).0 h))

    opened-ended : (R : Result) → result_after H session n t i m calls ≡ some R → (opening H session n t i m).cause ≡ 0
    opened-ended R f = go (ℕ_discrete (opening H session n t i m).cause 0)
      where
        go : Dec ((opening H session n t i m).cause ≡ 0) → (opening H session n t i m).cause ≡ 0
        go (yes c) = c
        go (no d) = absurd (none-ne-some R (sym (unopened d).1 ∙ f))

    -- the first accepted calls of a party that holds a result
    pub record Went (R : Result) : Type 0 where
      pub opened : (opening H session n t i m).cause ≡ 0
      pub z : List ℕ
      pub second : Event
      pub is-2 : first_of H session n t i m calls 2 ≡ some second
      pub root : second.call ≡ agree_root z
      pub third : Event
      pub bit : ℕ
      pub out : List ℕ
      pub is-3 : first_of H session n t i m calls 3 ≡ some third
      pub told : third.call ≡ agree_bit bit out
      pub rest : ((bit ≡ 0) × (R ≡ nothing)) ⊎ ((bit ≡ 1) × Ran H session n t i m calls z)

    abbrev its : List Event
    its = did H session n t i m calls

    module _ (o : (opening H session n t i m).cause ≡ 0) where
      abbrev end : Party
      end = fin H session n t i m calls o

      -- it ended with what step 5 found
      went_on : (z out in4 out4 in5 out5 : List ℕ) (rest : List Event)
          → its ≡ voted H session n t i m z 1 out (ev4 H session n t i m z in4 out4 ∷ ev5 H session n t i m z in4 in5 out5 ∷ rest)
          → Chain H (reply5 H session n t i m z in4 in5 out5).state rest end → (R : Result) → (w : Went R) × (w.bit ≡ 1) × Ran H session n t i m calls w.z
      unfolding first
      went_on z out in4 out4 in5 out5 rest q h R =
          let r = ran H session n t i m calls o z out in4 out4 in5 out5 rest q h in (
            record {
              opened = o;
              z = z;
              second = ev2 H session n t i m z;
              is-2 = rw q;
              root = refl;
              third = ev3 H session n t i m z 1 out;
              bit = 1;
              out = out;
              is-3 = rw q;
              told = refl;
              rest = inr (refl, r);
            },
            refl,
            r,
          )

    pub went : (R : Result) → result_after H session n t i m calls ≡ some R → Went R
    unfolding first at_root at_bit at_first at_second
    went R f = go (goes H session n t i m calls o)
      where
        o : (opening H session n t i m).cause ≡ 0
        o = opened-ended R f

        holds : result_in (end o) ≡ some R
        holds = sym (ends_is H session n t i m calls o) ∙ f

        go : Course H session n t i m (end o) its → Went R
        go (at-root q h) = absurd (none-ne-some R (ap result_in (sym h) ∙ holds))
        go (at-bit z q h) = absurd (none-ne-some R (ap result_in (sym h) ∙ holds))
        go (ended-void z out rest q h) = record {
          opened = o;
          z = z;
          second = ev2 H session n t i m z;
          is-2 = rw q;
          root = refl;
          third = ev3 H session n t i m z 0 out;
          bit = 0;
          out = out;
          is-3 = rw q;
          told = refl;
          rest = let s = still H 0 (at_end (seat_of session n t i) nothing 0) (end o) rest nothing (result-end (seat_of session n t i) nothing 0) h in
              inl (refl, same_some (sym holds ∙ s.0));
        }
        go (at-first z out q h) = absurd (none-ne-some R (ap result_in (sym h) ∙ holds))
        go (at-second z out in4 out4 q h) = absurd (none-ne-some R (ap result_in (sym h) ∙ holds))
        go (ended z out in4 out4 in5 out5 rest q h) = (went_on o z out in4 out4 in5 out5 rest q h R).0

    -- the same of an accepted step 5 on a state that had not ended: the bit was 1, and it is the first
    abbrev Ends : Event → Type 0
    Ends e = (R : Result) × (w : Went R) × (w.bit ≡ 1) × Ran H session n t i m calls w.z × (first_of H session n t i m calls 5 ≡ some e)

    abbrev Last : Event → Type 0
    Last d = step_of d.call ≡ 5 → has_ended d.before.stage ≡ false → Ends d

    pub ended_by : (e : Event) → Memᴰ e (did H session n t i m calls) → Last e
    unfolding first
    ended_by e k = go (goes H session n t i m calls o)
      where
        o : (opening H session n t i m).cause ≡ 0
        o = opened-did e k

        no_more : (d : Event) → Memᴰ d [] → Last d
        no_more d l = absurd (Memᴰ.not-nil l)

        over : (x : Party) (rest : List Event) (r : Result) → result_in x ≡ some r → Chain H x rest (end o) → (d : Event) → Memᴰ d rest → Last d
        over x rest r a h d l f u = clash (holds-ended d.before r (later-holds x (end o) rest r a h d l).0).0 u

        start : (z : List ℕ) (bit : ℕ) (out : List ℕ) (es : List Event) → its ≡ voted H session n t i m z bit out es → ((d : Event) → Memᴰ d es → Last d) → Last e
        start z bit out es q f =
            on-cons Last (ev2 H session n t i m z) _ (λ a u. absurd (omega arith))
            (on-cons Last (ev3 H session n t i m z bit out) es (λ a u. absurd (omega arith)) f) e (subst (Memᴰ e) q k)

        go : Course H session n t i m (end o) its → Last e
        go (at-root q h) = no_more e (subst (Memᴰ e) q k)
        go (at-bit z q h) = on-cons Last (ev2 H session n t i m z) [] (λ a u. absurd (omega arith)) no_more e (subst (Memᴰ e) q k)
        go (ended-void z out rest q h) =
            start z 0 out rest q (over (at_end (seat_of session n t i) nothing 0) rest nothing (result-end (seat_of session n t i) nothing 0) h)
        go (at-first z out q h) = start z 1 out [] q no_more
        go (at-second z out in4 out4 q h) =
            start z 1 out _ q (on-cons Last (ev4 H session n t i m z in4 out4) [] (λ a u. absurd (omega arith)) no_more)
        go (ended z out in4 out4 in5 out5 rest q h) =
            let R = result_of H (X3 H session n t i m z in4) in5 in
            let w = went_on o z out in4 out4 in5 out5 rest q h R in
            start z 1 out _ q (on-cons Last (ev4 H session n t i m z in4 out4) _ (λ a u. absurd (omega arith))
            (on-cons Last (ev5 H session n t i m z in4 in5 out5) rest (λ a u. (R, w.0, w.1, w.2, rw q))
            (over (reply5 H session n t i m z in4 in5 out5).state rest R (result-end (seat_of session n t i) R (faulty_of H (X3 H session n t i m z in4) in5)) h)))
