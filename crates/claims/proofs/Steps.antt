-- Every step tells its outcome: the causes in their order, what a refusal keeps, what an accepted call writes, and that a lawful call is accepted. By
-- the tests of the steps' definitions, one after the other. Assumes nothing.
use mathlib.Core.Path.{◌≡◌, refl, sym, ap, ◌∙◌}
use mathlib.Core.Logic.{◌≢◌}
use mathlib.Core.Bool.{Bool, true, false, cond, not, ◌||◌}
use mathlib.Core.List.{List, [], ◌∷◌}
use mathlib.Core.Option.{none}
use Prim.Native.Nat.{ℕ, ◌*◌, ◌≤◌}
use native.Mathlib.Omega.{arith}
use borrow.Author.Tests.{le-ltb, ltb-false, eqb-true, eqb-false, not-false}
use lib.Dec.{leb, ltb, eqb}
use lib.ListN.{length}
use Rattle.limits.specs.Limits.{parties, numbered, group_cause, max_message}
use Rattle.limits.proofs.Group.{group_of}
use Rattle.buffer.specs.Splice.{spliced}
use Rattle.buffer.specs.Entries.{fills}
use Rattle.buffer.proofs.Splice.{spliced-none}
use Rattle.sha256.specs.Sha256.{sha256}
use Rattle.commitment.specs.Commitment.{message_root, open_cause}
use Rattle.commitment.proofs.Opening.{open-bounds, spared}
use Rattle.merkle.specs.Shares.{blank}
use Rattle.party.specs.State.{seat_of, Result, nothing, settled, result_bytes, has_ended, message_in, at_root, at_first, at_end, blank_state, broken}
use Rattle.party.specs.Steps.{turn_of, state_cause, open_of, Stepped, cause_of, value_of, result_given, faulty_given, refused, writes, ending, root_cause, agree_root_of, bit_cause, outbox_of, agree_bit_of}
use Rattle.party.specs.Steps.{inbox_cause, relays_cause, relay_of, held_of, faulty_shares, take_shares_of, result_of, faulty_of, take_relays_of}
use Rattle.party.specs.declared.Party.{Party}
use Rattle.party.specs.Answer.{Opened}
use Rattle.party.proofs.Ways.{Way, on, off, way}
use Rattle.party.proofs.Causes.{fit_of}
use Rattle.party.proofs.Outcomes.{open-refused, open-given}
use Rattle.party.proofs.Faulty.{holds-empty, holds-shares, holds-given}
use Rattle.party.proofs.Progress.{open-accepted, root-accepted, bit-accepted, shares-accepted, relays-accepted}
use Rattle.party.proofs.Progress.{root-whole, bit-whole, first-whole, second-whole, end_whole, message-short, held-short, result-short}
use Rattle.agreement.specs.Calls.{Call, agree_root, agree_bit, take_shares, take_relays, step_of, made}
use Rattle.agreement.proofs.Run.{ended_with, did2, did3, did4, did5}
use Rattle.agreement.proofs.Ran.{opened-is}
use Rattle.capi.proofs.Sound.{whole}
use Rattle.claims.specs.Terms.{when, foremost, group_then, lent, wrong, due, next, answered, outcome, cheats_told}
use Rattle.claims.specs.Claims.{OpeningTells, StepTells}

-- the opening
open-foremost : (a b c d : Bool)
    → cond (not (eqb (cond a 1 (cond b 2 0)) 0)) (cond a 1 (cond b 2 0)) (cond c 3 (cond d 4 0))
    ≡ foremost (when 1 a ∷ when 2 b ∷ when 3 c ∷ when 4 d ∷ [])
unfolding foremost
open-foremost true b c d = refl
open-foremost false true c d = refl
open-foremost false false true d = refl
open-foremost false false false true = refl
open-foremost false false false false = refl

either : (b : Bool) (p q : Opened) → (cond b p q).cause ≡ cond b p.cause q.cause
either true p q = refl
either false p q = refl

or-none : (k : ℕ) → cond (not (eqb k 0)) k 0 ≡ k
or-none k = go (way (eqb k 0))
  where
    go : Way (eqb k 0) → cond (not (eqb k 0)) k 0 ≡ k
    go (on e) = rw e (sym (eqb-true k 0 e))
    go (off e) = rw e

opening-told : (session n t own : ℕ) (m : List ℕ) → (open_of sha256 session n t own m).cause
    ≡ group_then n t (when 3 (not (numbered n own)) ∷ when 4 (ltb max_message (length m)) ∷ [])
unfolding open_of open_cause group_cause
opening-told session n t own m =
    either (not (eqb (open_cause n t own (length m)) 0)) _ _ ∙ or-none (open_cause n t own (length m))
    ∙ open-foremost (not (parties n)) (leb n (2 * t)) (not (numbered n own)) (ltb max_message (length m))

opening-refused : (session n t own : ℕ) (m : List ℕ) → (open_of sha256 session n t own m).cause ≢ 0
    → ((open_of sha256 session n t own m).state ≡ blank_state) × ((open_of sha256 session n t own m).root ≡ blank)
opening-refused session n t own m d = go (way (eqb (open_cause n t own (length m)) 0))
  where
    go : Way (eqb (open_cause n t own (length m)) 0) → ((open_of sha256 session n t own m).state ≡ blank_state) × ((open_of sha256 session n t own m).root ≡ blank)
    go (on e) = absurd (d (ap (λ (r : Opened). r.cause) (open-given sha256 session n t own m (eqb-true (open_cause n t own (length m)) 0 e))))
    go (off e) = rw (open-refused sha256 session n t own m (eqb-false (open_cause n t own (length m)) 0 e)) (refl, refl)

opening-accepted : (session n t own : ℕ) (m : List ℕ) → (open_of sha256 session n t own m).cause ≡ 0 → ((open_of sha256 session n t own m).state ≡ at_root (seat_of session n t own) m)
    × ((open_of sha256 session n t own m).root ≡ message_root sha256 session n t m) × (broken (open_of sha256 session n t own m).state ≡ false)
opening-accepted session n t own m e =
    let o = opened-is sha256 session n t own m e in
    let b = open-bounds n t own (length m) o.0 in
    let g = group_of n t b.0 in (
      ap (λ (r : Opened). r.state) o.1,
      ap (λ (r : Opened). r.root) o.1,
      ap (λ (r : Opened). broken r.state) o.1 ∙ root-whole (seat_of session n t own) g.low g.high g.faults b.1 b.2 m b.3,
    )

pub opening-tells : (session n t own : ℕ) (m : List ℕ) → OpeningTells session n t own m (open_of sha256 session n t own m)
opening-tells session n t own m =
    record {
      cause = opening-told session n t own m;
      refused = opening-refused session n t own m;
      accepted = opening-accepted session n t own m;
      lawful = open-accepted sha256 session n t own m;
    }

-- a step: causes 5 and 6, then its argument's; then that of its buffer
abbrev pub judged : ℕ → Party → Call → ℕ
judged turn x c = cond (not (eqb (state_cause turn x) 0)) (state_cause turn x) (wrong x c)

step-foremost : (a b d : Bool) (k : ℕ)
    → cond (not (eqb (cond (not (eqb (cond a 5 (cond b 6 0)) 0)) (cond a 5 (cond b 6 0)) k) 0))
    (cond (not (eqb (cond a 5 (cond b 6 0)) 0)) (cond a 5 (cond b 6 0)) k) (when 9 d)
    ≡ foremost (when 5 a ∷ when 6 b ∷ k ∷ when 9 d ∷ [])
unfolding foremost
step-foremost true b d k = refl
step-foremost false true d k = refl
step-foremost false false d k = go (eqb k 0) d
  where
    go : (g d : Bool) → cond (not g) k (when 9 d) ≡ cond g (foremost (when 9 d ∷ [])) k
    go true true = refl
    go true false = refl
    go false d = refl

-- what a step does with its judgement
pub record Does (x : Party) (c : Call) (k : ℕ) : Type 0 where
  pub does : Stepped
  pub is : made sha256 x c ≡ cond (not (eqb k 0)) (refused x k (lent c)) does
  pub cause : does.cause ≡ when 9 (ltb (length (lent c)) (length (due x c)))
  pub keeps : does.cause ≢ 0 → (does.state ≡ x) × (does.buffer ≡ lent c) × (does.value ≡ cond (eqb does.cause 9) (length (due x c)) 0)
      × (does.result ≡ none) × (does.faulty ≡ 0)

writes-cause : (x next : Party) (bs out : List ℕ) → (writes x next bs out).cause ≡ when 9 (ltb (length out) (length bs))
writes-cause x next bs out = go (way (ltb (length out) (length bs)))
  where
    go : Way (ltb (length out) (length bs)) → (writes x next bs out).cause ≡ when 9 (ltb (length out) (length bs))
    go (on e) = rw e
    go (off e) = rw e

abbrev Kept : Party → List ℕ → List ℕ → Stepped → Type 0
Kept x bs out r = r.cause ≢ 0 → (r.state ≡ x) × (r.buffer ≡ out) × (r.value ≡ cond (eqb r.cause 9) (length bs) 0) × (r.result ≡ none)
    × (r.faulty ≡ 0)

writes-keeps : (x next : Party) (bs out : List ℕ) → Kept x bs out (writes x next bs out)
writes-keeps x next bs out = go (way (ltb (length out) (length bs)))
  where
    go : Way (ltb (length out) (length bs)) → Kept x bs out (writes x next bs out)
    go (on e) = rw e (λ d. (refl, refl, refl, refl, refl))
    go (off e) = rw e (λ d. absurd (d refl))

ending-cause : (x : Party) (r : Result) (f : ℕ) (out : List ℕ) → (ending x r f out).cause ≡ when 9 (ltb (length out) (length (result_bytes r)))
ending-cause x nothing f out = rw (le-ltb (length out) 0 (omega arith))
ending-cause x (settled m) f out = go (way (ltb (length out) (length m)))
  where
    go : Way (ltb (length out) (length m)) → (ending x (settled m) f out).cause ≡ when 9 (ltb (length out) (length m))
    go (on e) = rw e
    go (off e) = rw e

ending-keeps : (x : Party) (r : Result) (f : ℕ) (out : List ℕ) → Kept x (result_bytes r) out (ending x r f out)
ending-keeps x nothing f out = λ d. absurd (d refl)
ending-keeps x (settled m) f out = go (way (ltb (length out) (length m)))
  where
    go : Way (ltb (length out) (length m)) → Kept x m out (ending x (settled m) f out)
    go (on e) = rw e (λ d. (refl, refl, refl, refl, refl))
    go (off e) = rw e (λ d. absurd (d refl))

-- step 5 judges no inbox once the party has ended
relays-judged : (x : Party) (inbox out : List ℕ) → relays_cause x inbox ≡ judged 5 x (take_relays inbox out)
unfolding relays_cause inbox_cause
relays-judged x inbox out = go (way (has_ended x.stage))
  where
    go : Way (has_ended x.stage) → relays_cause x inbox ≡ judged 5 x (take_relays inbox out)
    go (on h) = rw h (sym (or-none (state_cause 5 x)))
    go (off h) = rw h

pub done : (x : Party) (c : Call) → Does x c (judged (step_of c) x c)
unfolding made agree_root_of agree_bit_of take_shares_of take_relays_of root_cause bit_cause inbox_cause
done x (agree_root z) = record { does = _; is = refl; cause = refl; keeps = λ d. absurd (d refl) }
done x (agree_bit bit out) =
    let next = cond (eqb bit 0) (at_end x.seat nothing 0) (at_first x.seat (message_in x) x.root) in
    record { does = _; is = refl; cause = writes-cause x next (outbox_of sha256 x bit) out; keeps = writes-keeps x next (outbox_of sha256 x bit) out }
done x (take_shares inbox out) =
    record { does = _; is = refl; cause = writes-cause x _ (relay_of sha256 x inbox) out; keeps = writes-keeps x _ (relay_of sha256 x inbox) out }
done x (take_relays inbox out) =
    record {
      does = _;
      is = ap (λ (k : ℕ). cond (not (eqb k 0)) (refused x k out) (ending x (result_of sha256 x inbox) (faulty_of sha256 x inbox) out)) (relays-judged x inbox out);
      cause = ending-cause x (result_of sha256 x inbox) (faulty_of sha256 x inbox) out;
      keeps = ending-keeps x (result_of sha256 x inbox) (faulty_of sha256 x inbox) out;
    }

either_step : (b : Bool) (p q : Stepped) → (cond b p q).cause ≡ cond b p.cause q.cause
either_step true p q = refl
either_step false p q = refl

step-told : (x : Party) (c : Call) → (made sha256 x c).cause
    ≡ foremost (when 5 (broken x) ∷ when 6 (not (eqb (turn_of x.stage) (step_of c))) ∷ wrong x c
    ∷ when 9 (ltb (length (lent c)) (length (due x c))) ∷ [])
unfolding state_cause
step-told x c =
    let D = done x c in
    let k : ℕ = judged (step_of c) x c in
    ap (λ (r : Stepped). r.cause) D.is ∙ either_step (not (eqb k 0)) (refused x k (lent c)) D.does
    ∙ ap (λ (j : ℕ). cond (not (eqb k 0)) k j) D.cause
    ∙ step-foremost (broken x) (not (eqb (turn_of x.stage) (step_of c))) (ltb (length (lent c)) (length (due x c))) (wrong x c)

-- cause 9 is the buffer's alone
other : (k : ℕ) (b : Bool) → eqb k 9 ≡ false → eqb (when k b) 9 ≡ false
other k true e = e
other k false e = refl

pub wrong-not-nine : (x : Party) (c : Call) → eqb (wrong x c) 9 ≡ false
wrong-not-nine x (agree_root z) = other 7 (not (eqb (length z) 32)) refl
wrong-not-nine x (agree_bit bit out) = other 7 (ltb 1 bit) refl
wrong-not-nine x (take_shares inbox out) = other 8 (not (fills x.seat.n inbox)) refl
wrong-not-nine x (take_relays inbox out) = other 8 (not (has_ended x.stage || fills x.seat.n inbox)) refl

not-nine : (x : Party) (c : Call) → eqb (judged (step_of c) x c) 9 ≡ false
unfolding state_cause
not-nine x c = go (broken x) (not (eqb (turn_of x.stage) (step_of c))) (wrong x c) (wrong-not-nine x c)
  where
    go : (a b : Bool) (k : ℕ) → eqb k 9 ≡ false → eqb (cond (not (eqb (cond a 5 (cond b 6 0)) 0)) (cond a 5 (cond b 6 0)) k) 9 ≡ false
    go true b k e = refl
    go false true k e = refl
    go false false k e = e

refusal-keeps : (x : Party) (c : Call) → Kept x (due x c) (lent c) (made sha256 x c)
refusal-keeps x c = go (way (eqb k 0))
  where
    k : ℕ
    k = judged (step_of c) x c

    D : Does x c (judged (step_of c) x c)
    D = done x c

    refusal : Kept x (due x c) (lent c) (refused x (judged (step_of c) x c) (lent c))
    refusal d = (refl, refl, rw (not-nine x c), refl, refl)

    go : Way (eqb (judged (step_of c) x c) 0) → Kept x (due x c) (lent c) (made sha256 x c)
    go (on e) = rw (D.is, e) D.keeps
    go (off e) = rw (D.is, e) refusal

-- an accepted step
pub ends : (x : Party) (r : Result) (f : ℕ) (out : List ℕ) → (ended_with x.seat r f out).buffer ≡ spliced out 0 (result_bytes r)
ends x nothing f out = sym (spliced-none out 0)
ends x (settled m) f out = refl

abbrev Gives : Party → Call → Stepped → Type 0
Gives x c r =
    (r.state ≡ next x c) × (r.buffer ≡ spliced (lent c) 0 (due x c)) × (r.value ≡ answered x c) × (r.result ≡ outcome x c)
    × (r.faulty ≡ cheats_told x c) × (broken r.state ≡ false)

step-accepted : (x : Party) (c : Call) → (made sha256 x c).cause ≡ 0 → Gives x c (made sha256 x c)
step-accepted x c e = go c e (whole sha256 x c e)
  where
    sound : (b : Bool) (p q : Party) → broken p ≡ false → broken q ≡ false → broken (cond b p q) ≡ false
    sound true p q f g = f
    sound false p q f g = g

    go : (c : Call) → (made sha256 x c).cause ≡ 0 → broken x ≡ false → Gives x c (made sha256 x c)
    go (agree_root z) e w =
        let f = fit_of x w in
        rw (did2 sha256 x z e).1 (
          refl,
          sym (spliced-none [] 0),
          refl,
          refl,
          refl,
          bit-whole x.seat f.low f.high (omega (arith, f.faults)) f.first f.last (message_in x) (message-short sha256 x w) z,
        )
    go (agree_bit bit out) e w =
        let f = fit_of x w in
        rw (did3 sha256 x bit out e).2 (
          refl,
          refl,
          refl,
          refl,
          refl,
          sound (eqb bit 0) (at_end x.seat nothing 0) (at_first x.seat (message_in x) x.root)
              (end_whole x.seat f.low f.high (omega (arith, f.faults)) f.first f.last nothing 0 (omega arith) (holds-empty x.seat.n x.seat.own))
              (first-whole x.seat f.low f.high (omega (arith, f.faults)) f.first f.last (message_in x) (message-short sha256 x w) x.root),
        )
    go (take_shares inbox out) e w =
        let f = fit_of x w in
        rw (did4 sha256 x inbox out e).1 (
          refl,
          refl,
          refl,
          refl,
          refl,
          second-whole x.seat f.low f.high (omega (arith, f.faults)) f.first f.last (message_in x) (message-short sha256 x w) x.root
              (held_of sha256 x inbox) (faulty_shares sha256 x inbox) (held-short sha256 x w inbox) (holds-shares sha256 x inbox f),
        )
    go (take_relays inbox out) e w =
        let f = fit_of x w in
        rw (did5 sha256 x inbox out e).1 (
          refl,
          ends x (result_of sha256 x inbox) (faulty_of sha256 x inbox) out,
          refl,
          refl,
          refl,
          end_whole x.seat f.low f.high (omega (arith, f.faults)) f.first f.last (result_of sha256 x inbox) (faulty_of sha256 x inbox)
              (result-short sha256 x w inbox) (holds-given sha256 x inbox f),
        )

-- a lawful step
lawful : (x : Party) (c : Call) → broken x ≡ false → turn_of x.stage ≡ step_of c → wrong x c ≡ 0 → length (due x c) ≤ length (lent c)
    → (made sha256 x c).cause ≡ 0
unfolding made
lawful x (agree_root z) w turn fine room =
    root-accepted sha256 x w z turn (eqb-true (length z) 32 (not-false (eqb (length z) 32) (spared (not (eqb (length z) 32)) 6 0 fine).0))
lawful x (agree_bit bit out) w turn fine room = bit-accepted sha256 x w bit out turn (ltb-false 1 bit (spared (ltb 1 bit) 6 0 fine).0) room
lawful x (take_shares inbox out) w turn fine room =
    shares-accepted sha256 x w inbox out turn
    (not-false (fills x.seat.n inbox) (spared (not (fills x.seat.n inbox)) 7 0 fine).0) room
lawful x (take_relays inbox out) w turn fine room =
    let looked : Bool = has_ended x.stage || fills x.seat.n inbox in
    relays-accepted sha256 x w inbox out turn (λ h. rw h at (not-false looked (spared (not looked) 7 0 fine).0)) room

-- cause, value, result and map are those of the answer
abbrev Answers : Stepped → Type 0
Answers r = (r.cause ≡ cause_of r.answer) × (r.value ≡ value_of r.answer) × (r.result ≡ result_given r.answer r.buffer)
    × (r.faulty ≡ faulty_given r.answer)

either-answers : (b : Bool) (p q : Stepped) → Answers p → Answers q → Answers (cond b p q)
either-answers true p q f g = f
either-answers false p q f g = g

writes-answers : (x next : Party) (bs out : List ℕ) → Answers (writes x next bs out)
writes-answers x next bs out = either-answers (ltb (length out) (length bs)) _ _ (refl, refl, refl, refl) (refl, refl, refl, refl)

ending-answers : (x : Party) (r : Result) (f : ℕ) (out : List ℕ) → Answers (ending x r f out)
ending-answers x nothing f out = (refl, refl, refl, refl)
ending-answers x (settled m) f out = either-answers (ltb (length out) (length m)) _ _ (refl, refl, refl, refl) (refl, refl, refl, refl)

step-answers : (x : Party) (c : Call) → Answers (made sha256 x c)
unfolding made agree_root_of agree_bit_of take_shares_of take_relays_of
step-answers x (agree_root z) = either-answers (not (eqb (root_cause x z) 0)) _ _ (refl, refl, refl, refl) (refl, refl, refl, refl)
step-answers x (agree_bit bit out) = either-answers (not (eqb (bit_cause x bit) 0)) _ _ (refl, refl, refl, refl) (writes-answers x _ (outbox_of sha256 x bit) out)
step-answers x (take_shares inbox out) =
    either-answers (not (eqb (inbox_cause 4 x inbox) 0)) _ _ (refl, refl, refl, refl) (writes-answers x _ (relay_of sha256 x inbox) out)
step-answers x (take_relays inbox out) =
    either-answers (not (eqb (relays_cause x inbox) 0)) _ _ (refl, refl, refl, refl) (ending-answers x (result_of sha256 x inbox) (faulty_of sha256 x inbox) out)

pub step-tells : (x : Party) (c : Call) → StepTells x c (made sha256 x c)
step-tells x c =
    record { cause = step-told x c; refused = refusal-keeps x c; accepted = step-accepted x c; lawful = lawful x c; answer = step-answers x c }
