-- Results are read again: step 5 on a party that holds a result, by the tests of its definition; on bytes, since an accepted step 5 writes a state that is
-- read back and written over itself; whatever comes later, and for every reader of a session, by the laws of agreement. Assumes nothing.
use mathlib.Core.Path.{◌≡◌, refl, sym, ap, ap₂, ◌∙◌, subst}
use mathlib.Core.Logic.{◌⊎◌, inl, inr, ◌≢◌}
use mathlib.Core.Bool.{Bool, true, false, cond, not}
use mathlib.Core.List.{List, [], ◌∷◌, ◌++◌, map, map-append}
use mathlib.Core.Option.{Option, none, some, none-ne-some}
use Prim.Native.Nat.{ℕ, ◌+◌, ◌-◌, ◌*◌, ◌^◌, ◌≤◌, ◌<◌}
use native.Mathlib.Decide.{ℕ_discrete}
use native.Mathlib.Omega.{arith}
use borrow.Author.Tests.{le-ltb, ltb-false, eq-eqb, ne_eqb}
use lib.Dec.{ltb, eqb}
use lib.ListN.{length, replicate}
use Rattle.limits.specs.Limits.{max_message, max_share}
use Rattle.buffer.specs.Splice.{spliced}
use Rattle.buffer.specs.Entries.{fills}
use Rattle.buffer.specs.Given.{written}
use Rattle.sha256.specs.Sha256.{sha256}
use Rattle.party.specs.State.{Result, nothing, settled, result_bytes, result_in, message_in, at_bit, at_first, at_second, at_end, broken}
use Rattle.party.specs.Steps.{turn_of, state_cause, open_of, result_found, result_of, faulty_of, Stepped, refused}
use Rattle.party.specs.declared.Stage.TheVariants.{Second}
use Rattle.commitment.specs.declared.Seat.{Seat}
use Rattle.party.specs.declared.Party.{Party}
use Rattle.party.proofs.Causes.{fit_of, whole-stage}
use Rattle.party.proofs.Outcomes.{holds-ended}
use Rattle.party.proofs.Kept.{result-end}
use Rattle.agreement.specs.Calls.{Call, agree_root, agree_bit, take_shares, take_relays, step_of, Event, accepted, made, events, final, did, sent_by}
use Rattle.agreement.specs.Agreement.{Good}
use Rattle.agreement.proofs.Run.{ended_with, did5, event}
use Rattle.agreement.proofs.Lists.{same_some}
use Rattle.agreement.proofs.Later.{did-both, gave, later-result, later-sent, later-checked, later-judged, later-recoded}
use Rattle.state_bytes.specs.Layout.{state_bytes, state_of}
use Rattle.state_bytes.proofs.Reading.{session-small}
use Rattle.state_bytes.proofs.Inverse.{written-again, end-storable}
use Rattle.capi.specs.Calls.{packed, value_shown, Replies, number_of, over, replies, called}
use Rattle.capi.proofs.Answers.{over-written, replies-are}
use Rattle.capi.proofs.Sound.{whole, accepted-long}
use Rattle.capi.proofs.Kept.{call_kept}
use Rattle.claims.specs.Terms.{FourBytes, when, foremost, lent, wrong, next, ended, Box, party_box, Host, box_of, party_of, further, NothingMore}
use Rattle.claims.specs.ReadAgain.{GivesAgain, ResultsAreReadAgain}
use Rattle.claims.proofs.Steps.{opening-tells, done, ends, step-tells}
use Rattle.claims.proofs.Parties.{view, readers, view-sent}
use Rattle.claims.proofs.Hosts.{box-same, hosts-read}

-- the result of step 5 on a party that holds one
result-held : (x : Party) (R : Result) (inbox : List ℕ) → result_in x ≡ some R → result_of sha256 x inbox ≡ R
unfolding result_of
result-held x R inbox h = rw h

-- the fields of the ended form
form : (s : Seat) (R : Result) (f : ℕ) → let x = at_end s R f in (x.seat ≡ s)
    × (x.message ≡ result_bytes R ++ replicate (max_message - length (result_bytes R)) 0)
    × (x.len ≡ 0) × (x.root ≡ replicate 32 0) × (x.share ≡ replicate max_share 0) × (x.held ≡ 0) × (x.faulty ≡ f)
unfolding at_end
form s R f = (refl, refl, refl, refl, refl, refl, refl)

-- a party that has ended keeps its map
map-held : (x : Party) (R : Result) (inbox : List ℕ) → result_in x ≡ some R → faulty_of sha256 x inbox ≡ x.faulty
unfolding faulty_of
map-held x R inbox h = rw (holds-ended x R h).0

module _ (x : Party) (R : Result) (h : result_in x ≡ some R) where
  gives-again : (inbox out : List ℕ) → GivesAgain x R out (made sha256 x (take_relays inbox out))
  unfolding foremost
  gives-again inbox out =
      let c = take_relays inbox out in
      let T = step-tells x c in
      let e = holds-ended x R h in
      let same = result-held x R inbox h in
      record {
        cause = T.cause ∙ rw (e.0, eq-eqb (turn_of x.stage) 5 e.1, same);
        kept = λ d. rw same at (T.refused d);
        given = λ a. let g = T.accepted a in (
          g.1 ∙ ap (λ (r : Result). spliced out 0 (result_bytes r)) same,
          g.2 ∙ ap (λ (r : Result). length (result_bytes r)) same,
          g.3 ∙ ap {B = Option Result} some same,
          g.4 ∙ map-held x R inbox h,
        );
        clean = λ a. let is = (T.accepted a).0 ∙ ap₂ (at_end x.seat) same (map-held x R inbox h) in
            let f = form x.seat R x.faulty in (
              ap result_in is ∙ result-end x.seat R x.faulty,
              ap (λ (y : Party). y.seat) is ∙ f.0,
              ap (λ (y : Party). y.message) is ∙ f.1,
              ap (λ (y : Party). y.len) is ∙ f.2,
              ap (λ (y : Party). y.root) is ∙ f.3,
              ap (λ (y : Party). y.share) is ∙ f.4,
              ap (λ (y : Party). y.held) is ∙ f.5,
              ap (λ (y : Party). y.faulty) is ∙ f.6,
            );
      }

  others : (c : Call) → step_of c ≢ 5 → made sha256 x c ≡ refused x (cond (broken x) 5 6) (lent c)
  unfolding state_cause
  others c d = (done x c).is ∙ go (broken x)
    where
      late : eqb (turn_of x.stage) (step_of c) ≡ false
      late = ne_eqb (turn_of x.stage) (step_of c) (λ q. d (sym q ∙ (holds-ended x R h).1))

      go : (b : Bool)
          → let k : ℕ = cond b 5 (cond (not (eqb (turn_of x.stage) (step_of c))) 6 0) in
          let j : ℕ = cond (not (eqb k 0)) k (wrong x c) in
          cond (not (eqb j 0)) (refused x j (lent c)) (done x c).does ≡ refused x (cond b 5 6) (lent c)
      go true = refl
      go false = rw late

-- a party that waits for the second inbox
first-reading : (x : Party) (inbox out : List ℕ) → x.stage ≡ Second → (made sha256 x (take_relays inbox out)).cause
    ≡ foremost (when 5 (broken x) ∷ when 8 (not (fills x.seat.n inbox)) ∷ when 9 (ltb (length out) (length (result_bytes (result_found sha256 x inbox)))) ∷ [])
unfolding foremost result_of
first-reading x inbox out h = (step-tells x (take_relays inbox out)).cause ∙ rw h

-- a state with the ended form is read again
module _ (s : Seat) (R : Result) (f : ℕ) (sound : broken (at_end s R f) ≡ false) (inbox room : List ℕ) (fits : length (result_bytes R) ≤ length room) where
  read-end : made sha256 (at_end s R f) (take_relays inbox room) ≡ ended_with s R f room
  unfolding foremost at_end
  read-end =
      let y = at_end s R f in
      let held = result-end s R f in
      let e : (made sha256 y (take_relays inbox room)).cause ≡ 0 = (gives-again y R held inbox room).cause
      ∙ rw (sound, le-ltb (length room) (length (result_bytes R)) fits) in
      (did5 sha256 y inbox room e).1
      ∙ ap₂ {C = Stepped} (λ (r : Result) (m : ℕ). ended_with s r m room) (result-held y R inbox held) (map-held y R inbox held)

-- an accepted call leaves an ended form, or a party that waits
module _ (s : Seat) (R : Result) (y : Party) (held : result_in y ≡ some R) where
  ended-form : (r : Result) (f : ℕ) → y ≡ at_end s r f → y ≡ at_end s R y.faulty
  ended-form r f q =
      q ∙ ap₂ (at_end s) (same_some (sym (result-end s r f) ∙ sym (ap result_in q) ∙ held)) (sym (ap (λ (p : Party). p.faulty) q ∙ (form s r f).6))

  waiting-form : (z : Party) → y ≡ z → result_in z ≡ none → y ≡ at_end s R y.faulty
  waiting-form z q n = absurd (none-ne-some R (sym n ∙ sym (ap result_in q) ∙ held))

bit-form : (s : Seat) (R : Result) (b : Bool) (m z : List ℕ) (y : Party) → result_in y ≡ some R → y ≡ cond b (at_end s nothing 0) (at_first s m z)
    → y ≡ at_end s R y.faulty
unfolding at_first
bit-form s R true m z y h q = ended-form s R y h nothing 0 q
bit-form s R false m z y h q = waiting-form s R y h _ q refl

next-form : (x : Party) (c : Call) (R : Result) (y : Party) → result_in y ≡ some R → y ≡ next x c → y ≡ at_end x.seat R y.faulty
unfolding at_bit at_second
next-form x (agree_root z) R y h q = waiting-form x.seat R y h _ q refl
next-form x (agree_bit bit out) R y h q = bit-form x.seat R (eqb bit 0) (message_in x) x.root y h q
next-form x (take_shares inbox out) R y h q = waiting-form x.seat R y h _ q refl
next-form x (take_relays inbox out) R y h q = ended-form x.seat R y h (result_of sha256 x inbox) (faulty_of sha256 x inbox) q

-- on bytes: the state that such a call leaves, and the reader after it
short-end : (s : Seat) (R : Result) (f : ℕ) → broken (at_end s R f) ≡ false → length (result_bytes R) ≤ max_message
unfolding at_end
short-end s nothing f e = omega arith
short-end s (settled m) f e = ltb-false max_message (length m) (whole-stage (at_end s (settled m) f) e)

named_end : (s : Seat) (R : Result) (f : ℕ) → broken (at_end s R f) ≡ false → f < 2 ^ s.n
unfolding at_end
named_end s R f e = (fit_of (at_end s R f) e).named

module _ (s : List ℕ) (c : Call) (R : Result) (inbox room : List ℕ) (e : (made sha256 (state_of s) c).cause ≡ 0)
    (h : result_in (state_of (called sha256 s c).state) ≡ some R) (fits : length (result_bytes R) ≤ length room) where
  abbrev x : Party
  x = state_of s

  abbrev M : ℕ
  M = (made sha256 x c).state.faulty

  abbrev y : Party
  y = at_end x.seat R M

  left : (made sha256 x c).state ≡ y
  left = next-form x c R (made sha256 x c).state (ap result_in (sym (call_kept sha256 s c)) ∙ h) ((step-tells x c).accepted e).0

  sound : broken y ≡ false
  sound = sym (ap broken left) ∙ ((step-tells x c).accepted e).5

  bytes : (called sha256 s c).state ≡ (written (state_bytes y) s).buffer
  unfolding called
  bytes = ap (λ (q : Replies). q.state) (over-written s (made sha256 x c) e) ∙ ap (λ (p : Party). (written (state_bytes p) s).buffer) left

  screen : called sha256 (called sha256 s c).state (take_relays inbox room)
      ≡ replies (packed 0 (value_shown (some R) (state_of (called sha256 s c).state).faulty 0)) (called sha256 s c).state (spliced room 0 (result_bytes R))
  unfolding called
  screen =
      let S = (called sha256 s c).state in
      let k = take_relays inbox room in
      let f = fit_of x (whole sha256 x c e) in
      let is = read-end x.seat R M sound inbox room fits in
      ap (λ (p : Party). over S (made sha256 p k)) (call_kept sha256 s c ∙ left)
      ∙ over-written S (made sha256 y k) (ap (λ (r : Stepped). r.cause) is)
      ∙ ap (λ (r : Stepped). replies (number_of r) (written (state_bytes r.state) S).buffer r.buffer) is
      ∙ replies-are _ _ _ _ _ _ (ap (packed 0) (shown R M (state_of S).faulty (sym (ap (λ (p : Party). p.faulty) (call_kept sha256 s c)))))
      (ap (λ (b : List ℕ). (written (state_bytes y) b).buffer) bytes
      ∙ written-again y (end-storable x.seat (session-small s) f.high (omega (arith, f.faults)) f.last R M (short-end x.seat R M sound)
      (named_end x.seat R M sound)) s (accepted-long sha256 s c e)
      ∙ sym bytes)
      (ends x R M room)
    where
      shown : (r : Result) (f g : ℕ) → f ≡ g → value_shown (some r) f (length (result_bytes r)) ≡ value_shown (some r) g 0
      shown nothing f g q = ap (λ (i : ℕ). 2 * i) q
      shown (settled m) f g q = ap (λ (i : ℕ). 2 * i + 1) q

-- a party that has ended, called further: it stays sound, so that a reader with room is accepted
pub final-whole : (x : Party) (cs : List Call) → broken x ≡ false → broken (final sha256 x cs) ≡ false
unfolding final
final-whole x [] h = h
final-whole x (c ∷ cs) h = final-whole (made sha256 x c).state cs (go (ℕ_discrete (made sha256 x c).cause 0))
  where
    go : Dec ((made sha256 x c).cause ≡ 0) → broken (made sha256 x c).state ≡ false
    go (yes e) = ((step-tells x c).accepted e).5
    go (no d) = ap broken ((step-tells x c).refused d).0 ∙ h

one-accepted : (x : Party) (c : Call) → (made sha256 x c).cause ≡ 0 → accepted (events sha256 x (c ∷ [])) ≡ event sha256 x c ∷ []
unfolding accepted events
one-accepted x c e = rw (eq-eqb (made sha256 x c).cause 0 e)

module _ (session n t : ℕ) (A : Good) (R : Result) (h : (party_box session n t A).result ≡ some R) where
  abbrev i : ℕ
  i = A.own

  abbrev m : List ℕ
  m = A.message

  abbrev cs : List Call
  cs = A.calls

  abbrev longer : List Call → Good
  longer more = record { own = i; message = m; calls = cs ++ more }

  party-later : (more : List Call) → NothingMore n (party_box session n t A) (party_box session n t (longer more))
  unfolding sent_by
  party-later more =
      let held = later-result sha256 session n t i m cs R h more in
      record {
        held = held ∙ sym h;
        readings = λ inbox r k. readers (did sha256 session n t i m (cs ++ more)) R (gave sha256 session n t i m (cs ++ more) R held) inbox r k ∙ sym h;
        sent = view-sent n (did sha256 session n t i m (cs ++ more)) ∙ later-sent sha256 session n t i m cs R h more ∙ sym (view-sent n (did sha256 session n t i m cs));
        hashed = (later-checked sha256 session n t i m cs R h more, later-judged sha256 session n t i m cs R h more, later-recoded sha256 session n t i m cs R h more);
      }

  party-next : (inbox out : List ℕ) → (party_box session n t A).cause ≡ 0 → length (result_bytes R) ≤ length out
      → (party_box session n t (longer (take_relays inbox out ∷ []))).acts ≡ (party_box session n t A).acts ++ (ended inbox (some R) ∷ [])
  unfolding foremost
  party-next inbox out e fits =
      let c = take_relays inbox out in
      let fin = final sha256 (open_of sha256 session n t i m).state cs in
      let g = gives-again fin R h inbox out in
      let sound = final-whole (open_of sha256 session n t i m).state cs ((opening-tells session n t i m).accepted e).2 in
      let a : (made sha256 fin c).cause ≡ 0 = g.cause ∙ rw (sound, le-ltb (length out) (length (result_bytes R)) fits) in
      ap (map view) (did-both sha256 session n t i m cs (c ∷ []) ∙ ap (λ (l : List Event). did sha256 session n t i m cs ++ l) (one-accepted fin c a))
      ∙ map-append view (did sha256 session n t i m cs) (event sha256 fin c ∷ [])
      ∙ ap (λ (r : Option Result). (party_box session n t A).acts ++ (ended inbox r ∷ [])) (g.given a).2

-- and any good box
abbrev longer_host : Host → List Call → Host
longer_host k more = record { own = k.own; book = k.book; state_room = k.state_room; root_room = k.root_room; calls = k.calls ++ more }

module _ (session n t : ℕ) (four : FourBytes session) (R : Result) where
  later : (g : Good ⊎ Host) (more : List Call) → (box_of session n t g).cause ≡ 0 → (box_of session n t g).result ≡ some R
      → NothingMore n (box_of session n t g) (box_of session n t (further more g))
  later (inl A) more e h = party-later session n t A R h more
  later (inr k) more e h =
      let a = box-same session n t four k e in
      subst (λ (after : Box). NothingMore n (box_of session n t (inr k)) after) (sym (box-same session n t four (longer_host k more) e))
      (subst (λ (before : Box). NothingMore n before (party_box session n t (party_of (longer_host k more)))) (sym a)
      (party-later session n t (party_of k) R (sym (ap (λ (B : Box). B.result) a) ∙ h) more))

  next-reader : (g : Good ⊎ Host) (inbox out : List ℕ) → (box_of session n t g).cause ≡ 0 → (box_of session n t g).result ≡ some R
      → length (result_bytes R) ≤ length out → (box_of session n t (further (take_relays inbox out ∷ []) g)).acts ≡ (box_of session n t g).acts ++ (ended inbox (some R) ∷ [])
  next-reader (inl A) inbox out e h fits = party-next session n t A R h inbox out e fits
  next-reader (inr k) inbox out e h fits =
      let a = box-same session n t four k e in
      let b = box-same session n t four (longer_host k (take_relays inbox out ∷ [])) e in
      ap (λ (B : Box). B.acts) b
      ∙ party-next session n t (party_of k) R (sym (ap (λ (B : Box). B.result) a) ∙ h) inbox out (sym (ap (λ (B : Box). B.cause) a) ∙ e) fits
      ∙ ap (λ (B : Box). B.acts ++ (ended inbox (some R) ∷ [])) (sym a)

pub results-are-read-again : ResultsAreReadAgain
results-are-read-again =
    record {
      step5 = λ x R inbox out h. gives-again x R h inbox out;
      others = λ x R c h. others x R h c;
      first = first-reading;
      screen = screen;
      next = λ session n t g R inbox out four. next-reader session n t four R g inbox out;
      later = λ session n t g R more four. later session n t four R g more;
      one = hosts-read;
    }
