-- What holds of parties holds of hosts: a call on bytes is the step on the state that they say, so that what is seen of a host is what is seen of the party
-- with its number, book and calls. From the laws of the C interface. Assumes nothing.
use mathlib.Core.Path.{◌≡◌, refl, sym, ap, ap₂, ◌∙◌, subst}
use mathlib.Core.Logic.{◌⊎◌, inl, inr, ◌≢◌}
use mathlib.Core.Bool.{true, false, cond}
use mathlib.Core.List.{List, [], ◌∷◌, map, Memᴰ}
use mathlib.Core.Option.{Option, none, some}
use Prim.Native.Nat.{ℕ, ◌-◌, ◌/◌, ◌%◌, ◌^◌, ◌≤◌, ◌<◌}
use native.Mathlib.Decide.{ℕ_discrete, dec_lt}
use native.Mathlib.Omega.{arith}
use borrow.Author.Tests.{lt-ltb, le-ltb, eq-eqb, ne_eqb, eqb-true, eqb-false}
use lib.Dec.{ltb, eqb}
use lib.ListN.{length, take}
use Rattle.buffer.specs.Splice.{spliced}
use Rattle.buffer.specs.Given.{written}
use Rattle.buffer.proofs.Splice.{take-spliced}
use Rattle.sha256.specs.Sha256.{sha256}
use Rattle.sha256.proofs.Laws.{sha256-length}
use Rattle.commitment.specs.Commitment.{message_root}
use Rattle.merkle.proofs.Trees.{length-root}
use Rattle.commitment.proofs.Opening.{open-coded}
use Rattle.commitment.proofs.Messages.{fine}
use Rattle.erasure.specs.Coding.{shares}
use Rattle.party.specs.State.{Result, nothing, settled, result_in}
use Rattle.party.specs.Steps.{open_of, Stepped, result_of, faulty_of}
use Rattle.party.specs.declared.Party.{Party}
use Rattle.party.specs.Answer.{Opened}
use Rattle.party.proofs.Ways.{Way, on, off, way}
use Rattle.agreement.specs.Calls.{Call, agree_root, agree_bit, take_shares, take_relays, Event, made, events, accepted, final, did}
use Rattle.agreement.specs.Agreement.{Good}
use Rattle.agreement.proofs.Run.{ended_with, did2, did3, did4, did5, event}
use Rattle.agreement.proofs.Ran.{opened-is}
use Rattle.state_bytes.specs.Layout.{state_length, state_bytes, state_of}
use Rattle.capi.specs.Calls.{packed, Replies, value_shown, number_of, open_call, called, result_length_call}
use Rattle.capi.specs.Lists.{length_of}
use Rattle.capi.proofs.Answers.{value-fits, over-written, over-left, open-refused, open-state, open-root, open_done}
use Rattle.capi.proofs.Small.{call-small, call-halves}
use Rattle.capi.proofs.Kept.{call_kept, calls-kept, length-kept, open_kept}
use Rattle.claims.specs.Terms.{FourBytes, Act, ended, Box, party_box, Host, act_seen, acts_seen, host_box, box_of, party_of, party}
use Rattle.claims.specs.Claims.{HostOpeningTells, HostStepTells, EveryCallTellsItsOutcome, Sitting, AllGoodHostsEndWithOneResult}
use Rattle.claims.specs.ReadAgain.{EveryReaderGetsIt}
use Rattle.agreement.proofs.Mapped.{in_map, map-map, map_same}
use Rattle.claims.proofs.Steps.{opening-tells, step-tells}
use Rattle.claims.proofs.Tools.{shares-told, rebuild-told, hash-told, length-told, check-told, check-yes, packet-told}
use Rattle.claims.proofs.Parties.{view, every-reader-gets-it}

-- a call: its number, and the buffer
pub called-number : (s : List ℕ) (c : Call) → (called sha256 s c).number ≡ number_of (made sha256 (state_of s) c)
unfolding called
called-number s c = refl

called-out : (s : List ℕ) (c : Call) → (called sha256 s c).out ≡ (made sha256 (state_of s) c).buffer
unfolding called
called-out s c = refl

pub host-step-tells : (s : List ℕ) (c : Call) → HostStepTells s c (made sha256 (state_of s) c) (called sha256 s c)
unfolding called
host-step-tells s c =
    let r = made sha256 (state_of s) c in
    record {
      number = let f = call-small sha256 sha256-length (state_of s) c in (refl, value-fits r.result r.faulty r.value f.0 f.1);
      refused = λ d. (ap (λ (q : Replies). q.state) (over-left s r d), ((step-tells (state_of s) c).refused d).1);
      accepted = λ e. (ap (λ (q : Replies). q.state) (over-written s r e), refl, call_kept sha256 s c);
    }

-- the opening: its outcomes
data Outcome (session n t own : ℕ) (m s z : List ℕ) : Type 0 where
  turned : (open_of sha256 session n t own m).cause ≢ 0 → Outcome session n t own m s z
  short-state : (open_of sha256 session n t own m).cause ≡ 0 → length s < state_length → Outcome session n t own m s z
  short-root : (open_of sha256 session n t own m).cause ≡ 0 → state_length ≤ length s → length z < 32 → Outcome session n t own m s z
  taken : (open_of sha256 session n t own m).cause ≡ 0 → state_length ≤ length s → 32 ≤ length z → Outcome session n t own m s z

outcome : (session n t own : ℕ) (m s z : List ℕ) → Outcome session n t own m s z
outcome session n t own m s z = go (ℕ_discrete (open_of sha256 session n t own m).cause 0) (dec_lt (length s) state_length) (dec_lt (length z) 32)
  where
    go : Dec ((open_of sha256 session n t own m).cause ≡ 0) → Dec (length s < state_length) → Dec (length z < 32) → Outcome session n t own m s z
    go (no d) a b = turned d
    go (yes e) (yes a) b = short-state e a
    go (yes e) (no a) (yes b) = short-root e (omega arith) b
    go (yes e) (no a) (no b) = taken e (omega arith) (omega arith)

pub upper : (k v : ℕ) → v < 2 ^ 32 → packed k v / 2 ^ 32 ≡ k
unfolding packed
upper k v h = omega (arith, h)

module _ (session n t own : ℕ) (m s z : List ℕ) where
  abbrev r : Opened
  r = open_of sha256 session n t own m

  abbrev q : Replies
  q = open_call sha256 session n t own m s z

  number-told : q.number ≡ cond (eqb r.cause 0)
      (cond (ltb (length s) state_length) (packed 9 state_length) (cond (ltb (length z) 32) (packed 9 32) (packed 0 32))) (packed r.cause 0)
  number-told = go (outcome session n t own m s z)
    where
      go : Outcome session n t own m s z → q.number ≡ cond (eqb r.cause 0)
          (cond (ltb (length s) state_length) (packed 9 state_length) (cond (ltb (length z) 32) (packed 9 32) (packed 0 32))) (packed r.cause 0)
      go (turned d) = rw (open-refused sha256 session n t own m s z d, ne_eqb r.cause 0 d)
      go (short-state e a) = rw (open-state sha256 session n t own m s z e a, eq-eqb r.cause 0 e, lt-ltb (length s) state_length a)
      go (short-root e a b) =
          rw (open-root sha256 session n t own m s z e a b, eq-eqb r.cause 0 e, le-ltb (length s) state_length a, lt-ltb (length z) 32 b)
      go (taken e a b) =
          rw (open_done sha256 session n t own m s z e a b, eq-eqb r.cause 0 e, le-ltb (length s) state_length a, le-ltb (length z) 32 b)

  -- an opening that was taken
  taken_is : q.number / 2 ^ 32 ≡ 0 → (r.cause ≡ 0) × (state_length ≤ length s) × (32 ≤ length z)
  taken_is e = go (outcome session n t own m s z)
    where
      go : Outcome session n t own m s z → (r.cause ≡ 0) × (state_length ≤ length s) × (32 ≤ length z)
      go (turned d) =
          absurd (d (sym (upper r.cause 0 (omega arith)) ∙ sym (ap (λ (y : Replies). y.number / 2 ^ 32) (open-refused sha256 session n t own m s z d)) ∙ e))
      go (short-state c a) =
          let nine : ◌≡◌ {A = ℕ} 9 0 = sym (upper 9 state_length (omega arith)) ∙ sym (ap (λ (y : Replies). y.number / 2 ^ 32) (open-state sha256 session n t own m s z c a)) ∙ e in
          absurd (omega arith)
      go (short-root c a b) =
          let nine : ◌≡◌ {A = ℕ} 9 0 = sym (upper 9 32 (omega arith)) ∙ sym (ap (λ (y : Replies). y.number / 2 ^ 32) (open-root sha256 session n t own m s z c a b)) ∙ e in
          absurd (omega arith)
      go (taken c a b) = (c, a, b)

  opening-kept : q.number ≢ packed 0 32 → (q.state ≡ s) × (q.out ≡ z)
  opening-kept d = go (outcome session n t own m s z)
    where
      go : Outcome session n t own m s z → (q.state ≡ s) × (q.out ≡ z)
      go (turned c) = rw (open-refused sha256 session n t own m s z c) (refl, refl)
      go (short-state c a) = rw (open-state sha256 session n t own m s z c a) (refl, refl)
      go (short-root c a b) = rw (open-root sha256 session n t own m s z c a b) (refl, refl)
      go (taken c a b) = absurd (d (ap (λ (y : Replies). y.number) (open_done sha256 session n t own m s z c a b)))

  pub opening-written : q.number / 2 ^ 32 ≡ 0
      → (q.state ≡ (written (state_bytes r.state) s).buffer) × (q.out ≡ (written r.root z).buffer)
      × (FourBytes session → state_of q.state ≡ r.state)
  opening-written e =
      let a = taken_is e in
      let o = open_done sha256 session n t own m s z a.0 a.1 a.2 in
      (ap (λ (y : Replies). y.state) o, ap (λ (y : Replies). y.out) o, λ four. open_kept sha256 session n t own m s z four a.0 a.1 a.2)

  host-opening-tells : HostOpeningTells session s z r q
  host-opening-tells =
      record {
        number = number-told;
        refused = opening-kept;
        accepted = λ e. opening-written (ap (λ (k : ℕ). k / 2 ^ 32) e ∙ upper 0 32 (omega arith));
      }

  -- the root that it wrote
  pub root-length : r.cause ≡ 0 → length r.root ≡ 32
  unfolding message_root
  root-length c =
      let o = opened-is sha256 session n t own m c in
      ap (λ (y : Opened). length y.root) o.1
      ∙ length-root sha256 sha256-length session n (shares n (n - t) m) (fine n t m (open-coded n t own m o.0) session)

  root-given : q.number / 2 ^ 32 ≡ 0 → take 32 q.out ≡ r.root
  unfolding written
  root-given e =
      let a = taken_is e in
      let w = root-length a.0 in
      let fits : length r.root ≤ length z = omega (arith, w, a.2) in
      let out : q.out ≡ spliced z 0 r.root = (opening-written e).1 ∙ rw (le-ltb (length z) (length r.root) fits) in
      ap (take 32) out ∙ ap (λ (k : ℕ). take k (spliced z 0 r.root)) (sym w) ∙ take-spliced z r.root

pub every-call-tells-its-outcome : EveryCallTellsItsOutcome
every-call-tells-its-outcome =
    record {
      opening = opening-tells;
      step = step-tells;
      host-opening = host-opening-tells;
      host-step = host-step-tells;
      shares = shares-told;
      rebuild = rebuild-told;
      hash = hash-told;
      path-length = length-told;
      check = check-told;
      check-yes = check-yes;
      packet = packet-told;
    }

-- an accepted call, as a host sees it
module _ (s : List ℕ) where
  abbrev x : Party
  x = state_of s

  -- its number is its value
  pub number-value : (r : Stepped) → r.cause ≡ 0 → number_of r ≡ value_shown r.result r.faulty r.value
  unfolding packed
  number-value r e = rw e (omega arith)

  number-plain : (c : Call) → (made sha256 x c).cause ≡ 0 → (made sha256 x c).result ≡ none → (called sha256 s c).number ≡ (made sha256 x c).value
  number-plain c e q =
      called-number s c ∙ number-value (made sha256 x c) e ∙ ap (λ (r : Option Result). value_shown r (made sha256 x c).faulty (made sha256 x c).value) q

  ended-seen : (inbox out : List ℕ) (R : Result) (f : ℕ) (r : Replies) → r.number ≡ value_shown (some R) f 0 → result_length_call r.state ≡ length_of R
      → r.out ≡ (ended_with x.seat R f out).buffer
      → cond (eqb (r.number % 2) 0) nothing (settled (take (result_length_call r.state) r.out)) ≡ R
  unfolding packed
  ended-seen inbox out nothing f r a b c =
      let even : r.number % 2 ≡ 0 = omega (arith, a) in
      rw even
  ended-seen inbox out (settled m) f r a b c =
      let odd : r.number % 2 ≡ 1 = omega (arith, a) in
      let l : result_length_call r.state ≡ length m = b ∙ omega arith in
      rw (odd, l, c) (ap settled (take-spliced out m))

  seen-view : (c : Call) → (made sha256 x c).cause ≡ 0 → act_seen c (called sha256 s c) ≡ view (event sha256 x c)
  seen-view (agree_root z) e =
      rw (number-plain (agree_root z) e (ap (λ (r : Stepped). r.result) (did2 sha256 x z e).1))
  seen-view (agree_bit bit out) e =
      rw (number-plain (agree_bit bit out) e (ap (λ (r : Stepped). r.result) (did3 sha256 x bit out e).2), called-out s (agree_bit bit out))
  seen-view (take_shares inbox out) e =
      rw (number-plain (take_shares inbox out) e (ap (λ (r : Stepped). r.result) (did4 sha256 x inbox out e).1), called-out s (take_shares inbox out))
  seen-view (take_relays inbox out) e =
      let R = result_of sha256 x inbox in
      let c = take_relays inbox out in
      let d = (did5 sha256 x inbox out e).1 in
      let shown : (made sha256 x c).result ≡ some R = ap (λ (r : Stepped). r.result) d in
      ap {B = Act} (λ (q : Result). ended inbox (some q))
      (ended-seen inbox out R (faulty_of sha256 x inbox) (called sha256 s c)
      (called-number s c ∙ number-value (made sha256 x c) e
      ∙ told R (made sha256 x c).result (made sha256 x c).faulty (faulty_of sha256 x inbox) (made sha256 x c).value shown (ap (λ (r : Stepped). r.faulty) d))
      (length-kept sha256 s inbox out e) (called-out s c ∙ ap (λ (r : Stepped). r.buffer) d))
      ∙ ap {B = Act} (ended inbox) (sym shown)
    where
      told : (R : Result) (o : Option Result) (f g v : ℕ) → o ≡ some R → f ≡ g → value_shown o f v ≡ value_shown (some R) g 0
      told nothing o f g v q k = ap₂ {C = ℕ} (λ (r : Option Result) (i : ℕ). value_shown r i v) q k
      told (settled m) o f g v q k = ap₂ {C = ℕ} (λ (r : Option Result) (i : ℕ). value_shown r i v) q k

-- and a list of calls
pub seen_all : (s : List ℕ) (cs : List Call) → acts_seen s cs ≡ map view (accepted (events sha256 (state_of s) cs))
unfolding acts_seen accepted events
seen_all s [] = refl
seen_all s (c ∷ cs) =
    go (way (eqb (made sha256 (state_of s) c).cause 0))
    (seen_all (called sha256 s c).state cs ∙ ap (λ (y : Party). map view (accepted (events sha256 y cs))) (call_kept sha256 s c))
  where
    rest : List Event
    rest = accepted (events sha256 (made sha256 (state_of s) c).state cs)

    below : (made sha256 (state_of s) c).cause ≡ 0 → ltb (called sha256 s c).number (2 ^ 32) ≡ true
    below e =
        lt-ltb (called sha256 s c).number (2 ^ 32)
        (omega (arith, e, called-number s c, (call-halves sha256 sha256-length (state_of s) c).0))

    above : (made sha256 (state_of s) c).cause ≢ 0 → ltb (called sha256 s c).number (2 ^ 32) ≡ false
    above d =
        le-ltb (called sha256 s c).number (2 ^ 32)
        (omega (arith, d, called-number s c, (call-halves sha256 sha256-length (state_of s) c).0))

    go : Way (eqb (made sha256 (state_of s) c).cause 0)
        → acts_seen (called sha256 s c).state cs ≡ map view (accepted (events sha256 (made sha256 (state_of s) c).state cs))
        → cond (ltb (called sha256 s c).number (2 ^ 32)) (act_seen c (called sha256 s c) ∷ acts_seen (called sha256 s c).state cs)
        (acts_seen (called sha256 s c).state cs)
        ≡ map view (cond (eqb (made sha256 (state_of s) c).cause 0)
        (event sha256 (state_of s) c ∷ accepted (events sha256 (made sha256 (state_of s) c).state cs))
        (accepted (events sha256 (made sha256 (state_of s) c).state cs)))
    go (on y) r =
        let e = eqb-true (made sha256 (state_of s) c).cause 0 y in
        rw (y, below e) (ap₂ (λ (d : Act) (ds : List Act). d ∷ ds) (seen-view s c e) r)
    go (off y) r = rw (y, above (eqb-false (made sha256 (state_of s) c).cause 0 y)) r

pub box-same : (session n t : ℕ) → FourBytes session → (h : Host) → (host_box session n t h).cause ≡ 0 → host_box session n t h ≡ party_box session n t (party_of h)
unfolding did
box-same session n t four h e =
    let own = h.own in
    let m = h.book in
    let q = open_call sha256 session n t own m h.state_room h.root_room in
    let says = (opening-written session n t own m h.state_room h.root_room e).2 four in
    boxes (e ∙ sym (taken_is session n t own m h.state_room h.root_room e).0) (root-given session n t own m h.state_room h.root_room e)
    (seen_all q.state h.calls ∙ ap (λ (y : Party). map view (accepted (events sha256 y h.calls))) says)
    (ap result_in (calls-kept sha256 q.state h.calls ∙ ap (λ (y : Party). final sha256 y h.calls) says))
  where
    boxes : {i : ℕ} {b : List ℕ} {k l : ℕ} {z y : List ℕ} {as1 as2 : List Act} {q r : Option Result} {ss us ts : List (List ℕ)} → k ≡ l → z ≡ y
        → as1 ≡ as2 → q ≡ r
        → ◌≡◌ {A = Box} (record { own = i; book = b; cause = k; root = z; acts = as1; result = q; opened_and_checked = ss; judged = us; recoded = ts })
        (record { own = i; book = b; cause = l; root = y; acts = as2; result = r; opened_and_checked = ss; judged = us; recoded = ts })
    boxes a b c d = rw (a, b, c, d)

-- every good box is a party, seen as one
pub either_same : (session n t : ℕ) → FourBytes session → (g : Good ⊎ Host) → (box_of session n t g).cause ≡ 0 → box_of session n t g ≡ party_box session n t (party g)
either_same session n t four (inl A) e = refl
either_same session n t four (inr h) e = box-same session n t four h e

pub boxes-same : (session n t : ℕ) → FourBytes session → (good : List (Good ⊎ Host)) → ((g : Good ⊎ Host) → Memᴰ g good → (box_of session n t g).cause ≡ 0)
    → map (box_of session n t) good ≡ map (party_box session n t) (map party good)
boxes-same session n t four good opened =
    map_same (box_of session n t) (λ (g : Good ⊎ Host). party_box session n t (party g)) good (λ g i. either_same session n t four g (opened g i))
    ∙ sym (map-map party (party_box session n t) good)

pub hosts-read : (session n t : ℕ) (good : List (Good ⊎ Host)) (z : List ℕ) (bit : ℕ) → FourBytes session → Sitting n t (map (box_of session n t) good) z bit
    → EveryReaderGetsIt n t (map (box_of session n t) good) z bit
hosts-read session n t good z bit four P =
    let same = boxes-same session n t four good (λ g i. (P.opened (box_of session n t g) (in_map (box_of session n t) i)).0) in
    subst (λ (boxes : List Box). EveryReaderGetsIt n t boxes z bit) (sym same)
    (every-reader-gets-it session n t (map party good) z bit (subst (λ (boxes : List Box). Sitting n t boxes z bit) same P))

pub all-good-hosts-end-with-one-result : AllGoodHostsEndWithOneResult
all-good-hosts-end-with-one-result session four n t good z bit P = let r = hosts-read session n t good z bit four P in (r.0, r.1)
