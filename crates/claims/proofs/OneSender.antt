-- One sends, all settle: from `agreement`'s broadcast at SHA-256. A box that opened by a sender is a party of demand 3 that opened with the book it read, seen
-- as one; and a host is such a party. Assumes nothing.
use mathlib.Core.Path.{◌≡◌, refl, sym, ap, ap₂, ◌∙◌, subst}
use mathlib.Core.Logic.{◌⊎◌, inl, inr, ◌≢◌}
use mathlib.Core.Bool.{Bool, true, false, cond, not}
use mathlib.Core.List.{List, [], ◌∷◌, map, Memᴰ}
use mathlib.Core.Option.{Option}
use Prim.Native.Nat.{ℕ, ◌+◌, ◌-◌, ◌*◌, ◌/◌, ◌%◌, ◌^◌, ◌≤◌, ◌<◌}
use native.Mathlib.Decide.{ℕ_discrete, dec_lt}
use native.Mathlib.Omega.{arith}
use borrow.Author.Tests.{eq-eqb, ne_eqb, lt-ltb, le-ltb}
use lib.Dec.{leb, ltb, eqb}
use lib.ListN.{length, take, length-map}
use Rattle.limits.specs.Limits.{max_message, parties, numbered, group_cause}
use Rattle.buffer.specs.Splice.{spliced}
use Rattle.buffer.specs.Given.{Given, written}
use Rattle.buffer.proofs.Given.{written-done}
use Rattle.buffer.proofs.Splice.{take-spliced}
use Rattle.sha256.specs.Sha256.{sha256}
use Rattle.packet.specs.Message.{message_packet, read_message, unreadable as nothing_read}
use Rattle.packet.proofs.Messages.{read-other, message-read, read-message, read_length, message-no-share}
use Rattle.party.specs.State.{Result, settled, result_in}
use Rattle.party.specs.Steps.{open_of, refused_opening}
use Rattle.party.specs.Sender.{message_by, packet_by, sender_cause, Begun, open_by_sender_of}
use Rattle.party.specs.Answer.{Opened}
use Rattle.party.specs.declared.Party.{Party}
use Rattle.party.proofs.Outcomes.{open-given}
use Rattle.party.proofs.Sender.{cause-bounds, begun-refused, begun-short, begun-given, accepted-fits, accepted-opens, cause-small, value-fits}
use Rattle.agreement.specs.Calls.{Event, accepted, events, final, did, opened_and_checked, judged, recoded}
use Rattle.agreement.specs.Agreement.{Good, different, absent}
use Rattle.agreement.specs.Agreement as agreement
use Rattle.agreement.specs.Broadcast.{Opener as Begins, party_of as party_in, gave, sent_in_all}
use Rattle.agreement.specs.Broadcast as broadcast
use Rattle.agreement.proofs.Mapped.{in_map, all_map, map-map, sum-map, map_same}
use Rattle.agreement.proofs.Broadcast.{broadcast-sha256}
use Rattle.state_bytes.specs.Layout.{state_length, state_bytes, state_of}
use Rattle.capi.specs.Calls.{packed, Replies, Opens, opens, open_by_sender_call}
use Rattle.capi.proofs.Answers.{open_done, sender-refused, sender-state, sender-root, sender-short, sender-done}
use Rattle.capi.proofs.Kept.{open_kept, calls-kept}
use Rattle.claims.specs.Terms.{FourBytes, Act, when, foremost, group_then, Box, act_of, party_box, OpenedBox, opener_party, SenderHost, opener_host, opener_of}
use Rattle.claims.specs.Claims.{Sitting, OneResult, bytes_sent}
use Rattle.claims.specs.OneSender.{OpensBySender, SenderSitting, bytes_in_all, SendersBook, AllSettle, OneSendsAllSettle}
use Rattle.claims.proofs.Parties.{view, premises, bytes, conclusions}
use Rattle.claims.proofs.Hosts.{upper, root-length, seen_all}

-- the opening
module _ (session n t own q : ℕ) (bs out : List ℕ) where
  abbrev m : List ℕ
  m = message_by own q bs

  abbrev p : List ℕ
  p = packet_by n own q bs

  abbrev r : Begun
  r = open_by_sender_of sha256 session n t own q bs out

  abbrev k : ℕ
  k = sender_cause n t own q bs

  -- its causes, listed
  listed : k ≡ group_then n t (when 3 (not (numbered n own)) ∷ when 3 (not (numbered n q)) ∷ when 4 (ltb max_message (length m)) ∷ [])
  unfolding sender_cause group_cause foremost
  listed = go (not (parties n)) (leb n (2 * t)) (not (numbered n own)) (not (numbered n q)) (ltb max_message (length m))
    where
      go : (a b c d e : Bool) → let g : ℕ = cond a 1 (cond b 2 0) in
          cond (not (eqb g 0)) g (cond c 3 (cond d 3 (cond e 4 0))) ≡ foremost (when 1 a ∷ when 2 b ∷ when 3 c ∷ when 3 d ∷ when 4 e ∷ [])
      go true b c d e = refl
      go false true c d e = refl
      go false false true d e = refl
      go false false false true e = refl
      go false false false false true = refl
      go false false false false false = refl

  fits : k ≡ 0 → length p ≤ length out → r ≡ record { opened = open_of sha256 session n t own m; value = length p; buffer = spliced out 0 p }
  fits f l = begun-given n t own q bs sha256 session out f l

  opens-none : k ≡ 0 → (open_of sha256 session n t own m).cause ≡ 0
  opens-none f = ap (λ (o : Opened). o.cause) (open-given sha256 session n t own m (cause-bounds n t own q bs f).0)

  -- with cause 9 behind them
  cause-is : r.opened.cause ≡ cond (eqb k 0) (when 9 (ltb (length out) (length p))) k
  cause-is = elim (ℕ_discrete k 0) [
    | yes f ↦ elim (dec_lt (length out) (length p)) [
      | yes l ↦ ap (λ (b : Begun). b.opened.cause) (begun-short n t own q bs sha256 session out f l)
          ∙ sym (rw (eq-eqb k 0 f, lt-ltb (length out) (length p) l))
      | no d ↦ ap (λ (b : Begun). b.opened.cause) (fits f (omega arith)) ∙ opens-none f
          ∙ sym (rw (eq-eqb k 0 f, le-ltb (length out) (length p) (omega arith)))
    ]
    | no d ↦ ap (λ (b : Begun). b.opened.cause) (begun-refused n t own q bs sha256 session out d) ∙ sym (rw (ne_eqb k 0 d))
  ]

  last : (a b c d e f : Bool) → let g = foremost (when 1 a ∷ when 2 b ∷ when 3 c ∷ when 3 d ∷ when 4 e ∷ []) in
      cond (eqb g 0) (when 9 f) g ≡ foremost (when 1 a ∷ when 2 b ∷ when 3 c ∷ when 3 d ∷ when 4 e ∷ when 9 f ∷ [])
  unfolding foremost
  last true b c d e f = refl
  last false true c d e f = refl
  last false false true d e f = refl
  last false false false true e f = refl
  last false false false false true f = refl
  last false false false false false true = refl
  last false false false false false false = refl

  opening-told : OpensBySender session n t own q out m p r
  opening-told =
      record {
        cause = cause-is ∙ ap (λ (g : ℕ). cond (eqb g 0) (when 9 (ltb (length out) (length p))) g) listed
            ∙ last (not (parties n)) (leb n (2 * t)) (not (numbered n own)) (not (numbered n q)) (ltb max_message (length m)) (ltb (length out) (length p));
        refused = turned;
        accepted = taken;
      }
    where
      turned : r.opened.cause ≢ 0
          → (r.opened ≡ refused_opening r.opened.cause) × (r.value ≡ cond (eqb r.opened.cause 9) (length p) 0) × (r.buffer ≡ out)
      turned d = elim (ℕ_discrete k 0) [
        | yes f ↦ elim (dec_lt (length out) (length p)) [
          | yes l ↦ rw (begun-short n t own q bs sha256 session out f l) (refl, refl, refl)
          | no g ↦ absurd (d (ap (λ (b : Begun). b.opened.cause) (fits f (omega arith)) ∙ opens-none f))
        ]
        | no g ↦ rw (begun-refused n t own q bs sha256 session out g) (refl, sym (rw (ne_eqb k 9 (λ e. omega (arith, cause-small n t own q bs)))), refl)
      ]

      taken : r.opened.cause ≡ 0 → (r.opened ≡ open_of sha256 session n t own m) × (r.value ≡ length p) × (r.buffer ≡ spliced out 0 p)
      taken e =
          let f = accepted-fits n t own q bs sha256 session out e in
          let g = fits f.0 f.1 in
          (ap (λ (b : Begun). b.opened) g, ap (λ (b : Begun). b.value) g, ap (λ (b : Begun). b.buffer) g)

-- a party that opened by a sender is one that opened with the book that it read
module _ (session n t : ℕ) (A : Begins) where
  abbrev seen_from : Opened → Box
  seen_from o =
      record {
        own = A.own;
        book = (party_in A).message;
        cause = o.cause;
        root = o.root;
        acts = map (λ (e : Event). act_of e.call e.reply) (accepted (events sha256 o.state A.calls));
        result = result_in (final sha256 o.state A.calls);
        opened_and_checked = opened_and_checked sha256 session n t A.own (party_in A).message A.calls;
        judged = judged sha256 session n t A.own (party_in A).message A.calls;
        recoded = recoded sha256 session n t A.own (party_in A).message A.calls;
      }

  party-same : (opener_party session n t A).box.cause ≡ 0 → (opener_party session n t A).box ≡ party_box session n t (party_in A)
  unfolding did
  party-same e = ap seen_from (accepted-opens n t A.own A.sender A.bytes sha256 session A.out e)

-- all good boxes, as such parties
module _ (session n t : ℕ) (good : List Begins) (q : ℕ) (z : List ℕ) (bit : ℕ) (P : SenderSitting n t (map (opener_party session n t) good) q z bit) where
  abbrev ones : List Good
  ones = map party_in good

  abbrev boxes_of : List OpenedBox → List Box
  boxes_of = map (λ (A : OpenedBox). A.box)

  opened : (A : Begins) → Memᴰ A good → (opener_party session n t A).box.cause ≡ 0
  opened A h = (P.sitting.opened (opener_party session n t A).box (in_map (λ (B : OpenedBox). B.box) (in_map (opener_party session n t) h))).0

  same : boxes_of (map (opener_party session n t) good) ≡ map (party_box session n t) ones
  same =
      map-map (opener_party session n t) (λ (B : OpenedBox). B.box) good
      ∙ map_same (λ (A : Begins). (opener_party session n t A).box) (λ (A : Begins). party_box session n t (party_in A)) good (λ A h. party-same session n t A (opened A h))
      ∙ sym (map-map party_in (party_box session n t) good)

  sits : Sitting n t (map (party_box session n t) ones) z bit
  sits = subst (λ (l : List Box). Sitting n t l z bit) same P.sitting

  supposed : broadcast.Premises sha256 session n t good q z bit
  supposed =
      let Q = premises session n t ones z bit sits in
      let numbers : map (λ (A : Good). A.own) ones ≡ map (λ (A : Begins). A.own) good = map-map party_in (λ (A : Good). A.own) good in
      record {
        opened = record {
          accepted = opened;
          named = λ A h. P.named (opener_party session n t A) (in_map (opener_party session n t) h);
          bytes = λ A h. Q.opened.bytes (party_in A) (in_map party_in h);
          delivered = λ S hS e A h d. P.delivered (opener_party session n t S) (opener_party session n t A) (in_map (opener_party session n t) hS) (in_map (opener_party session n t) h) e d;
          apart = ap different (sym numbers) ∙ Q.opened.apart;
          bad = subst (λ (l : List ℕ). absent n 1 l ≤ t) numbers Q.opened.bad;
        };
        called = Q.called;
        ruled = Q.ruled;
        delivered = Q.delivered;
        clean = Q.clean;
      }

  -- the bytes
  later_same : bytes_sent n t (boxes_of (map (opener_party session n t) good)) z bit ≡ agreement.sent sha256 session n t ones
  later_same = ap (λ (l : List Box). bytes_sent n t l z bit) same ∙ bytes session n t ones z bit sits

  bytes_same : bytes_in_all n t (map (opener_party session n t) good) q z bit ≡ sent_in_all sha256 session n t good
  bytes_same =
      ap₂ (λ (a b : ℕ). a + b)
      (sum-map (opener_party session n t) (λ (A : OpenedBox). (n - 1) * length A.packet) (λ (A : Begins). (n - 1) * length (gave sha256 session n t good A)) (λ A. refl) good)
      later_same

  parties-settle : (R : Result) × SendersBook n t (map (opener_party session n t) good) q z bit R
  parties-settle =
      let a = broadcast-sha256 session n t good q z bit supposed in
      let R = a.0 in
      let S = a.1 in (
        R,
        record {
          one = subst (λ (l : List Box). OneResult n t l z bit R) (sym same) (conclusions session n t ones z bit sits R S.agreed);
          senders = all_map (opener_party session n t) (λ (B : OpenedBox). B.box.own ≡ q → R ≡ settled B.handed) good S.senders;
          bound = λ m e. rw (bytes_same, length-map good (opener_party session n t)) (S.bound m e);
          bad-sender = λ d. bytes_same ∙ S.bound-bad (λ A h. d (opener_party session n t A) (in_map (opener_party session n t) h)) ∙ sym later_same;
        },
      )

-- the value in an accepted call's number
lower : (v : ℕ) → v < 2 ^ 32 → packed 0 v % 2 ^ 32 ≡ v
unfolding packed
lower v h = omega (arith, h)

-- a host that opened by a sender is such a party
abbrev begins_of : SenderHost → Begins
begins_of h = record { own = h.own; sender = h.sender; bytes = h.handed; out = h.packet_room; calls = h.calls }

module _ (session n t : ℕ) (four : FourBytes session) (h : SenderHost) where
  abbrev s : List ℕ
  s = h.state_room

  abbrev w : List ℕ
  w = h.root_room

  abbrev b : Begun
  b = open_by_sender_of sha256 session n t h.own h.sender h.handed h.packet_room

  abbrev Q : Opens
  Q = open_by_sender_call sha256 session n t h.own h.sender h.handed s w h.packet_room

  small : b.value < 2 ^ 32
  small = omega (arith, value-fits n t h.own h.sender h.handed sha256 session h.packet_room)

  -- its opening was taken, and there was room for all that it writes
  pub host-taken : Q.number / 2 ^ 32 ≡ 0 → (b.opened.cause ≡ 0) × (state_length ≤ length s) × (32 ≤ length w)
      × (Q ≡ opens (packed 0 b.value) (written (state_bytes b.opened.state) s).buffer (written b.opened.root w).buffer b.buffer)
  host-taken e = elim (ℕ_discrete c 0) [
    | no d ↦ absurd (d (told c 0 (omega arith) (sender-refused sha256 session n t h.own h.sender h.handed s w h.packet_room d)))
    | yes f ↦ elim (dec_lt (length s) state_length) [
      | yes l ↦ absurd (let z : ◌≡◌ {A = ℕ} 9 0 =
          told 9 state_length (omega arith) (sender-state sha256 session n t h.own h.sender h.handed s w h.packet_room f l) in omega arith)
      | no a ↦ elim (dec_lt (length w) 32) [
        | yes l ↦ absurd (let z : ◌≡◌ {A = ℕ} 9 0 =
            told 9 32 (omega arith) (sender-root sha256 session n t h.own h.sender h.handed s w h.packet_room f (omega arith) l) in omega arith)
        | no g ↦ elim (ℕ_discrete b.opened.cause 0) [
          | no d ↦ absurd (d (told b.opened.cause b.value small
              (sender-short sha256 session n t h.own h.sender h.handed s w h.packet_room f (omega arith) (omega arith) d)))
          | yes k ↦ (k, omega arith, omega arith, sender-done sha256 session n t h.own h.sender h.handed s w h.packet_room f (omega arith) (omega arith) k)
        ]
      ]
    ]
  ]
    where
      c : ℕ
      c = sender_cause n t h.own h.sender h.handed

      told : (k v : ℕ) → v < 2 ^ 32 → {x y z : List ℕ} → Q ≡ opens (packed k v) x y z → k ≡ 0
      told k v l q = sym (upper k v l) ∙ sym (ap (λ (y : Opens). y.number / 2 ^ 32) q) ∙ e

  -- the bytes then say the state that the opening gave
  pub opener-kept : Q.number / 2 ^ 32 ≡ 0 → state_of Q.state ≡ b.opened.state
  opener-kept e =
      let a = host-taken e in
      let own = h.own in
      let m = message_by own h.sender h.handed in
      let opens_as = accepted-opens n t own h.sender h.handed sha256 session h.packet_room a.0 in
      let none : (open_of sha256 session n t own m).cause ≡ 0 = sym (ap (λ (o : Opened). o.cause) opens_as) ∙ a.0 in
      ap (λ (y : Opens). state_of y.state) a.3
      ∙ ap (λ (o : Opened). state_of (written (state_bytes o.state) s).buffer) opens_as
      ∙ sym (ap (λ (y : Replies). state_of y.state) (open_done sha256 session n t own m s w none a.1 a.2))
      ∙ open_kept sha256 session n t own m s w four none a.1 a.2 ∙ sym (ap (λ (o : Opened). o.state) opens_as)

  host-same : Q.number / 2 ^ 32 ≡ 0 → opener_host session n t h ≡ opener_party session n t (begins_of h)
  unfolding written
  host-same e =
      let a = host-taken e in
      let own = h.own in
      let m = message_by own h.sender h.handed in
      let opens_as = accepted-opens n t own h.sender h.handed sha256 session h.packet_room a.0 in
      let none : (open_of sha256 session n t own m).cause ≡ 0 = sym (ap (λ (o : Opened). o.cause) opens_as) ∙ a.0 in
      let wide : length b.opened.root ≡ 32 = ap (λ (o : Opened). length o.root) opens_as ∙ root-length session n t own m s w none in
      let kept = opener-kept e in
      let root : take 32 Q.root ≡ b.opened.root =
      ap (λ (y : Opens). take 32 y.root) a.3
      ∙ ap (λ (g : Given). take 32 g.buffer) (written-done b.opened.root w (omega (arith, wide, a.2)))
      ∙ ap (λ (k : ℕ). take k (spliced w 0 b.opened.root)) (sym wide) ∙ take-spliced w b.opened.root in
      openers (e ∙ sym a.0) root
      (seen_all Q.state h.calls ∙ ap (λ (y : Party). map view (accepted (events sha256 y h.calls))) kept)
      (ap result_in (calls-kept sha256 Q.state h.calls ∙ ap (λ (y : Party). final sha256 y h.calls) kept))
      (ap (λ (y : Opens). take (y.number % 2 ^ 32) y.out) a.3 ∙ ap (λ (k : ℕ). take k b.buffer) (lower b.value small))
    where
      openers : {i j : ℕ} {x y : List ℕ} {k l : ℕ} {z u : List ℕ} {as1 as2 : List Act} {q r : Option Result} {ss us ts : List (List ℕ)} {p o : List ℕ} → k ≡ l
          → z ≡ u → as1 ≡ as2 → q ≡ r → p ≡ o
          → ◌≡◌ {A = OpenedBox}
          (record {
            box = record { own = i; book = x; cause = k; root = z; acts = as1; result = q; opened_and_checked = ss; judged = us; recoded = ts };
            sender = j;
            handed = y;
            packet = p;
          })
          (record {
            box = record { own = i; book = x; cause = l; root = u; acts = as2; result = r; opened_and_checked = ss; judged = us; recoded = ts };
            sender = j;
            handed = y;
            packet = o;
          })
      openers a b c d e = rw (a, b, c, d, e)

-- and any good box
abbrev begins : Begins ⊎ SenderHost → Begins
begins (inl A) = A
begins (inr h) = begins_of h

either_same : (session n t : ℕ) → FourBytes session → (g : Begins ⊎ SenderHost) → (opener_of session n t g).box.cause ≡ 0 → opener_of session n t g ≡ opener_party session n t (begins g)
either_same session n t four (inl A) e = refl
either_same session n t four (inr h) e = host-same session n t four h e

all-settle : (session : ℕ) → FourBytes session → AllSettle (opener_of session)
all-settle session four n t good q z bit P =
    let opened : (g : Begins ⊎ SenderHost) → Memᴰ g good → (opener_of session n t g).box.cause ≡ 0 =
    (λ g i. (P.sitting.opened (opener_of session n t g).box (in_map (λ (B : OpenedBox). B.box) (in_map (opener_of session n t) i))).0) in
    let same : map (opener_of session n t) good ≡ map (opener_party session n t) (map begins good) =
    map_same (opener_of session n t) (λ (g : Begins ⊎ SenderHost). opener_party session n t (begins g)) good (λ g i. either_same session n t four g (opened g i))
    ∙ sym (map-map begins (opener_party session n t) good) in
    subst (λ (l : List OpenedBox). (R : Result) × SendersBook n t l q z bit R) (sym same)
    (parties-settle session n t (map begins good) q z bit (subst (λ (l : List OpenedBox). SenderSitting n t l q z bit) same P))

-- a packet of map 7, a share's, is not read as a book's
no-book : (r : List ℕ) → read_message (0x07 ∷ r) ≡ nothing_read
no-book r = read-other (0x07 ∷ r) (omega arith) (λ e. omega arith) (λ e. omega arith)

pub one-sends-all-settle : OneSendsAllSettle
unfolding message_packet
one-sends-all-settle =
    record {
      read = message-read;
      one_form = λ p m h e. (read-message p m h e, read_length p m e);
      neither = λ n m r. (message-no-share n m, no-book r);
      opening = opening-told;
      sittings = all-settle;
    }
