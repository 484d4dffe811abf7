-- No good box is seen to cheat: from the laws of the maps and from `agreement` Faulty at SHA-256, whose premises are told there by events. A host's maps are
-- those of its party. Assumes nothing.
use mathlib.Core.Path.{◌≡◌, refl, sym, ap, ap₂, subst, ◌∙◌}
use mathlib.Core.Logic.{◌⊎◌, inl, inr, ◌≢◌}
use mathlib.Core.Bool.{Bool, true, false, cond, not, ◌&&◌, ◌||◌}
use mathlib.Core.List.Memᴰ
use mathlib.Core.List.{List, [], ◌∷◌, map, Memᴰ}
use mathlib.Core.Option.{Option, none, some}
use Prim.Native.Nat.{ℕ, ◌+◌, ◌*◌, ◌^◌, ◌≤◌, ◌<◌}
use native.Mathlib.Omega.{arith}
use borrow.Author.Tests.{le-ltb}
use lib.Dec.{ltb, eqb}
use lib.ListN.{length, take}
use Rattle.sha256.specs.Sha256.{sha256}
use Rattle.sha256.proofs.Laws.{sha256-length}
use Rattle.limits.specs.Limits.{max_message, max_share, numbered, group_cause}
use Rattle.merkle.specs.Shares.{passes}
use Rattle.packet.specs.Format.{Reading, silence, unreadable, shared, read_of}
use Rattle.packet.specs.Class.{valid, faulty, judged, class_of}
use Rattle.commitment.specs.declared.Seat.{Seat}
use Rattle.commitment.proofs.Opening.{open-bounds}
use Rattle.party.specs.State.{Result, nothing, settled, message_in, has_ended, at_bit, at_first, at_second, at_end, stray, overlong, broken}
use Rattle.party.specs.Steps.{open_of, entry, is_faulty, sent_faulty, faulty_in, faulty_of, Stepped}
use Rattle.party.specs.declared.Party.{Party}
use Rattle.party.specs.declared.Stage.TheVariants.{Second}
use Rattle.party.proofs.Causes.{fit_of}
use Rattle.party.proofs.Faulty.{shares-name, relays-name}
use Rattle.party.proofs.Sender.{accepted-opens}
use Rattle.agreement.specs.Calls.{Call, agree_root, agree_bit, take_shares, take_relays, step_of, inbox_in, Event, heard, wrote, packet_to, made, events, opening, did}
use Rattle.agreement.specs.Calls as calls
use Rattle.agreement.specs.Agreement.{Good}
use Rattle.agreement.specs.Agreement as agreed
use Rattle.agreement.specs.Faulty.{Premises, Unnamed, member_of}
use Rattle.agreement.specs.Faulty as theirs
use Rattle.agreement.proofs.Mapped.{in_map, all_map}
use Rattle.agreement.proofs.Lists.{first-in}
use Rattle.agreement.proofs.Ran.{opened-is}
use Rattle.agreement.proofs.Faulty.{begun-empty, awaited, no-good-named, no-good-named-in-agreement}
use Rattle.state_bytes.specs.Layout.{state_of}
use Rattle.capi.specs.Calls.{packed, value_shown, open_call, called, faulty_call}
use Rattle.capi.proofs.Asked.{unbroken}
use Rattle.capi.proofs.Kept.{call_kept}
use Rattle.claims.specs.Terms.{foremost, next, FourBytes, Act, rooted, relayed, ended, first, Host, Box, act_of, party_box, box_of, party}
use Rattle.claims.specs.Claims.{Sitting}
use Rattle.claims.specs.SeenToCheat.{saw, cheats, cheated_in, maps_held, maps_kept, maps_of, Member, outbox_in, relay_in, Linked, NoneSeen, bit0, NoGoodBoxIsSeenToCheat}
use Rattle.claims.proofs.Steps.{step-tells}
use Rattle.claims.proofs.Parties.{view, seen, view_first, premises}
use Rattle.claims.proofs.Hosts.{called-number, number-value, either_same, boxes-same, opening-written}

-- a packet is a cheat's exactly if its class is faulty
cheats-class : (session n number : ℕ) (z : List ℕ) (r : Reading) → is_faulty (judged sha256 session n number z r) ≡ cheats session n number z r
cheats-class session n number z silence = refl
cheats-class session n number z unreadable = refl
cheats-class session n number z (shared j x p) = go (eqb j number && passes sha256 session n number x p (length p) z)
  where
    go : (b : Bool) → is_faulty (cond b (valid x p) faulty) ≡ not b
    go true = refl
    go false = refl

cheated-is : (x : Party) (inbox : List ℕ) (number p : ℕ) → faulty_in sha256 x inbox number p ≡ cheated_in x inbox number p
unfolding sent_faulty class_of
cheated-is x inbox number p =
    ap (λ (b : Bool). not (eqb p x.seat.own) && b)
    (cheats-class x.seat.session x.seat.n number x.root (read_of x.seat.n (entry x.seat.n p inbox)))

-- the next state's seat and map
next-seat : (x : Party) (c : Call) → (next x c).seat ≡ x.seat
unfolding at_bit at_first at_second at_end
next-seat x (agree_root z) = refl
next-seat x (agree_bit bit out) = go (eqb bit 0)
  where
    go : (b : Bool) → (cond b (at_end x.seat nothing 0) (at_first x.seat (message_in x) x.root)).seat ≡ x.seat
    go true = refl
    go false = refl
next-seat x (take_shares inbox out) = refl
next-seat x (take_relays inbox out) = refl

early-empty : (x : Party) (c : Call) → step_of c ≢ 4 → step_of c ≢ 5 → (next x c).faulty ≡ 0
unfolding at_bit at_first at_end
early-empty x (agree_root z) a b = refl
early-empty x (agree_bit bit out) a b = go (eqb bit 0)
  where
    go : (b : Bool) → (cond b (at_end x.seat nothing 0) (at_first x.seat (message_in x) x.root)).faulty ≡ 0
    go true = refl
    go false = refl
early-empty x (take_shares inbox out) a b = absurd (a refl)
early-empty x (take_relays inbox out) a b = absurd (b refl)

second-map : (s : Seat) (m z y : List ℕ) (f : ℕ) → (at_second s m z y f).faulty ≡ f
unfolding at_second
second-map s m z y f = refl

end-map : (s : Seat) (r : Result) (f : ℕ) → (at_end s r f).faulty ≡ f
unfolding at_end
end-map s r f = refl

module _ (x : Party) (inbox out : List ℕ) where
  abbrev R : Stepped
  R = made sha256 x (take_relays inbox out)

  ended-map : R.cause ≡ 0 → R.state.faulty ≡ faulty_of sha256 x inbox
  ended-map e = ap (λ (y : Party). y.faulty) ((step-tells x (take_relays inbox out)).accepted e).0 ∙ end-map x.seat _ (faulty_of sha256 x inbox)

  first-saw : (p : ℕ) → let r = made sha256 x (take_shares inbox out) in r.cause ≡ 0 → 1 ≤ p → p ≤ x.seat.n
      → saw r.state.faulty p ≡ cheated_in x inbox x.seat.own p
  first-saw p e a b =
      ap (λ (y : Party). saw y.faulty p) ((step-tells x (take_shares inbox out)).accepted e).0 ∙ ap (λ (f : ℕ). saw f p) (second-map x.seat _ _ _ _)
      ∙ shares-name sha256 x inbox p a b ∙ cheated-is x inbox x.seat.own p

  second-saw : (p : ℕ) → R.cause ≡ 0 → has_ended x.stage ≡ false → 1 ≤ p → p ≤ x.seat.n
      → saw R.state.faulty p ≡ saw x.faulty p || cheated_in x inbox p p
  unfolding faulty_of
  second-saw p e w a b =
      ap (λ (f : ℕ). saw f p) (ended-map e ∙ rw w) ∙ relays-name sha256 x inbox p a b ∙ ap (λ (t : Bool). saw x.faulty p || t) (cheated-is x inbox p p)

  given-map : R.cause ≡ 0 → R.faulty ≡ R.state.faulty
  given-map e = ((step-tells x (take_relays inbox out)).accepted e).4 ∙ sym (ended-map e)

  again-map : R.cause ≡ 0 → has_ended x.stage ≡ true → R.state.faulty ≡ x.faulty
  unfolding faulty_of
  again-map e w = ended-map e ∙ rw w

-- the limit of a map
module _ (x : Party) (c : Call) where
  within-limit : let r = made sha256 x c in r.cause ≡ 0 → (r.state.faulty < 2 ^ x.seat.n) × (saw r.state.faulty x.seat.own ≡ false)
  within-limit e =
      let T = (step-tells x c).accepted e in
      let f = fit_of (made sha256 x c).state T.5 in
      let s = ap (λ (y : Party). y.seat) T.0 ∙ next-seat x c in
      (subst (λ (q : Seat). (made sha256 x c).state.faulty < 2 ^ q.n) s f.named, subst (λ (q : Seat). saw (made sha256 x c).state.faulty q.own ≡ false) s f.others)

  stray-broken : stray x ≡ true → broken x ≡ true
  unfolding broken
  stray-broken h =
      rw h (go (not (eqb (group_cause x.seat.n x.seat.t) 0) || not (numbered x.seat.n x.seat.own) || ltb max_message x.len || ltb max_share x.held))
    where
      go : (b : Bool) → (b || true) || overlong x.stage ≡ true
      go true = refl
      go false = refl

  beyond-limit : (2 ^ x.seat.n ≤ x.faulty) ⊎ (saw x.faulty x.seat.own ≡ true) → (made sha256 x c).cause ≡ 5
  unfolding foremost
  beyond-limit h = (step-tells x c).cause ∙ rw (stray-broken (go h))
    where
      either : (b : Bool) → b || true ≡ true
      either true = refl
      either false = refl

      go : (2 ^ x.seat.n ≤ x.faulty) ⊎ (saw x.faulty x.seat.own ≡ true) → stray x ≡ true
      go (inl l) = rw (le-ltb x.faulty (2 ^ x.seat.n) l)
      go (inr o) = rw o (either (not (ltb x.faulty (2 ^ x.seat.n))))

-- on bytes
host-tells : (s : List ℕ) (c : Call) → let r = made sha256 (state_of s) c in r.cause ≡ 0 → faulty_call (called sha256 s c).state ≡ packed 0 r.state.faulty
unfolding faulty_call
host-tells s c e =
    let r = made sha256 (state_of s) c in
    unbroken (state_of (called sha256 s c).state) _ (ap broken (call_kept sha256 s c) ∙ ((step-tells (state_of s) c).accepted e).5)
    ∙ ap (λ (y : Party). packed 0 y.faulty) (call_kept sha256 s c)

host-gives : (s inbox out : List ℕ) → let r = made sha256 (state_of s) (take_relays inbox out) in r.cause ≡ 0
    → (called sha256 s (take_relays inbox out)).number ≡ 2 * r.state.faulty + bit0 r.result
host-gives s inbox out e =
    let c = take_relays inbox out in
    let x = state_of s in
    let r = made sha256 x c in
    called-number s c ∙ number-value s r e ∙ ap (λ (f : ℕ). value_shown r.result f r.value) (given-map x inbox out e)
    ∙ told r.result _ ((step-tells x c).accepted e).3 r.state.faulty r.value
  where
    told : (o : Option Result) (q : Result) → o ≡ some q → (f v : ℕ) → value_shown o f v ≡ 2 * f + bit0 o
    told o nothing h f v = rw h (omega arith)
    told o (settled m) h f v = rw h

-- all maps of a party: that of its first state, and those after each call
held_all : (Q : ℕ → Type 0) (x : Party) (cs : List Call) → Q x.faulty → ((e : Event) → Memᴰ e (events sha256 x cs) → Q e.reply.state.faulty)
    → (f : ℕ) → Memᴰ f (maps_held x cs) → Q f
unfolding maps_held events
held_all Q x [] q h f k = go (Memᴰ.cases_cons k)
  where
    go : (f ≡ x.faulty) ⊎ Memᴰ f [] → Q f
    go (inl e) = subst Q (sym e) q
    go (inr l) = absurd (Memᴰ.not-nil l)
held_all Q x (c ∷ cs) q h f k =
    go (Memᴰ.cases_cons k)
    (held_all Q (made sha256 x c).state cs (h (record { before = x; call = c; reply = made sha256 x c }) (Memᴰ.head refl)) (λ e l. h e (Memᴰ.tail l)) f)
  where
    go : (f ≡ x.faulty) ⊎ Memᴰ f (maps_held (made sha256 x c).state cs) → (Memᴰ f (maps_held (made sha256 x c).state cs) → Q f) → Q f
    go (inl e) later = subst Q (sym e) q
    go (inr l) later = later l

-- a host's are its party's
kept-held : (s : List ℕ) (cs : List Call) → maps_kept s cs ≡ maps_held (state_of s) cs
unfolding maps_kept maps_held
kept-held s [] = refl
kept-held s (c ∷ cs) =
    ap (λ (l : List ℕ). (state_of s).faulty ∷ l) (kept-held (called sha256 s c).state cs ∙ ap (λ (y : Party). maps_held y cs) (call_kept sha256 s c))

abbrev begun : ℕ → ℕ → ℕ → Good → Party
begun session n t A = (open_of sha256 session n t A.own A.message).state

maps-same : (session n t : ℕ) → FourBytes session → (g : Good ⊎ Host) → (box_of session n t g).cause ≡ 0
    → maps_of session n t g ≡ maps_held (begun session n t (party g)) (party g).calls
maps-same session n t four (inl A) e = refl
maps-same session n t four (inr h) e =
    kept-held (open_call sha256 session n t h.own h.book h.state_room h.root_room).state h.calls
    ∙ ap (λ (y : Party). maps_held y h.calls) ((opening-written session n t h.own h.book h.state_room h.root_room e).2 four)

-- what is told of a good party's events is told of its maps
unseen-in : (session n : ℕ) (good : List theirs.Member) (A B : theirs.Member) → Unnamed sha256 session n good A B → (f : ℕ)
    → Memᴰ f (maps_held (open_of sha256 session n A.t A.own A.message).state A.calls) → saw f B.own ≡ false
unseen-in session n good A B u f k =
    held_all (λ (g : ℕ). saw g B.own ≡ false) _ A.calls u.opened (λ e l. u.after e l) f k

-- what a party wrote, as it is seen
wrote-3 : (o : Option Event) → ((e : Event) → o ≡ some e → step_of e.call ≡ 3) → wrote o ≡ outbox_in (seen o)
wrote-3 none h = refl
wrote-3 (some e) h = go e.call e.reply (h e refl)
  where
    go : (c : Call) (r : Stepped) → step_of c ≡ 3 → take r.value r.buffer ≡ outbox_in (some (act_of c r))
    go (agree_root z) r q = absurd (omega (arith, q))
    go (agree_bit bit out) r q = refl
    go (take_shares inbox out) r q = absurd (omega (arith, q))
    go (take_relays inbox out) r q = absurd (omega (arith, q))

wrote-4 : (o : Option Event) → ((e : Event) → o ≡ some e → step_of e.call ≡ 4) → wrote o ≡ relay_in (seen o)
wrote-4 none h = refl
wrote-4 (some e) h = go e.call e.reply (h e refl)
  where
    go : (c : Call) (r : Stepped) → step_of c ≡ 4 → take r.value r.buffer ≡ relay_in (some (act_of c r))
    go (agree_root z) r q = absurd (omega (arith, q))
    go (agree_bit bit out) r q = absurd (omega (arith, q))
    go (take_shares inbox out) r q = refl
    go (take_relays inbox out) r q = absurd (omega (arith, q))

-- what a call of a step was, as it is seen
seen-2 : (c : Call) (r : Stepped) → step_of c ≡ 2 → (w : List ℕ) × (c ≡ agree_root w) × (act_of c r ≡ rooted w r.value)
seen-2 (agree_root z) r q = (z, refl, refl)
seen-2 (agree_bit bit out) r q = absurd (omega (arith, q))
seen-2 (take_shares inbox out) r q = absurd (omega (arith, q))
seen-2 (take_relays inbox out) r q = absurd (omega (arith, q))

seen-4 : (c : Call) (r : Stepped) → step_of c ≡ 4 → act_of c r ≡ relayed (inbox_in c) (take r.value r.buffer)
seen-4 (agree_root z) r q = absurd (omega (arith, q))
seen-4 (agree_bit bit out) r q = absurd (omega (arith, q))
seen-4 (take_shares inbox out) r q = refl
seen-4 (take_relays inbox out) r q = absurd (omega (arith, q))

seen-5 : (c : Call) (r : Stepped) → step_of c ≡ 5 → act_of c r ≡ ended (inbox_in c) r.result
seen-5 (agree_root z) r q = absurd (omega (arith, q))
seen-5 (agree_bit bit out) r q = absurd (omega (arith, q))
seen-5 (take_shares inbox out) r q = absurd (omega (arith, q))
seen-5 (take_relays inbox out) r q = refl

-- a good box as the theorem has it
abbrev mine : Member → theirs.Member
mine A = member_of A.t (party A.who)

module _ (session n : ℕ) (good : List Member) (z : List ℕ) (four : FourBytes session) (P : Linked session n good z) where
  abbrev In : Member → Type 0
  In A = Memᴰ A good

  abbrev all : List theirs.Member
  all = map mine good

  abbrev bx : Member → Box
  bx A = box_of session n A.t A.who

  abbrev pb : Member → Box
  pb A = party_box session n A.t (party A.who)

  same-box : (A : Member) → In A → bx A ≡ pb A
  same-box A h = either_same session n A.t four A.who (P.opened A h)

  abbrev its : Member → List Event
  its A = let B = party A.who in did sha256 session n A.t B.own B.message B.calls

  -- the first accepted call of step k, as a box shows it
  acts : (k : ℕ) (A : Member) → In A → first k (bx A).acts ≡ seen (calls.first k (its A))
  acts k A h = ap (λ (b : Box). first k b.acts) (same-box A h) ∙ view_first k (its A)

  act : (k : ℕ) (A : Member) → In A → (e : Event) → calls.first k (its A) ≡ some e → (d : Act) → view e ≡ d → first k (bx A).acts ≡ some d
  act k A h e f d q = acts k A h ∙ ap seen f ∙ ap {B = Option Act} some q

  step_in : (k : ℕ) (A : Member) (e : Event) → calls.first k (its A) ≡ some e → step_of e.call ≡ k
  step_in k A e f = (first-in k (its A) e f).1

  owns : (A : Member) → In A → (bx A).own ≡ (party A.who).own
  owns A h = ap (λ (b : Box). b.own) (same-box A h)

  opened : (A : Member) → In A → (opening sha256 session n A.t (party A.who).own (party A.who).message).cause ≡ 0
  opened A h = sym (ap (λ (b : Box). b.cause) (same-box A h)) ∙ P.opened A h

  apart : (A B : Member) → In A → In B → (party A.who).own ≢ (party B.who).own → (bx A).own ≢ (bx B).own
  apart A B hA hB d q = d (sym (owns A hA) ∙ q ∙ owns B hB)

  root_told : (A : Member) → In A → (e : Event) → calls.first 2 (its A) ≡ some e → e.call ≡ agree_root z
  root_told A h e f =
      let s = seen-2 e.call e.reply (step_in 2 A e f) in
      s.1 ∙ ap agree_root (P.root A h s.0 e.reply.value (act 2 A h e f _ s.2))

  first-told : (A : Member) → In A → (e : Event) → calls.first 4 (its A) ≡ some e → (B : Member) → In B → (party A.who).own ≢ (party B.who).own
      → heard n (party B.who).own (some e) ≡ packet_to n (party A.who).own (calls.first 3 (its B))
  first-told A hA e f B hB d =
      let q = P.first-inbox A hA (inbox_in e.call) _ (act 4 A hA e f _ (seen-4 e.call e.reply (step_in 4 A e f))) B hB (apart A B hA hB d) in
      ap (λ (k : ℕ). entry n k (inbox_in e.call)) (sym (owns B hB)) ∙ q
      ∙ ap₂ (entry n) (owns A hA) (ap outbox_in (acts 3 B hB) ∙ sym (wrote-3 (calls.first 3 (its B)) (step_in 3 B)))

  second-told : (A : Member) → In A → (e : Event) → calls.first 5 (its A) ≡ some e → e.before.stage ≡ Second → (B : Member) → In B
      → (party A.who).own ≢ (party B.who).own → heard n (party B.who).own (some e) ≡ wrote (calls.first 4 (its B))
  second-told A hA e f w B hB d =
      let G = party A.who in
      let b = awaited sha256 session n A.t G.own G.message G.calls (opened A hA) e f w in
      let q = P.second-inbox A hA _ _ (inbox_in e.call) e.reply.result
      (act 4 A hA b.0 b.1 _ (seen-4 b.0.call b.0.reply (step_in 4 A b.0 b.1)))
      (act 5 A hA e f _ (seen-5 e.call e.reply (step_in 5 A e f))) B hB (apart A B hA hB d) in
      ap (λ (k : ℕ). entry n k (inbox_in e.call)) (sym (owns B hB)) ∙ q ∙ ap relay_in (acts 4 B hB) ∙ sym (wrote-4 (calls.first 4 (its B)) (step_in 4 B))

  linked : Premises sha256 session n all z
  linked =
      record {
        numbered = all_map mine (λ (A : theirs.Member). 1 ≤ A.own) good (λ A h. number A h);
        root = all_map mine (λ (A : theirs.Member). (e : Event) → theirs.step sha256 session n all 2 A ≡ some e → e.call ≡ agree_root z) good root_told;
        first_inbox = all_map mine (λ (A : theirs.Member). (e : Event) → theirs.step sha256 session n all 4 A ≡ some e
            → theirs.Every sha256 session n all (λ B. A.own ≢ B.own → heard n B.own (some e) ≡ packet_to n A.own (theirs.step sha256 session n all 3 B))) good
            (λ A h e f. all_map mine (λ (B : theirs.Member). (party A.who).own ≢ B.own
            → heard n B.own (some e) ≡ packet_to n (party A.who).own (theirs.step sha256 session n all 3 B)) good (first-told A h e f));
        second_inbox = all_map mine (λ (A : theirs.Member). (e : Event) → theirs.step sha256 session n all 5 A ≡ some e → e.before.stage ≡ Second
            → theirs.Every sha256 session n all (λ B. A.own ≢ B.own → heard n B.own (some e) ≡ wrote (theirs.step sha256 session n all 4 B))) good
            (λ A h e f w. all_map mine (λ (B : theirs.Member). (party A.who).own ≢ B.own
            → heard n B.own (some e) ≡ wrote (theirs.step sha256 session n all 4 B)) good (second-told A h e f w));
      }
    where
      number : (A : Member) → Memᴰ A good → 1 ≤ (party A.who).own
      number A h =
          let G = party A.who in
          (open-bounds n A.t G.own (length G.message) (opened-is sha256 session n A.t G.own G.message (opened A h)).0).1

  none_seen : NoneSeen session n good z
  none_seen A hA B hB f k =
      subst (λ (i : ℕ). saw f i ≡ false) (sym (owns B hB))
      (unseen-in session n all (mine A) (mine B)
      (no-good-named sha256 sha256-length session n all z linked (mine A) (in_map mine hA) (mine B) (in_map mine hB)) f
      (subst (Memᴰ f) (maps-same session n A.t four A.who (P.opened A hA)) k))

-- a sitting as demand 3 has it
module _ (session n t : ℕ) (good : List (Good ⊎ Host)) (z : List ℕ) (bit : ℕ) (four : FourBytes session) (P : Sitting n t (map (box_of session n t) good) z bit) where
  abbrev told-t : Good ⊎ Host → Member
  told-t g = record { t = t; who = g }

  opens : (g : Good ⊎ Host) → Memᴰ g good → (box_of session n t g).cause ≡ 0
  opens g h = (P.opened (box_of session n t g) (in_map (box_of session n t) h)).0

  their-premises : agreed.Premises sha256 session n t (map party good) z bit
  their-premises =
      premises session n t (map party good) z bit
      (subst (λ (boxes : List Box). Sitting n t boxes z bit) (boxes-same session n t four good opens) P)

  one : (g : Good ⊎ Host) → Memᴰ g good → (h : Good ⊎ Host) → Memᴰ h good → (f : ℕ) → Memᴰ f (maps_of session n t g)
      → saw f (box_of session n t h).own ≡ false
  one g i h j f k =
      subst (λ (b : Box). saw f b.own ≡ false) (sym (either_same session n t four h (opens h j)))
      (unseen-in session n (map (member_of t) (map party good)) (member_of t (party g)) (member_of t (party h))
      (no-good-named-in-agreement sha256 sha256-length session n t (map party good) z bit their-premises (party g) (in_map party i) (party h) (in_map party j)) f
      (subst (Memᴰ f) (maps-same session n t four g (opens g i)) k))

  sitting-none : NoneSeen session n (map told-t good) z
  sitting-none =
      all_map told-t (λ (A : Member). (B : Member) → Memᴰ B (map told-t good) → (f : ℕ) → Memᴰ f (maps_of session n A.t A.who)
      → saw f (box_of session n B.t B.who).own ≡ false) good
      (λ g i. all_map told-t (λ (B : Member). (f : ℕ) → Memᴰ f (maps_of session n t g) → saw f (box_of session n B.t B.who).own ≡ false) good (one g i))

pub no-good-box-is-seen-to-cheat : NoGoodBoxIsSeenToCheat
no-good-box-is-seen-to-cheat =
    record {
      opened = begun-empty sha256;
      early = λ x c e a b. ap (λ (y : Party). y.faulty) ((step-tells x c).accepted e).0 ∙ early-empty x c a b;
      first = first-saw;
      second = second-saw;
      given = given-map;
      again = again-map;
      within = within-limit;
      beyond = beyond-limit;
      host = host-tells;
      host-given = host-gives;
      by-sender = λ session n t own q bs out e. accepted-opens n t own q bs sha256 session out e;
      none_seen = λ session n good z four P. none_seen session n good z four P;
      sitting = sitting-none;
    }
