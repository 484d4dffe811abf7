-- Parties seen to be faulty. A map starts empty, and only the accepted step 4 and the step 5 that ends the party change it, each by its inbox: so it names a
-- sender exactly if one of its two packets was faulty. What a good party sends is silence or passes: if it is happy, its packets, by the tree; else it sends none,
-- and relays the packet that it took, which passed under the same root. So it is never faulty where it is delivered, and no map names it. By cases of how far a
-- party's accepted calls went. Assumes nothing.
use mathlib.Core.Path.{◌≡◌, refl, sym, ap, ap₂, ◌∙◌, subst}
use mathlib.Core.Logic.{◌≢◌}
use mathlib.Core.Bool.{Bool, true, false, cond, ◌||◌}
use mathlib.Core.List.Memᴰ
use mathlib.Core.List.{List, [], map, Memᴰ}
use mathlib.Core.Option.{Option, none, some, none-ne-some}
use Prim.Native.Nat.{ℕ, zero, suc, ◌+◌, ◌-◌, ◌≤◌}
use native.Mathlib.Decide.{dec_lt}
use native.Mathlib.Omega.{arith}
use borrow.Author.Tests.{eqb-true, eqb-false}
use lib.Dec.{eqb}
use lib.ListN.{length, get_or, replicate}
use Rattle.buffer.specs.Entries.{size, body, rest, bodies}
use Rattle.buffer.proofs.Splice.{take-spliced}
use Rattle.buffer.proofs.Tabulate.{get_or-tabulate}
use Rattle.bitmap.specs.Bitmap.{names}
use Rattle.bitmap.proofs.Collected.{map-others}
use Rattle.merkle.proofs.Judged.{same_true}
use Rattle.packet.specs.Class.{class_of}
use Rattle.commitment.specs.Commitment.{message_root, packet_with}
use Rattle.commitment.specs.Private.{Coded}
use Rattle.commitment.proofs.Opening.{open-bounds, open-coded}
use Rattle.commitment.proofs.Packets.{packet-valid}
use Rattle.party.specs.State.{seat_of, Result, nothing, at_root, at_bit, at_first, at_second, at_end, blank_state, result_in, has_ended}
use Rattle.party.specs.Steps.{entry, is_faulty, sent_faulty, faulty_shares, faulty_relays, faulty_of, open_cause, open_of, outbox_of}
use Rattle.party.specs.Steps.{Taken, missing, found, packet_taken, relay_of, result_of}
use Rattle.party.specs.declared.Party.{Party}
use Rattle.party.specs.declared.Stage.TheVariants.{Second}
use Rattle.party.proofs.Faulty.{names-none, shares-name, relays-name}
use Rattle.party.proofs.Kept.{result-end}
use Rattle.party.proofs.Outcomes.{holds-ended}
use Rattle.party.proofs.Ways.{Way, on, off, way, clash}
use Rattle.agreement.specs.Calls.{Call, agree_root, inbox_in, Event, first, heard, wrote, packet_to, final, opening, did, first_of}
use Rattle.agreement.specs.Faulty.{faulty_first, faulty_second, last, Named, NamedIfFaulty}
use Rattle.agreement.specs.Faulty.{Member, Every, begun, step, Premises, Unnamed, NoGoodNamed, member_of, NoGoodNamedInAgreement}
use Rattle.agreement.specs.Agreement.{Good}
use Rattle.agreement.specs.Agreement as agreement
use Rattle.agreement.proofs.Lists.{same_some, same-root, one_bit, on-cons, first-in}
use Rattle.agreement.proofs.Mapped.{in_map, all_map}
use Rattle.agreement.proofs.Run.{Chain, still, gave-held}
use Rattle.agreement.proofs.Ran.{opened-is, X1, X2, X3, ev2, ev3, ev4, ev5, Course, at-root, at-bit, ended-void, at-first, at-second, ended}
use Rattle.agreement.proofs.Ran.{x0-is, fin, did-chain, goes, third}
use Rattle.agreement.proofs.Mapping.{every_map, final-map}
use Rattle.agreement.proofs.Ended.{later-holds, opened-did}
use Rattle.agreement.proofs.Needed.{glad}
use Rattle.agreement.proofs.Conduct.{none-silent, out-happy, out-unhappy, out-zero, it, relay-happy, relay-is, relay-found}

or-false : (b : Bool) → b || false ≡ b
or-false true = refl
or-false false = refl

-- an inbox of no bytes has no entries
entry-none : (n j : ℕ) → entry n j [] ≡ []
unfolding entry bodies body rest size
entry-none n j = go n (j - 1)
  where
    go : (n k : ℕ) → get_or (bodies n []) k [] ≡ []
    go zero k = refl
    go (suc n) zero = refl
    go (suc n) (suc k) = go n k

at_none : (n k : ℕ) → get_or {A = List ℕ} (replicate n []) k [] ≡ []
at_none zero k = refl
at_none (suc n) zero = refl
at_none (suc n) (suc k) = at_none n k

-- one party, told by how far its accepted calls went
module _ (H : List ℕ → List ℕ) (session n t i : ℕ) (m : List ℕ) where
  abbrev E2 : List ℕ → Event
  E2 z = ev2 H session n t i m z

  abbrev E4 : List ℕ → List ℕ → List ℕ → Event
  E4 z in4 out4 = ev4 H session n t i m z in4 out4

  -- calls on a party that holds a result: no step 4 is accepted, none ends the party, and all give its map
  module _ (x fin : Party) (rest : List Event) (r : Result) (a : result_in x ≡ some r) (h : Chain H x rest fin) where
    no-fourth : first 4 rest ≡ none
    no-fourth = go (first 4 rest) refl
      where
        go : (o : Option Event) → first 4 rest ≡ o → first 4 rest ≡ none
        go none q = q
        go (some e) q = let k = first-in 4 rest e q in absurd (omega (arith, k.1, (later-holds H x fin rest r a h e k.0).1))

    over : (e : Event) → first 5 rest ≡ some e → has_ended e.before.stage ≡ true
    over e q = (holds-ended e.before r (later-holds H x fin rest r a h e (first-in 5 rest e q).0).0).0

    reads : (e : Event) → Memᴰ e rest → (e.reply.state.faulty ≡ x.faulty) × (e.reply.faulty ≡ x.faulty)
    reads e k =
        let g = gave-held H x fin rest h e k (later-holds H x fin rest r a h e k).1 in
        let s = (still H 0 x fin rest r a h).5 in
        (g.map-held ∙ s, g.map-given ∙ s)

  -- its accepted step 4
  record Fourth (es : List Event) (e : Event) : Type 0 where
    z : List ℕ
    out : List ℕ
    in4 : List ℕ
    out4 : List ℕ
    told : first 2 es ≡ some (E2 z)
    bit-one : first 3 es ≡ some (ev3 H session n t i m z 1 out)
    is : e ≡ E4 z in4 out4

  fourth : (fin : Party) (es : List Event) → Course H session n t i m fin es → (e : Event) → first 4 es ≡ some e → Fourth es e
  unfolding first
  fourth fin es (at-root q h) e f = absurd (none-ne-some e (rw q at f))
  fourth fin es (at-bit z q h) e f = absurd (none-ne-some e (rw q at f))
  fourth fin es (ended-void z out rest q h) e f =
      absurd (none-ne-some e (sym (no-fourth (at_end (seat_of session n t i) nothing 0) fin rest nothing (result-end (seat_of session n t i) nothing 0) h)
      ∙ rw q at f))
  fourth fin es (at-first z out q h) e f = absurd (none-ne-some e (rw q at f))
  fourth fin es (at-second z out in4 out4 q h) e f =
      record { z = z; out = out; in4 = in4; out4 = out4; told = rw q; bit-one = rw q; is = sym (same_some (rw q at f)) }
  fourth fin es (ended z out in4 out4 in5 out5 rest q h) e f =
      record { z = z; out = out; in4 = in4; out4 = out4; told = rw q; bit-one = rw q; is = sym (same_some (rw q at f)) }

  -- a step 5 that awaited the second inbox came after a step 4
  fifth : (fin : Party) (es : List Event) → Course H session n t i m fin es → (e : Event) → first 5 es ≡ some e → e.before.stage ≡ Second
      → (d : Event) × (first 4 es ≡ some d)
  unfolding first
  fifth fin es (at-root q h) e f w = absurd (none-ne-some e (rw q at f))
  fifth fin es (at-bit z q h) e f w = absurd (none-ne-some e (rw q at f))
  fifth fin es (ended-void z out rest q h) e f w =
      clash (over (at_end (seat_of session n t i) nothing 0) fin rest nothing (result-end (seat_of session n t i) nothing 0) h e (rw q at f)) (ap has_ended w)
  fifth fin es (at-first z out q h) e f w = absurd (none-ne-some e (rw q at f))
  fifth fin es (at-second z out in4 out4 q h) e f w = absurd (none-ne-some e (rw q at f))
  fifth fin es (ended z out in4 out4 in5 out5 rest q h) e f w = (E4 z in4 out4, rw q)

  -- what holds of the empty map and of those that the two inboxes give holds of the maps of all accepted calls
  module _ (Q : ℕ → Type 0) (empty : Q 0) (es : List Event)
      (shares : (z in4 out4 : List ℕ) → first 2 es ≡ some (E2 z) → first 4 es ≡ some (E4 z in4 out4) → Q (faulty_shares H (X2 H session n t i m z) in4))
      (relays : (z in4 out4 in5 out5 : List ℕ) → first 2 es ≡ some (E2 z) → first 4 es ≡ some (E4 z in4 out4)
      → first 5 es ≡ some (ev5 H session n t i m z in4 in5 out5) → Q (faulty_relays H (X3 H session n t i m z in4) in5)) where
    abbrev Both : Event → Type 0
    Both d = Q d.reply.state.faulty × Q d.reply.faulty

    maps : (fin : Party) → Course H session n t i m fin es → (d : Event) → Memᴰ d es → Both d
    unfolding first at_bit at_first at_second at_end faulty_of
    maps fin (at-root q h) d k = absurd (Memᴰ.not-nil (subst (Memᴰ d) q k))
    maps fin (at-bit z q h) d k = on-cons Both (E2 z) [] (empty, empty) (λ e l. absurd (Memᴰ.not-nil l)) d (subst (Memᴰ d) q k)
    maps fin (ended-void z out rest q h) d k =
        on-cons Both (E2 z) _ (empty, empty) (on-cons Both (ev3 H session n t i m z 0 out) rest (empty, empty)
        (λ e l. let x : Party = at_end (seat_of session n t i) nothing 0 in
        let p = reads x fin rest nothing (result-end (seat_of session n t i) nothing 0) h e l in
        (subst Q (sym p.0) empty, subst Q (sym p.1) empty))) d (subst (Memᴰ d) q k)
    maps fin (at-first z out q h) d k =
        on-cons Both (E2 z) _ (empty, empty) (on-cons Both (ev3 H session n t i m z 1 out) [] (empty, empty) (λ e l. absurd (Memᴰ.not-nil l))) d
        (subst (Memᴰ d) q k)
    maps fin (at-second z out in4 out4 q h) d k =
        on-cons Both (E2 z) _ (empty, empty) (on-cons Both (ev3 H session n t i m z 1 out) _ (empty, empty)
        (on-cons Both (E4 z in4 out4) [] (shares z in4 out4 (rw q) (rw q), empty) (λ e l. absurd (Memᴰ.not-nil l)))) d (subst (Memᴰ d) q k)
    maps fin (ended z out in4 out4 in5 out5 rest q h) d k =
        let x : Party = X3 H session n t i m z in4 in
        let r : Result = result_of H x in5 in
        let f : ℕ = faulty_of H x in5 in
        let given : Q f = relays z in4 out4 in5 out5 (rw q) (rw q) (rw q) in
        on-cons Both (E2 z) _ (empty, empty) (on-cons Both (ev3 H session n t i m z 1 out) _ (empty, empty)
        (on-cons Both (E4 z in4 out4) _ (shares z in4 out4 (rw q) (rw q), empty)
        (on-cons Both (ev5 H session n t i m z in4 in5 out5) rest (given, given)
        (λ e l. let p = reads (at_end (seat_of session n t i) r f) fin rest r (result-end (seat_of session n t i) r f) h e l in
        (subst Q (sym p.0) given, subst Q (sym p.1) given))))) d (subst (Memᴰ d) q k)

  -- whom the two inboxes bring into the map
  module _ (z : List ℕ) (p : ℕ) (a : 1 ≤ p) (b : p ≤ n) (y : List ℕ) (under : y ≡ z) (in4 : List ℕ) where
    first-names : names (faulty_shares H (X2 H session n t i m y) in4) p ≡ sent_faulty H session n i z in4 i p
    unfolding at_first
    first-names = shares-name H (X2 H session n t i m y) in4 p a b ∙ ap (λ (v : List ℕ). sent_faulty H session n i v in4 i p) under

    second-names : (in5 : List ℕ) → names (faulty_relays H (X3 H session n t i m y in4) in5) p
        ≡ sent_faulty H session n i z in4 i p || sent_faulty H session n i z in5 p p
    unfolding at_second
    second-names in5 =
        relays-name H (X3 H session n t i m y in4) in5 p a b
        ∙ ap₂ ◌||◌ first-names (ap (λ (v : List ℕ). sent_faulty H session n i v in5 p p) under)

  -- so a sender is named exactly if one of its two packets was faulty
  module _ (calls : List Call) (z : List ℕ) (o : (opening H session n t i m).cause ≡ 0)
      (root : (e : Event) → first_of H session n t i m calls 2 ≡ some e → e.call ≡ agree_root z) (p : ℕ) (a : 1 ≤ p) (b : p ≤ n) where
    abbrev its : List Event
    its = did H session n t i m calls

    abbrev end : Party
    end = fin H session n t i m calls o

    abbrev saw : List Event → Bool
    saw l = faulty_first H session n i z p (first 4 l) || faulty_second H session n i z p (first 5 l)

    course : Course H session n t i m end its
    course = goes H session n t i m calls o

    under : (y : List ℕ) → first 2 its ≡ some (E2 y) → y ≡ z
    under y f = same-root (root (E2 y) f)

    second_none : (l : List Event) → ((e : Event) → first 5 l ≡ some e → has_ended e.before.stage ≡ true) → faulty_second H session n i z p (first 5 l) ≡ false
    second_none l f = go (first 5 l) refl
      where
        go : (c : Option Event) → first 5 l ≡ c → faulty_second H session n i z p c ≡ false
        go none q = refl
        go (some e) q = rw (f e q)

    names-end : Course H session n t i m end its → names end.faulty p ≡ saw its
    unfolding first at_root at_bit at_first at_second at_end faulty_of
    names-end (at-root q h) = ap (λ (x : Party). names x.faulty p) h ∙ names-none p ∙ sym (ap saw q)
    names-end (at-bit y q h) = ap (λ (x : Party). names x.faulty p) h ∙ names-none p ∙ sym (ap saw q)
    names-end (ended-void y out rest q h) =
        let x : Party = at_end (seat_of session n t i) nothing 0 in
        let r = result-end (seat_of session n t i) nothing 0 in
        ap (λ (f : ℕ). names f p) (still H 0 x end rest nothing r h).5 ∙ names-none p
        ∙ sym (ap saw q ∙ ap₂ ◌||◌ (ap (faulty_first H session n i z p) (no-fourth x end rest nothing r h)) (second_none rest (over x end rest nothing r h)))
    names-end (at-first y out q h) = ap (λ (x : Party). names x.faulty p) h ∙ names-none p ∙ sym (ap saw q)
    names-end (at-second y out in4 out4 q h) =
        ap (λ (x : Party). names x.faulty p) h ∙ first-names z p a b y (under y (rw q)) in4 ∙ sym (or-false (sent_faulty H session n i z in4 i p)) ∙ sym (ap saw q)
    names-end (ended y out in4 out4 in5 out5 rest q h) =
        let x : Party = X3 H session n t i m y in4 in
        let r : Result = result_of H x in5 in
        let f : ℕ = faulty_of H x in5 in
        ap (λ (f : ℕ). names f p) (still H 0 (at_end (seat_of session n t i) r f) end rest r (result-end (seat_of session n t i) r f) h).5
        ∙ second-names z p a b y (under y (rw q)) in4 in5 ∙ sym (ap saw q)

    last-is : last H session n t i m calls ≡ end
    last-is = ap (λ (x : Party). final H x calls) (x0-is H session n t i m calls o)

    named : Named H session n t i m calls z p
    unfolding at_second
    named =
        record {
          first = λ e f. let k = fourth end its course e f in
              subst (λ (v : Event). names v.reply.state.faulty p ≡ sent_faulty H session n i z (inbox_in v.call) i p) (sym k.is)
              (first-names z p a b k.z (under k.z k.told) k.in4);
          after = ap (λ (x : Party). names x.faulty p) last-is ∙ names-end course;
          given = λ e k five. let g = gave-held H _ end its (did-chain H session n t i m calls o) e k five in
              (g.map-given ∙ sym (ap (λ (x : Party). x.faulty) last-is), g.map-held ∙ sym (ap (λ (x : Party). x.faulty) last-is));
        }

pub awaited : (H : List ℕ → List ℕ) (session n t i : ℕ) (m : List ℕ) (calls : List Call) → (opening H session n t i m).cause ≡ 0 → (e : Event)
    → first_of H session n t i m calls 5 ≡ some e → e.before.stage ≡ Second → (d : Event) × (first_of H session n t i m calls 4 ≡ some d)
awaited H session n t i m calls o =
    fifth H session n t i m _ (did H session n t i m calls) (goes H session n t i m calls o)

pub named-if-faulty : (H : List ℕ → List ℕ) → NamedIfFaulty H
named-if-faulty H session n t i m calls z o root p a b = named H session n t i m calls z o root p a b

-- what a good party sends is not faulty
module _ (H : List ℕ → List ℕ) (wide : (s : List ℕ) → length (H s) ≡ 32) (session n : ℕ) (z : List ℕ) where
  abbrev Fine : ℕ → List ℕ → Type 0
  Fine j w = is_faulty (class_of H session n j z w) ≡ false

  none-fine : (j : ℕ) → Fine j []
  none-fine j = ap is_faulty (none-silent H session n j z)

  module _ (t i : ℕ) (m : List ℕ) (c : Coded n t m) where
    packet-fine : glad H session n t m z ≡ true → (j : ℕ) → 1 ≤ j → j ≤ n → Fine j (packet_with H session n t m j)
    packet-fine e j a b = ap is_faulty (packet-valid H wide session n t m c j a b z (same_true (message_root H session n t m) z e))

    outbox-fine : (bit j : ℕ) → bit ≤ 1 → 1 ≤ j → j ≤ n → Fine j (entry n j (outbox_of H (X1 H session n t i m z) bit))
    unfolding entry
    outbox-fine bit j low a b = go (way (eqb bit 0)) (way (glad H session n t m z))
      where
        at : List (List ℕ) → Type 0
        at l = Fine j (get_or l (j - 1) [])

        quiet : at (replicate n [])
        quiet = subst (Fine j) (sym (at_none n (j - 1))) (none-fine j)

        sends : (k : ℕ) → k ≡ j → (own : Bool) → glad H session n t m z ≡ true → Fine j (cond own [] (packet_with H session n t m k))
        sends k q true g = none-fine j
        sends k q false g = subst (λ (u : ℕ). Fine j (packet_with H session n t m u)) (sym q) (packet-fine g j a b)

        go : Way (eqb bit 0) → Way (glad H session n t m z) → at (bodies n (outbox_of H (X1 H session n t i m z) bit))
        go (on e) g = rw (eqb-true bit 0 e, out-zero H session n t i m z) quiet
        go (off e) (off g) =
            let one : bit ≡ 1 = omega (arith, low, eqb-false bit 0 e) in
            rw (one, out-unhappy H session n t i m z g) quiet
        go (off e) (on g) =
            let one : bit ≡ 1 = omega (arith, low, eqb-false bit 0 e) in
            rw (one, out-happy H session n t i m z g) (subst (Fine j) (sym (get_or-tabulate n _ (j - 1) [] (omega arith)))
            (sends (j - 1 + 1) (omega arith) (eqb (j - 1 + 1) i) g))

    relay-fine : 1 ≤ i → i ≤ n → (in4 : List ℕ) → Fine i (relay_of H (X2 H session n t i m z) in4)
    unfolding at_first
    relay-fine a b in4 = go (way (glad H session n t m z))
      where
        own : glad H session n t m z ≡ true → (alone : Bool) → Fine i (cond alone [] (packet_with H session n t m i))
        own g true = none-fine i
        own g false = packet-fine g i a b

        took : (u : glad H session n t m z ≡ false) (k : Taken) → it H session n t i m z u in4 ≡ k → Fine i (relay_of H (X2 H session n t i m z) in4)
        took u missing e = subst (Fine i) (sym (relay-is H session n t i m z u in4 ∙ ap (packet_taken (X2 H session n t i m z)) e)) (none-fine i)
        took u (found x p) e = ap is_faulty (relay-found H session n t i m z u in4 x p e)

        go : Way (glad H session n t m z) → Fine i (relay_of H (X2 H session n t i m z) in4)
        go (on g) = subst (Fine i) (sym (relay-happy H session n t i m z g in4)) (own g (eqb n 1))
        go (off u) = took u (it H session n t i m z u in4) refl

-- an opening's state has the empty map
pub begun-empty : (H : List ℕ → List ℕ) (session n t i : ℕ) (m : List ℕ) → (opening H session n t i m).state.faulty ≡ 0
unfolding open_of at_root blank_state
begun-empty H session n t i m = go (way (eqb (open_cause n t i (length m)) 0))
  where
    go : Way (eqb (open_cause n t i (length m)) 0) → (opening H session n t i m).state.faulty ≡ 0
    go (on e) = rw e
    go (off e) = rw e

module _ (H : List ℕ → List ℕ) (wide : (s : List ℕ) → length (H s) ≡ 32) (session n : ℕ) (good : List Member) (z : List ℕ)
    (P : Premises H session n good z) where
  abbrev its-calls : Member → List Event
  its-calls A = did H session n A.t A.own A.message A.calls

  -- whoever had an accepted call was opened, and its calls went their course under z
  module _ (A : Member) (h : Memᴰ A good) (d : Event) (k : Memᴰ d (its-calls A)) where
    opened : (opening H session n A.t A.own A.message).cause ≡ 0
    opened = opened-did H session n A.t A.own A.message A.calls d k

    cause : open_cause n A.t A.own (length A.message) ≡ 0
    cause = (opened-is H session n A.t A.own A.message opened).0

    codes : Coded n A.t A.message
    codes = open-coded n A.t A.own A.message cause

    went : Course H session n A.t A.own A.message (fin H session n A.t A.own A.message A.calls opened) (its-calls A)
    went = goes H session n A.t A.own A.message A.calls opened

  told : (A : Member) → Memᴰ A good → (y : List ℕ) → first 2 (its-calls A) ≡ some (ev2 H session n A.t A.own A.message y) → y ≡ z
  told A h y f = same-root (P.root A h (ev2 H session n A.t A.own A.message y) f)

  -- what it sent is not faulty
  module _ (B : Member) (h : Memᴰ B good) where
    packet-sent : (j : ℕ) → 1 ≤ j → j ≤ n → Fine H wide session n z j (packet_to n j (step H session n good 3 B))
    packet-sent j a b = go (step H session n good 3 B) refl
      where
        go : (o : Option Event) → step H session n good 3 B ≡ o → Fine H wide session n z j (packet_to n j o)
        go none q = subst (Fine H wide session n z j) (sym (entry-none n j)) (none-fine H wide session n z j)
        go (some e) q =
            let l = (first-in 3 (its-calls B) e q).0 in
            let k = third H session n B.t B.own B.message _ (its-calls B) (went B h e l) e q in
            let bs : List ℕ = outbox_of H (X1 H session n B.t B.own B.message k.z) k.bit in
            let is : wrote (some e) ≡ bs = ap (λ (v : Event). wrote (some v)) k.is ∙ take-spliced k.out bs in
            subst (λ (w : List ℕ). Fine H wide session n z j (entry n j w)) (sym is)
            (subst (λ (y : List ℕ). Fine H wide session n z j (entry n j (outbox_of H (X1 H session n B.t B.own B.message y) k.bit)))
            (sym (told B h k.z k.told))
            (outbox-fine H wide session n z B.t B.own B.message (codes B h e l) k.bit j k.low a b))

    relay-sent : Fine H wide session n z B.own (wrote (step H session n good 4 B))
    relay-sent = go (step H session n good 4 B) refl
      where
        go : (o : Option Event) → step H session n good 4 B ≡ o → Fine H wide session n z B.own (wrote o)
        go none q = none-fine H wide session n z B.own
        go (some e) q =
            let l = (first-in 4 (its-calls B) e q).0 in
            let k = fourth H session n B.t B.own B.message _ (its-calls B) (went B h e l) e q in
            let c = open-bounds n B.t B.own (length B.message) (cause B h e l) in
            let bs : List ℕ = relay_of H (X2 H session n B.t B.own B.message k.z) k.in4 in
            let is : wrote (some e) ≡ bs = ap (λ (v : Event). wrote (some v)) k.is ∙ take-spliced k.out4 bs in
            subst (Fine H wide session n z B.own) (sym is)
            (subst (λ (y : List ℕ). Fine H wide session n z B.own (relay_of H (X2 H session n B.t B.own B.message y) k.in4))
            (sym (told B h k.z k.told))
            (relay-fine H wide session n z B.t B.own B.message (codes B h e l) c.1 c.2 k.in4))

  -- so A's inboxes never bring B into the map
  module _ (A B : Member) (hA : Memᴰ A good) (hB : Memᴰ B good) where
    abbrev p : ℕ
    p = B.own

    abbrev Clear : ℕ → Type 0
    Clear f = names f p ≡ false

    module _ (d : Event) (l : Memᴰ d (its-calls A)) (y in4 out4 : List ℕ) (under : y ≡ z)
        (four : first 4 (its-calls A) ≡ some (ev4 H session n A.t A.own A.message y in4 out4)) where
      first-clear : sent_faulty H session n A.own z in4 A.own p ≡ false
      unfolding sent_faulty
      first-clear = go (way (eqb p A.own))
        where
          go : Way (eqb p A.own) → sent_faulty H session n A.own z in4 A.own p ≡ false
          go (on e) = rw e
          go (off e) =
              let c = open-bounds n A.t A.own (length A.message) (cause A hA d l) in
              rw e (ap (λ (w : List ℕ). is_faulty (class_of H session n A.own z w))
              (P.first_inbox A hA (ev4 H session n A.t A.own A.message y in4 out4) four B hB (λ q. eqb-false p A.own e (sym q)))
              ∙ packet-sent B hB A.own c.1 c.2)

      shares-clear : Clear (faulty_shares H (X2 H session n A.t A.own A.message y) in4)
      unfolding faulty_shares at_first
      shares-clear = elim (dec_lt n p) [
        | yes k ↦ map-others _ n p k
        | no k ↦ first-names H session n A.t A.own A.message z p (P.numbered B hB) (omega arith) y under in4 ∙ first-clear
      ]

      module _ (in5 out5 : List ℕ) (five : first 5 (its-calls A) ≡ some (ev5 H session n A.t A.own A.message y in4 in5 out5)) where
        second-clear : sent_faulty H session n A.own z in5 p p ≡ false
        unfolding sent_faulty at_second
        second-clear = go (way (eqb p A.own))
          where
            go : Way (eqb p A.own) → sent_faulty H session n A.own z in5 p p ≡ false
            go (on e) = rw e
            go (off e) =
                rw e (ap (λ (w : List ℕ). is_faulty (class_of H session n p z w))
                (P.second_inbox A hA (ev5 H session n A.t A.own A.message y in4 in5 out5) five refl B hB (λ q. eqb-false p A.own e (sym q)))
                ∙ relay-sent B hB)

        relays-clear : Clear (faulty_relays H (X3 H session n A.t A.own A.message y in4) in5)
        unfolding faulty_relays at_second
        relays-clear = elim (dec_lt n p) [
          | yes k ↦ map-others _ n p k
          | no k ↦ second-names H session n A.t A.own A.message z p (P.numbered B hB) (omega arith) y under in4 in5
              ∙ ap₂ ◌||◌ first-clear second-clear
        ]

    accepted-clear : (d : Event) → Memᴰ d (its-calls A) → Clear d.reply.state.faulty × Clear d.reply.faulty
    accepted-clear d l =
        maps H session n A.t A.own A.message Clear (names-none p) (its-calls A)
        (λ y in4 out4 two four. shares-clear d l y in4 out4 (told A hA y two) four)
        (λ y in4 out4 in5 out5 two four five. relays-clear d l y in4 out4 (told A hA y two) four in5 out5 five) _ (went A hA d l) d l

    unnamed : Unnamed H session n good A B
    unfolding did
    unnamed =
        let x : Party = begun H session n good A in
        let empty : Clear x.faulty = ap (λ (f : ℕ). names f p) (begun-empty H session n A.t A.own A.message) ∙ names-none p in
        record {
          opened = empty;
          before = λ e k. (every_map H Clear (names-none p) x A.calls empty accepted-clear e k).0;
          after = λ e k. (every_map H Clear (names-none p) x A.calls empty accepted-clear e k).1;
          given = λ e k. (every_map H Clear (names-none p) x A.calls empty accepted-clear e k).2;
          ended = final-map H Clear (names-none p) x A.calls empty accepted-clear;
        }

pub no-good-named : (H : List ℕ → List ℕ) → ((s : List ℕ) → length (H s) ≡ 32) → NoGoodNamed H
no-good-named H wide session n good z P A hA B hB = unnamed H wide session n good z P A B hA hB

-- what agreement supposes is more: on bit 1 it supposes the same of the inboxes, and on bit 0 no party takes one
module _ (H : List ℕ → List ℕ) (session n t : ℕ) (good : List Good) (z : List ℕ) (bit : ℕ) (P : agreement.Premises H session n t good z bit) where
  abbrev call : ℕ → Good → Option Event
  call k A = first_of H session n t A.own A.message A.calls k

  went_on : (A : Good) (h : Memᴰ A good) → Course H session n t A.own A.message
      (fin H session n t A.own A.message A.calls (P.opened.accepted A h)) (did H session n t A.own A.message A.calls)
  went_on A h = goes H session n t A.own A.message A.calls (P.opened.accepted A h)

  bit-is-one : (A : Good) → Memᴰ A good → (e : Event) → call 4 A ≡ some e → bit ≡ 1
  bit-is-one A h e f =
      let b = P.called.step3 A h in
      let k = fourth H session n t A.own A.message _ _ (went_on A h) e f in
      one_bit (sym b.3 ∙ ap (λ (v : Event). v.call) (same_some (sym b.2 ∙ k.bit-one)))

  pub agreement-premises : Premises H session n (map (member_of t) good) z
  agreement-premises =
      record {
        numbered = all_map (member_of t) (λ A. 1 ≤ A.own) good
            (λ A h. (open-bounds n t A.own (length A.message) (opened-is H session n t A.own A.message (P.opened.accepted A h)).0).1);
        root = all_map (member_of t) (λ A. (e : Event) → step H session n [] 2 A ≡ some e → e.call ≡ agree_root z) good
            (λ A h e f. let r = P.called.step2 A h in
            ap (λ (v : Event). v.call) (same_some (sym f ∙ r.1)) ∙ r.2);
        first_inbox = all_map (member_of t) (λ A. (e : Event) → step H session n [] 4 A ≡ some e
            → Every H session n (map (member_of t) good) (λ B. A.own ≢ B.own → heard n B.own (some e) ≡ packet_to n A.own (step H session n [] 3 B))) good
            (λ A h e f. all_map (member_of t) (λ B. A.own ≢ B.own → heard n B.own (some e) ≡ packet_to n A.own (step H session n [] 3 B)) good
            (λ B k d. sym (ap (heard n B.own) f) ∙ (P.delivered (bit-is-one A h e f)).first_inbox A h B k d));
        second_inbox = all_map (member_of t) (λ A. (e : Event) → step H session n [] 5 A ≡ some e → e.before.stage ≡ Second
            → Every H session n (map (member_of t) good) (λ B. A.own ≢ B.own → heard n B.own (some e) ≡ wrote (step H session n [] 4 B))) good
            (λ A h e f w. all_map (member_of t) (λ B. A.own ≢ B.own → heard n B.own (some e) ≡ wrote (step H session n [] 4 B)) good
            (λ B k d. let l = fifth H session n t A.own A.message _ _ (went_on A h) e f w in
            sym (ap (heard n B.own) f) ∙ (P.delivered (bit-is-one A h l.0 l.1)).second_inbox A h B k d));
      }

pub no-good-named-in-agreement : (H : List ℕ → List ℕ) → ((s : List ℕ) → length (H s) ≡ 32) → NoGoodNamedInAgreement H
no-good-named-in-agreement H wide session n t good z bit P A h B k =
    no-good-named H wide session n (map (member_of t) good) z (agreement-premises H session n t good z bit P) (member_of t A) (in_map (member_of t) h) (member_of t B)
    (in_map (member_of t) k)
