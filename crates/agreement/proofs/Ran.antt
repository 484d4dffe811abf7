-- One good party of a session: how far its accepted calls went, and all that the others need to know of its list of calls, told by inboxes and by what it wrote.
-- Its accepted calls are step 2, step 3 and, on bit 1, steps 4 and 5, each on the state that the one before gave; what comes after changes nothing.
-- Assumes nothing.
use mathlib.Core.Path.{◌≡◌, refl, sym, ap, ◌∙◌, subst}
use mathlib.Core.Bool.{cond}
use mathlib.Core.List.Memᴰ
use mathlib.Core.List.{List, [], ◌∷◌, Memᴰ}
use mathlib.Core.Option.{Option, some, none-ne-some}
use Prim.Native.Nat.{ℕ, ◌+◌, ◌-◌, ◌*◌, ◌≤◌}
use native.Mathlib.Omega.{arith}
use borrow.Author.Tests.{eqb-true, eqb-false}
use lib.Dec.{eqb}
use lib.ListN.{length}
use Rattle.limits.specs.Limits.{max_message}
use Rattle.buffer.specs.Splice.{spliced}
use Rattle.buffer.specs.Entries.{bodies}
use Rattle.buffer.proofs.Splice.{take-spliced}
use Rattle.erasure.specs.Coding.{shares}
use Rattle.merkle.specs.Shares.{coding_strings}
use Rattle.party.specs.State.{seat_of, Result, nothing, at_root, at_bit, at_first, at_second, at_end}
use Rattle.party.specs.State.{result_in, message_root, happy}
use Rattle.party.specs.Steps.{open_cause, Stepped, gives, outbox_of, faulty_shares, relay_of, held_of, result_of, faulty_of}
use Rattle.party.specs.declared.Party.{Party}
use Rattle.party.specs.Answer.{Opened}
use Rattle.party.specs.Answer as answer
use Rattle.party.proofs.Kept.{take-padded, result-end}
use Rattle.party.proofs.Outcomes.{open-given, open-refused}
use Rattle.party.proofs.Ways.{Way, on, off, way}
use Rattle.agreement.specs.Calls.{Call, agree_root, agree_bit, take_shares, take_relays, step_of, inbox_in, Event, accepted, first, entry, heard, wrote}
use Rattle.agreement.specs.Calls.{bit_given, lengths, sent_over, made, events, final, strings_over, checked_in, checked_over, recoded_in, recoded_over}
use Rattle.agreement.specs.Calls.{opening, did, first_of, result_after, opened_and_checked, recoded, sent_by}
use Rattle.agreement.proofs.Lists.{same_some, same-root, one_bit}
use Rattle.agreement.proofs.Run.{made2, made3, made4, ended_with, did2, did3, did4, did5, event, Chain, chain, leads, Still, still}

-- an accepted opening
pub opened-is : (H : List ℕ → List ℕ) (session n t i : ℕ) (m : List ℕ) → (opening H session n t i m).cause ≡ 0
    → (open_cause n t i (length m) ≡ 0)
    × (opening H session n t i m ≡ record { state = at_root (seat_of session n t i) m; cause = 0; root = message_root H session n t m })
opened-is H session n t i m e = go (way (eqb (open_cause n t i (length m)) 0))
  where
    go : Way (eqb (open_cause n t i (length m)) 0)
        → (open_cause n t i (length m) ≡ 0)
        × (opening H session n t i m ≡ record { state = at_root (seat_of session n t i) m; cause = 0; root = message_root H session n t m })
    go (on q) = let c = eqb-true (open_cause n t i (length m)) 0 q in (c, open-given H session n t i m c)
    go (off q) =
        let c = eqb-false (open_cause n t i (length m)) 0 q in
        absurd (c (sym (ap (λ (r : Opened). r.cause) (open-refused H session n t i m c)) ∙ e))

abbrev pub ev : Party → Call → Stepped → Event
ev x c r = record { before = x; call = c; reply = r }

-- a call of step 2 has a root, one of step 3 a bit and a buffer, one of step 4 or 5 an inbox and a buffer
pub is-second : (c : Call) → step_of c ≡ 2 → (z : List ℕ) × (c ≡ agree_root z)
is-second (agree_root z) e = (z, refl)
is-second (agree_bit bit out) e = absurd (omega arith)
is-second (take_shares inbox out) e = absurd (omega arith)
is-second (take_relays inbox out) e = absurd (omega arith)

pub is-third : (c : Call) → step_of c ≡ 3 → (bit : ℕ) × (out : List ℕ) × (c ≡ agree_bit bit out)
is-third (agree_root z) e = absurd (omega arith)
is-third (agree_bit bit out) e = (bit, out, refl)
is-third (take_shares inbox out) e = absurd (omega arith)
is-third (take_relays inbox out) e = absurd (omega arith)

pub is-fourth : (c : Call) → step_of c ≡ 4 → (inbox : List ℕ) × (out : List ℕ) × (c ≡ take_shares inbox out)
is-fourth (agree_root z) e = absurd (omega arith)
is-fourth (agree_bit bit out) e = absurd (omega arith)
is-fourth (take_shares inbox out) e = (inbox, out, refl)
is-fourth (take_relays inbox out) e = absurd (omega arith)

pub is-fifth : (c : Call) → step_of c ≡ 5 → (inbox : List ℕ) × (out : List ℕ) × (c ≡ take_relays inbox out)
is-fifth (agree_root z) e = absurd (omega arith)
is-fifth (agree_bit bit out) e = absurd (omega arith)
is-fifth (take_shares inbox out) e = absurd (omega arith)
is-fifth (take_relays inbox out) e = (inbox, out, refl)

module _ (H : List ℕ → List ℕ) where
  -- the first of accepted calls, by what it is and gives
  here : (x fin : Party) (d : Event) (es : List Event) (c : Call) (s : Stepped) → Chain H x (d ∷ es) fin → d.call ≡ c
      → ((made H x c).cause ≡ 0 → made H x c ≡ s) → (d ≡ ev x c s) × Chain H s.state es fin
  here x fin d es c s h p g =
      let u : d ≡ event H x c = h.0 ∙ ap (event H x) p in
      let w : d ≡ ev x c s = u ∙ ap (ev x c) (g (subst (λ (v : Event). v.reply.cause ≡ 0) u h.1)) in
      (w, subst (λ (v : Event). Chain H v.reply.state es fin) w h.2)

  module _ (session n t i : ℕ) (m z : List ℕ) where
    abbrev pub X1 : Party
    X1 = at_bit (seat_of session n t i) m z

    abbrev pub X2 : Party
    X2 = at_first (seat_of session n t i) m z

    abbrev pub X3 : List ℕ → Party
    X3 inbox = at_second (seat_of session n t i) m z (held_of H X2 inbox) (faulty_shares H X2 inbox)

    -- the replies, by the states that the accepted calls got
    abbrev pub reply2 : Stepped
    reply2 = gives X1 (answer.Happy (happy H X1)) []

    abbrev pub reply3 : ℕ → List ℕ → Stepped
    reply3 bit out =
        gives (cond (eqb bit 0) (at_end (seat_of session n t i) nothing 0) X2) (answer.Sent (length (outbox_of H X1 bit)))
        (spliced out 0 (outbox_of H X1 bit))

    abbrev pub reply4 : List ℕ → List ℕ → Stepped
    reply4 inbox out = gives (X3 inbox) (answer.Sent (length (relay_of H X2 inbox))) (spliced out 0 (relay_of H X2 inbox))

    abbrev pub reply5 : List ℕ → List ℕ → List ℕ → Stepped
    reply5 in4 in5 out = ended_with (seat_of session n t i) (result_of H (X3 in4) in5) (faulty_of H (X3 in4) in5) out

    pub is2 : made2 H (at_root (seat_of session n t i) m) z ≡ reply2
    unfolding at_root
    is2 =
        ap (λ (b : List ℕ). gives (at_bit (seat_of session n t i) b z) (answer.Happy (happy H (at_bit (seat_of session n t i) b z))) [])
        (take-padded max_message m)

    pub is3 : (bit : ℕ) (out : List ℕ) → made3 H X1 bit out ≡ reply3 bit out
    unfolding at_bit
    is3 bit out =
        ap (λ (b : List ℕ). gives (cond (eqb bit 0) (at_end (seat_of session n t i) nothing 0) (at_first (seat_of session n t i) b z))
        (answer.Sent (length (outbox_of H X1 bit))) (spliced out 0 (outbox_of H X1 bit))) (take-padded max_message m)

    pub is4 : (inbox out : List ℕ) → made4 H X2 inbox out ≡ reply4 inbox out
    unfolding at_first
    is4 inbox out =
        ap (λ (b : List ℕ). gives (at_second (seat_of session n t i) b z (held_of H X2 inbox) (faulty_shares H X2 inbox)) (answer.Sent (length (relay_of H X2 inbox)))
        (spliced out 0 (relay_of H X2 inbox))) (take-padded max_message m)

    pub is5 : (in4 in5 out : List ℕ) → ended_with (X3 in4).seat (result_of H (X3 in4) in5) (faulty_of H (X3 in4) in5) out ≡ reply5 in4 in5 out
    unfolding at_second
    is5 in4 in5 out = refl

    abbrev pub ev2 : Event
    ev2 = ev (at_root (seat_of session n t i) m) (agree_root z) reply2

    abbrev pub ev3 : ℕ → List ℕ → Event
    ev3 bit out = ev X1 (agree_bit bit out) (reply3 bit out)

    abbrev pub ev4 : List ℕ → List ℕ → Event
    ev4 inbox out = ev X2 (take_shares inbox out) (reply4 inbox out)

    abbrev pub ev5 : List ℕ → List ℕ → List ℕ → Event
    ev5 in4 in5 out = ev (X3 in4) (take_relays in5 out) (reply5 in4 in5 out)

  -- how far accepted calls on a party's first state went, each on the state that the one before gave; what is called after the end reads the result again
  module _ (session n t i : ℕ) (m : List ℕ) where
    -- the accepted calls of steps 2 and 3, and those after them
    abbrev pub voted : List ℕ → ℕ → List ℕ → List Event → List Event
    voted z bit out es = ev2 session n t i m z ∷ ev3 session n t i m z bit out ∷ es

    pub data Course (fin : Party) (es : List Event) : Type 0 where
      at-root : es ≡ [] → fin ≡ at_root (seat_of session n t i) m → Course fin es
      at-bit : (z : List ℕ) → es ≡ ev2 session n t i m z ∷ [] → fin ≡ X1 session n t i m z → Course fin es
      ended-void : (z out : List ℕ) (rest : List Event) → es ≡ voted z 0 out rest → Chain H (at_end (seat_of session n t i) nothing 0) rest fin → Course fin es
      at-first : (z out : List ℕ) → es ≡ voted z 1 out [] → fin ≡ X2 session n t i m z → Course fin es
      at-second : (z out in4 out4 : List ℕ) → es ≡ voted z 1 out (ev4 session n t i m z in4 out4 ∷ []) → fin ≡ X3 session n t i m z in4 → Course fin es
      ended : (z out in4 out4 in5 out5 : List ℕ) (rest : List Event)
          → es ≡ voted z 1 out (ev4 session n t i m z in4 out4 ∷ ev5 session n t i m z in4 in5 out5 ∷ rest)
          → Chain H (reply5 session n t i m z in4 in5 out5).state rest fin → Course fin es

    module _ (fin : Party) (all : List Event) where
      from_second : (z out in4 out4 : List ℕ) (es : List Event) → all ≡ voted z 1 out (ev4 session n t i m z in4 out4 ∷ es)
          → Chain H (X3 session n t i m z in4) es fin → Course fin all
      unfolding at_second
      from_second z out in4 out4 [] q h = at-second z out in4 out4 q h
      from_second z out in4 out4 (d ∷ es) q h =
          let x : Party = X3 session n t i m z in4 in
          let c = is-fifth d.call (sym (leads H x fin d es h)) in
          let a = here x fin d es (take_relays c.0 c.1) (reply5 session n t i m z in4 c.0 c.1) h c.2
          (λ y. (did5 H x c.0 c.1 y).1 ∙ is5 session n t i m z in4 c.0 c.1) in
          ended z out in4 out4 c.0 c.1 es (q ∙ ap (λ (e : Event). voted z 1 out (ev4 session n t i m z in4 out4 ∷ e ∷ es)) a.0) a.1

      from_first : (z out : List ℕ) (es : List Event) → all ≡ voted z 1 out es → Chain H (X2 session n t i m z) es fin → Course fin all
      unfolding at_first
      from_first z out [] q h = at-first z out q h
      from_first z out (d ∷ es) q h =
          let x : Party = X2 session n t i m z in
          let c = is-fourth d.call (sym (leads H x fin d es h)) in
          let a = here x fin d es (take_shares c.0 c.1) (reply4 session n t i m z c.0 c.1) h c.2
          (λ y. (did4 H x c.0 c.1 y).1 ∙ is4 session n t i m z c.0 c.1) in
          from_second z out c.0 c.1 es (q ∙ ap (λ (e : Event). voted z 1 out (e ∷ es)) a.0) a.1

      from-bit : (z : List ℕ) (es : List Event) → all ≡ ev2 session n t i m z ∷ es → Chain H (X1 session n t i m z) es fin → Course fin all
      unfolding at_bit
      from-bit z [] q h = at-bit z q h
      from-bit z (d ∷ es) q h = go (way (eqb bit 0))
        where
          x : Party
          x = X1 session n t i m z

          c : (bit : ℕ) × (out : List ℕ) × (d.call ≡ agree_bit bit out)
          c = is-third d.call (sym (leads H x fin d es h))

          bit : ℕ
          bit = c.0

          low : bit ≤ 1
          low = (did3 H x bit c.1 (subst (λ (v : Event). v.reply.cause ≡ 0) (h.0 ∙ ap (event H x) c.2) h.1)).1

          to : (b : ℕ) → bit ≡ b → (all ≡ voted z b c.1 es) × Chain H (reply3 session n t i m z b c.1).state es fin
          to b e =
              let a = here x fin d es (agree_bit b c.1) (reply3 session n t i m z b c.1) h (c.2 ∙ ap (λ (k : ℕ). agree_bit k c.1) e)
              (λ y. (did3 H x b c.1 y).2 ∙ is3 session n t i m z b c.1) in
              (q ∙ ap (λ (v : Event). ev2 session n t i m z ∷ v ∷ es) a.0, a.1)

          go : Way (eqb bit 0) → Course fin all
          go (on e) = let a = to 0 (eqb-true bit 0 e) in ended-void z c.1 es a.0 a.1
          go (off e) =
              let one : bit ≡ 1 = omega (arith, low, eqb-false bit 0 e) in
              let a = to 1 one in
              from_first z c.1 es a.0 a.1

    pub course : (fin : Party) (es : List Event) → Chain H (at_root (seat_of session n t i) m) es fin → Course fin es
    unfolding at_root
    course fin [] h = at-root refl h
    course fin (d ∷ es) h =
        let x : Party = at_root (seat_of session n t i) m in
        let c = is-second d.call (sym (leads H x fin d es h)) in
        let a = here x fin d es (agree_root c.0) (reply2 session n t i m c.0) h c.1 (λ y. (did2 H x c.0 y).1 ∙ is2 session n t i m c.0) in
        from-bit fin (d ∷ es) c.0 es (ap (λ (v : Event). v ∷ es) a.0) a.1

-- a party that opened with a message, was handed these calls, and was accepted in steps 2 to 5, on bit 1
pub record Ran (H : List ℕ → List ℕ) (session n t i : ℕ) (m : List ℕ) (calls : List Call) (z : List ℕ) : Type 0 where
  pub in4 : List ℕ
  pub in5 : List ℕ
  pub heard4 : (j : ℕ) → heard n j (first_of H session n t i m calls 4) ≡ entry n j in4
  pub heard5 : (j : ℕ) → heard n j (first_of H session n t i m calls 5) ≡ entry n j in5
  pub packets : wrote (first_of H session n t i m calls 3) ≡ outbox_of H (at_bit (seat_of session n t i) m z) 1
  pub relayed : wrote (first_of H session n t i m calls 4) ≡ relay_of H (at_first (seat_of session n t i) m z) in4
  pub ends : result_after H session n t i m calls ≡ some (result_of H (X3 H session n t i m z in4) in5)
  pub in_tree : (s : List ℕ) → Memᴰ s (coding_strings H session n (shares n (n - t) m)) → Memᴰ s (opened_and_checked H session n t i m calls)
  pub in-first : (s : List ℕ) → Memᴰ s (checked_in H (at_first (seat_of session n t i) m z) (take_shares in4 []))
      → Memᴰ s (opened_and_checked H session n t i m calls)
  pub in-second : (s : List ℕ)
      → Memᴰ s (checked_in H (X3 H session n t i m z in4) (take_relays in5 []))
      → Memᴰ s (opened_and_checked H session n t i m calls)
  pub in-again : (s : List ℕ)
      → Memᴰ s (recoded_in H (X3 H session n t i m z in4) (take_relays in5 []))
      → Memᴰ s (recoded H session n t i m calls)
  -- the state and the inbox of the call that ended it
  pub last-call : (e : Event) → first_of H session n t i m calls 5 ≡ some e
      → (e.before ≡ X3 H session n t i m z in4) × (inbox_in e.call ≡ in5)
  pub sends : sent_by H session n t i m calls
      ≡ lengths (bodies n (outbox_of H (at_bit (seat_of session n t i) m z) 1)) + (n - 1) * length (relay_of H (at_first (seat_of session n t i) m z) in4)

module _ (H : List ℕ → List ℕ) (session n t i : ℕ) (m : List ℕ) (calls : List Call) (o : (opening H session n t i m).cause ≡ 0) where
  pub x0-is : (opening H session n t i m).state ≡ at_root (seat_of session n t i) m
  x0-is = ap (λ (r : Opened). r.state) (opened-is H session n t i m o).1

  abbrev pub fin : Party
  fin = final H (at_root (seat_of session n t i) m) calls

  did-is : did H session n t i m calls ≡ accepted (events H (at_root (seat_of session n t i) m) calls)
  unfolding did
  did-is = ap (λ (x : Party). accepted (events H x calls)) x0-is

  pub ends_is : result_after H session n t i m calls ≡ result_in fin
  ends_is = ap (λ (x : Party). result_in (final H x calls)) x0-is

  pub did-chain : Chain H (at_root (seat_of session n t i) m) (did H session n t i m calls) fin
  did-chain = subst (λ (l : List Event). Chain H (at_root (seat_of session n t i) m) l fin) (sym did-is) (chain H (at_root (seat_of session n t i) m) calls)

  pub goes : Course H session n t i m fin (did H session n t i m calls)
  goes = course H session n t i m fin (did H session n t i m calls) did-chain

module _ (H : List ℕ → List ℕ) (session n t i : ℕ) (m : List ℕ) where
  -- the first accepted step 2, and the first accepted step 3
  second : (fin : Party) (es : List Event) → Course H session n t i m fin es → (e : Event) → first 2 es ≡ some e → (y : List ℕ) × (e ≡ ev2 H session n t i m y)
  unfolding first
  second fin es (at-root q h) e f = absurd (none-ne-some e (rw q at f))
  second fin es (at-bit y q h) e f = (y, sym (same_some (rw q at f)))
  second fin es (ended-void y out rest q h) e f = (y, sym (same_some (rw q at f)))
  second fin es (at-first y out q h) e f = (y, sym (same_some (rw q at f)))
  second fin es (at-second y out in4 out4 q h) e f = (y, sym (same_some (rw q at f)))
  second fin es (ended y out in4 out4 in5 out5 rest q h) e f = (y, sym (same_some (rw q at f)))

  pub record Third (es : List Event) (e : Event) : Type 0 where
    pub z : List ℕ
    pub bit : ℕ
    pub out : List ℕ
    pub low : bit ≤ 1
    pub told : first 2 es ≡ some (ev2 H session n t i m z)
    pub is : e ≡ ev3 H session n t i m z bit out

  third-is : (z : List ℕ) (bit : ℕ) (out : List ℕ) (rest es : List Event) → bit ≤ 1 → es ≡ voted H session n t i m z bit out rest
      → (e : Event) → first 3 es ≡ some e → Third es e
  unfolding first
  third-is z bit out rest es low q e f = record { z = z; bit = bit; out = out; low = low; told = rw q; is = sym (same_some (rw q at f)) }

  pub third : (fin : Party) (es : List Event) → Course H session n t i m fin es → (e : Event) → first 3 es ≡ some e → Third es e
  unfolding first
  third fin es (at-root q h) e f = absurd (none-ne-some e (rw q at f))
  third fin es (at-bit z q h) e f = absurd (none-ne-some e (rw q at f))
  third fin es (ended-void z out rest q h) e f = third-is z 0 out rest es (omega arith) q e f
  third fin es (at-first z out q h) e f = third-is z 1 out _ es (omega arith) q e f
  third fin es (at-second z out in4 out4 q h) e f = third-is z 1 out _ es (omega arith) q e f
  third fin es (ended z out in4 out4 in5 out5 rest q h) e f = third-is z 1 out _ es (omega arith) q e f

  -- two that begin with step 3 on two bits are not the same
  two-bits : {z out : List ℕ} {bit : ℕ} {rest es : List Event} {b : ℕ} {x : List ℕ} (e : Event) → es ≡ voted H session n t i m z bit out rest
      → first 3 es ≡ some e → e.call ≡ agree_bit b x → bit ≡ b
  unfolding first
  two-bits e q f c = one_bit (ap (λ (v : Event). v.call) (same_some (rw q at f)) ∙ c)

module _ (H : List ℕ → List ℕ) (session n t i : ℕ) (m : List ℕ) (calls : List Call) (o : (opening H session n t i m).cause ≡ 0) where
  abbrev its : List Event
  its = did H session n t i m calls

  abbrev end : Party
  end = fin H session n t i m calls o

  -- a party that ended with what step 5 found
  module _ (z out in4 out4 in5 out5 : List ℕ) (rest : List Event)
      (all-did : its ≡ voted H session n t i m z 1 out (ev4 H session n t i m z in4 out4 ∷ ev5 H session n t i m z in4 in5 out5 ∷ rest))
      (h : Chain H (reply5 H session n t i m z in4 in5 out5).state rest end) where
    abbrev fourth : Event
    fourth = ev4 H session n t i m z in4 out4

    abbrev fifth : Event
    fifth = ev5 H session n t i m z in4 in5 out5

    abbrev result : Result
    result = result_of H (X3 H session n t i m z in4) in5

    last : Still H n result (reply5 H session n t i m z in4 in5 out5).state.faulty rest end
    last = still H n (reply5 H session n t i m z in4 in5 out5).state end rest result
        (result-end (seat_of session n t i) result (faulty_of H (X3 H session n t i m z in4) in5)) h

    is-3 : first 3 its ≡ some (ev3 H session n t i m z 1 out)
    unfolding first
    is-3 = rw all-did

    is-4 : first 4 its ≡ some fourth
    unfolding first
    is-4 = rw all-did

    is-5 : first 5 its ≡ some fifth
    unfolding first
    is-5 = rw all-did

    checked-in : (s : List ℕ) → Memᴰ s (checked_over H (fourth ∷ fifth ∷ rest)) → Memᴰ s (opened_and_checked H session n t i m calls)
    unfolding opened_and_checked strings_over checked_in
    checked-in s h =
        Memᴰ.append_right (coding_strings H session n (shares n (n - t) m))
        (subst (λ (l : List Event). Memᴰ s (checked_over H l)) (sym all-did) h)

    pub ran : Ran H session n t i m calls z
    unfolding opened_and_checked strings_over checked_in recoded recoded_in sent_by sent_over
    ran =
        record {
          in4 = in4;
          in5 = in5;
          heard4 = λ j. ap (heard n j) is-4;
          heard5 = λ j. ap (heard n j) is-5;
          packets = ap wrote is-3 ∙ take-spliced out (outbox_of H (at_bit (seat_of session n t i) m z) 1);
          relayed = ap wrote is-4 ∙ take-spliced out4 (relay_of H (at_first (seat_of session n t i) m z) in4);
          ends = ends_is H session n t i m calls o ∙ last.0;
          in_tree = λ s h. Memᴰ.append_left (checked_over H (did H session n t i m calls)) h;
          in-first = λ s h. checked-in s (Memᴰ.append_left (checked_over H (fifth ∷ rest)) h);
          in-second = λ s h. checked-in s (Memᴰ.append_right (checked_in H (at_first (seat_of session n t i) m z) (take_shares in4 []))
              (Memᴰ.append_left (checked_over H rest) h));
          in-again = λ s h. subst (λ (l : List Event). Memᴰ s (recoded_over H l)) (sym all-did) (Memᴰ.append_left (recoded_over H rest) h);
          last-call = λ e f. let k : fifth ≡ e = same_some (sym is-5 ∙ f) in
              (ap (λ (v : Event). v.before) (sym k), ap (λ (v : Event). inbox_in v.call) (sym k));
          sends = rw (
            all-did,
            last.1,
            take-spliced out (outbox_of H (at_bit (seat_of session n t i) m z) 1),
            take-spliced out4 (relay_of H (at_first (seat_of session n t i) m z) in4),
          ) (omega arith);
        }

  pub bit-small : (e3 : Event) (bit : ℕ) (out : List ℕ) → first 3 its ≡ some e3 → e3.call ≡ agree_bit bit out → bit ≤ 1
  bit-small e3 bit out f3 c3 =
      let k = third H session n t i m end its (goes H session n t i m calls o) e3 f3 in
      subst (λ (b : ℕ). b ≤ 1) (one_bit (sym (ap (λ (v : Event). v.call) k.is) ∙ c3)) k.low

  -- a party that was told the root z
  module _ (z : List ℕ) (e2 : Event) (f2 : first 2 its ≡ some e2) (c2 : e2.call ≡ agree_root z) where
    under : (y : List ℕ) → first 2 its ≡ some (ev2 H session n t i m y) → y ≡ z
    under y f = same-root (ap (λ (v : Event). v.call) (same_some (sym f ∙ f2)) ∙ c2)

    -- the bit that step 2 gave
    pub bit-given : bit_given (first 2 its) ≡ some (cond (happy H (at_bit (seat_of session n t i) m z)) 1 0)
    bit-given =
        let k = second H session n t i m end its (goes H session n t i m calls o) e2 f2 in
        let f = f2 ∙ ap {B = Option Event} some k.1 in
        ap bit_given (f ∙ ap {B = Option Event} (λ (y : List ℕ). some (ev2 H session n t i m y)) (under k.0 f))

    -- on bit 0
    pub ran-none : (e3 : Event) (out : List ℕ) → first 3 its ≡ some e3 → e3.call ≡ agree_bit 0 out
        → (result_after H session n t i m calls ≡ some nothing)
        × (sent_by H session n t i m calls ≡ lengths (bodies n (outbox_of H (at_bit (seat_of session n t i) m z) 0)))
    unfolding first sent_by sent_over
    ran-none e3 out f3 c3 = go (goes H session n t i m calls o)
      where
        go : Course H session n t i m end its → (result_after H session n t i m calls ≡ some nothing)
            × (sent_by H session n t i m calls ≡ lengths (bodies n (outbox_of H (at_bit (seat_of session n t i) m z) 0)))
        go (at-root q h) = absurd (none-ne-some e3 (rw q at f3))
        go (at-bit y q h) = absurd (none-ne-some e3 (rw q at f3))
        go (ended-void y w rest q h) =
            let l = still H n (at_end (seat_of session n t i) nothing 0) end rest nothing (result-end (seat_of session n t i) nothing 0) h in (
              ends_is H session n t i m calls o ∙ l.0,
              rw (q, l.1, take-spliced w (outbox_of H (at_bit (seat_of session n t i) m y) 0), under y (rw q)) (omega arith),
            )
        go (at-first y w q h) = absurd (omega (arith, two-bits H session n t i m e3 q f3 c3))
        go (at-second y w in4 out4 q h) = absurd (omega (arith, two-bits H session n t i m e3 q f3 c3))
        go (ended y w in4 out4 in5 out5 rest q h) = absurd (omega (arith, two-bits H session n t i m e3 q f3 c3))

    -- on bit 1
    pub ran-through : (e3 e4 e5 : Event) (out : List ℕ) → first 3 its ≡ some e3 → e3.call ≡ agree_bit 1 out → first 4 its ≡ some e4 → first 5 its ≡ some e5
        → Ran H session n t i m calls z
    unfolding first
    ran-through e3 e4 e5 out f3 c3 f4 f5 = go (goes H session n t i m calls o)
      where
        go : Course H session n t i m end its → Ran H session n t i m calls z
        go (at-root q h) = absurd (none-ne-some e3 (rw q at f3))
        go (at-bit y q h) = absurd (none-ne-some e3 (rw q at f3))
        go (ended-void y w rest q h) = absurd (omega (arith, two-bits H session n t i m e3 q f3 c3))
        go (at-first y w q h) = absurd (none-ne-some e4 (rw q at f4))
        go (at-second y w in4 out4 q h) = absurd (none-ne-some e5 (rw q at f5))
        go (ended y w in4 out4 in5 out5 rest q h) =
            subst (λ (v : List ℕ). Ran H session n t i m calls v) (under y (rw q)) (ran y w in4 out4 in5 out5 rest q h)
