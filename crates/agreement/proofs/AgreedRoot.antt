-- What the root's check in step 5 gives, for any hash of 32 bytes. A message that step 5 finds has the agreed root: a happy party's own, by what happy means,
-- another's by the check. On bit 1 some good party is happy, by the rule of the bit, and its message has that root too: one root has one message, or two
-- strings collide. Where none do, every share that passes is that message's, so what is rebuilt is that message or nothing, with the check or without.
-- Assumes nothing.
use mathlib.Core.Path.{◌≡◌, refl, sym, ap, ◌∙◌, subst}
use mathlib.Core.Logic.{◌⊎◌, inl, inr}
use mathlib.Core.Bool.{true, false, cond}
use mathlib.Core.List.Memᴰ
use mathlib.Core.List.{List, [], ◌∷◌, Memᴰ}
use mathlib.Core.Option.{Option, none, some, none-ne-some}
use Prim.Native.Nat.{ℕ, ◌-◌}
use native.Mathlib.Omega.{arith}
use borrow.Author.Tests.{ltb-true, ltb-false, eq-eqb}
use lib.Dec.{ltb, eqb}
use lib.ListN.{length}
use Rattle.buffer.specs.Bounds.{Bytes}
use Rattle.buffer.proofs.Splice.{take-spliced}
use Rattle.buffer.proofs.Tabulate.{length-tabulate}
use Rattle.erasure.specs.Coding.{share, shares}
use Rattle.erasure.specs.Rebuild.{Recovered, cause, message, present, recovered}
use Rattle.erasure.proofs.Outcomes.{recovered-few}
use Rattle.erasure.proofs.Sound.{sound-bytes}
use Rattle.merkle.specs.Strings.{Collision}
use Rattle.merkle.specs.Shares.{same, coding_strings}
use Rattle.merkle.proofs.Judged.{same_true, same_refl}
use Rattle.packet.specs.Class.{valid, class_of}
use Rattle.commitment.specs.Commitment.{message_root}
use Rattle.commitment.specs.Rebuild.{under_root, recoded_strings}
use Rattle.commitment.specs.Private.{Coded}
use Rattle.commitment.proofs.Opening.{open-coded}
use Rattle.commitment.proofs.Messages.{rebuilds}
use Rattle.commitment.proofs.Binding.{valid-share, one-root, no-collision}
use Rattle.commitment.proofs.Rebuild.{Short, short-recovered}
use Rattle.party.specs.State.{seat_of, Result, nothing, settled, message_in, result_in, has_ended, happy}
use Rattle.party.specs.Steps.{Stepped, recovered_by, rebuilt, result_found, held_or, result_of, faulty_of, relays_cause, ending, take_relays_of}
use Rattle.party.specs.declared.Party.{Party}
use Rattle.commitment.specs.declared.Seat.{Seat}
use Rattle.party.proofs.Outcomes.{holds_not, found-rebuilt}
use Rattle.party.proofs.Ways.{Way, on, off, way, clash}
use Rattle.agreement.specs.Calls.{Call, agree_root, agree_bit, take_shares, take_relays, step_of, inbox_in, Event, accepted, strings_over, made, events, recoded_in}
use Rattle.agreement.specs.Calls.{opening, did, first_of, result_after, opened_and_checked, recoded, settling}
use Rattle.agreement.specs.Agreement.{Good, join_over, all_opened_and_checked, all_settling, Clean, Premises}
use Rattle.agreement.specs.AgreedRoot.{found_unchecked, take_relays_unchecked, made_unchecked, events_unchecked}
use Rattle.agreement.specs.AgreedRoot.{EndsWith, EndsUnderItsRoot, Told, Somebodys, NoInventedMessage, NoStringMore, NoOtherEnding}
use Rattle.agreement.proofs.Lists.{same_some, same-root, one_bit, in-join, first-in}
use Rattle.agreement.proofs.Run.{event, gave-held}
use Rattle.agreement.proofs.Ran.{opened-is, Ran, did-chain, ends_is}
use Rattle.agreement.proofs.Ended.{waits-none, opened-did, Went, went, ended_by}
use Rattle.agreement.proofs.Needed.{glad, is_glad, relay_from, check}
use Rattle.agreement.proofs.Conduct.{Conduct, shares_in, shares-or, conduct, someone}

-- a result is not another
not-settled : {m : List ℕ} → nothing ≡ settled m → ⊥
not-settled e = let q : ◌≡◌ {A = ℕ} 0 1 = cc in omega arith

one-settled : {m o : List ℕ} → settled m ≡ settled o → m ≡ o
one-settled e = cc

not-message : {k : ℕ} {m : List ℕ} → cause k ≡ message m → ⊥
not-message e = let q : ◌≡◌ {A = ℕ} 0 1 = cc in omega arith

one-message : {m o : List ℕ} → message m ≡ message o → m ≡ o
one-message e = cc

-- a collision is one in a longer list too
collision-in : (H : List ℕ → List ℕ) {xs ys zs : List (List ℕ)} → ((s : List ℕ) → Memᴰ s xs → Memᴰ s zs) → Collision H xs ys → Collision H zs ys
collision-in H f k =
    record {
      first = k.first;
      second = k.second;
      first-in = f k.first k.first-in;
      second-in = k.second-in;
      differ = k.differ;
      same = k.same;
    }

-- what step 5 gives where its result is a message
ending-settled : (x : Party) (r : Result) (f : ℕ) (out m : List ℕ) → (ending x r f out).result ≡ some (settled m) → r ≡ settled m
ending-settled x nothing f out m e = same_some e
ending-settled x (settled o) f out m e = go (way (ltb (length out) (length o)))
  where
    go : Way (ltb (length out) (length o)) → settled o ≡ settled m
    go (on w) = absurd (none-ne-some (settled m) (rw w at e))
    go (off w) = ap settled (sym (take-spliced out o)) ∙ same_some (rw w at e)

-- a string of several lists is one of one of them, and a string of several calls one of one call
of_some : {A : Type 0} (f : A → List (List ℕ)) (s : List ℕ) (l : List A) → Memᴰ s (join_over f l) → (a : A) × Memᴰ a l × Memᴰ s (f a)
unfolding join_over
of_some f s [] h = absurd (Memᴰ.not-nil h)
of_some {A} f s (b ∷ l) h = go (Memᴰ.append_cases (f b) h) (of_some f s l)
  where
    go : Memᴰ s (f b) ⊎ Memᴰ s (join_over f l) → (Memᴰ s (join_over f l) → (a : A) × Memᴰ a l × Memᴰ s (f a))
        → (a : A) × Memᴰ a (b ∷ l) × Memᴰ s (f a)
    go (inl k) rest = (b, Memᴰ.head refl, k)
    go (inr k) rest = let r = rest k in (r.0, Memᴰ.tail r.1, r.2)

of_one : (of : Party → Call → List (List ℕ)) (s : List ℕ) (es : List Event) → Memᴰ s (strings_over of es)
    → (e : Event) × Memᴰ e es × Memᴰ s (of e.before e.call)
unfolding strings_over
of_one of s [] h = absurd (Memᴰ.not-nil h)
of_one of s (d ∷ es) h = go (Memᴰ.append_cases (of d.before d.call) h) (of_one of s es)
  where
    go : Memᴰ s (of d.before d.call) ⊎ Memᴰ s (strings_over of es)
        → (Memᴰ s (strings_over of es) → (e : Event) × Memᴰ e es × Memᴰ s (of e.before e.call))
        → (e : Event) × Memᴰ e (d ∷ es) × Memᴰ s (of e.before e.call)
    go (inl k) rest = (d, Memᴰ.head refl, k)
    go (inr k) rest = let r = rest k in (r.0, Memᴰ.tail r.1, r.2)

module _ (H : List ℕ → List ℕ) where
  given-settled : (x : Party) (inbox out m : List ℕ) → (made H x (take_relays inbox out)).result ≡ some (settled m) → result_of H x inbox ≡ settled m
  unfolding made take_relays_of
  given-settled x inbox out m e = go (way (eqb (relays_cause x inbox) 0))
    where
      go : Way (eqb (relays_cause x inbox) 0) → result_of H x inbox ≡ settled m
      go (on q) = ending-settled x (result_of H x inbox) (faulty_of H x inbox) out m (rw q at e)
      go (off q) = absurd (none-ne-some (settled m) (rw q at e))

  -- what is rebuilt under a root has it
  under-settled : (session n t : ℕ) (z : List ℕ) (a : Recovered) (m : List ℕ) → rebuilt (under_root H session n t z a) ≡ settled m
      → (a ≡ message m) × (message_root H session n t m ≡ z)
  under-settled session n t z (cause k) m e = absurd (not-settled e)
  under-settled session n t z (message o) m e = go (way (same (message_root H session n t o) z))
    where
      go : Way (same (message_root H session n t o) z) → (message o ≡ message m) × (message_root H session n t m ≡ z)
      go (on q) =
          let k : o ≡ m = one-settled (rw q at e) in
          (ap message k, ap (message_root H session n t) (sym k) ∙ same_true (message_root H session n t o) z q)
      go (off q) = absurd (not-settled (rw q at e))

  found-root : (x : Party) (inbox m : List ℕ) → result_found H x inbox ≡ settled m → message_root H x.seat.session x.seat.n x.seat.t m ≡ x.root
  unfolding result_found happy
  found-root x inbox m e = go (way (happy H x))
    where
      go : Way (happy H x) → message_root H x.seat.session x.seat.n x.seat.t m ≡ x.root
      go (on q) =
          let k : message_in x ≡ m = one-settled (rw q at e) in
          ap (message_root H x.seat.session x.seat.n x.seat.t) (sym k) ∙ same_true (message_root H x.seat.session x.seat.n x.seat.t (message_in x)) x.root q
      go (off q) = (under-settled x.seat.session x.seat.n x.seat.t x.root (recovered_by H x inbox) m (rw q at e)).1

  state-root : (x : Party) (inbox out m : List ℕ) → has_ended x.stage ≡ false → (made H x (take_relays inbox out)).result ≡ some (settled m)
      → message_root H x.seat.session x.seat.n x.seat.t m ≡ x.root
  unfolding result_of
  state-root x inbox out m w e =
      found-root x inbox m (ap (λ (o : Option Result). held_or o (result_found H x inbox)) (sym (waits-none x w)) ∙ given-settled x inbox out m e)

  -- a call that codes a message again is a step 5 of an unhappy party that has not ended
  recodes-then : (x : Party) (c : Call) (s : List ℕ) → Memᴰ s (recoded_in H x c)
      → (step_of c ≡ 5) × (has_ended x.stage ≡ false) × (happy H x ≡ false)
      × Memᴰ s (recoded_strings H x.seat.session x.seat.n x.seat.t (recovered_by H x (inbox_in c)))
  unfolding recoded_in
  recodes-then x (agree_root z) s h = absurd (Memᴰ.not-nil h)
  recodes-then x (agree_bit bit out) s h = absurd (Memᴰ.not-nil h)
  recodes-then x (take_shares inbox out) s h = absurd (Memᴰ.not-nil h)
  recodes-then x (take_relays inbox out) s h = go (way (has_ended x.stage)) (way (happy H x))
    where
      go : Way (has_ended x.stage) → Way (happy H x) → (◌≡◌ {A = ℕ} 5 5) × (has_ended x.stage ≡ false) × (happy H x ≡ false)
          × Memᴰ s (recoded_strings H x.seat.session x.seat.n x.seat.t (recovered_by H x inbox))
      go (on e) g = absurd (Memᴰ.not-nil (rw e at h))
      go (off e) (on g) = absurd (Memᴰ.not-nil (rw (e, g) at h))
      go (off e) (off g) = (refl, e, g, rw (e, g) at h)

  -- an accepted call that gives something else without the check: it rebuilds a message that has another root
  record Differs (x : Party) (c : Call) : Type 0 where
    five : step_of c ≡ 5
    waits : has_ended x.stage ≡ false
    unhappy : happy H x ≡ false
    m : List ℕ
    found : recovered_by H x (inbox_in c) ≡ message m
    wrong : same (message_root H x.seat.session x.seat.n x.seat.t m) x.root ≡ false

  module _ (x : Party) (inbox out : List ℕ) (q : eqb (relays_cause x inbox) 0 ≡ true) (e : result_in x ≡ none)
      (d : (made H x (take_relays inbox out)).cause ≡ 0 → Differs x (take_relays inbox out) → ⊥) where
    -- an end with nothing is accepted
    void : result_found H x inbox ≡ nothing → (made H x (take_relays inbox out)).cause ≡ 0
    unfolding made take_relays_of result_of
    void f = rw (q, e, f)

    found-same : found_unchecked H x inbox ≡ result_found H x inbox
    unfolding found_unchecked result_found
    found-same = go (way (happy H x)) (recovered_by H x inbox) refl
      where
        go : Way (happy H x) → (a : Recovered) → recovered_by H x inbox ≡ a → found_unchecked H x inbox ≡ result_found H x inbox
        go (on g) a r = rw g
        go (off g) (cause k) r = rw g (ap rebuilt r ∙ ap (λ (a : Recovered). rebuilt (under_root H x.seat.session x.seat.n x.seat.t x.root a)) (sym r))
        go (off g) (message m) r = pick (way (same (message_root H x.seat.session x.seat.n x.seat.t m) x.root))
          where
            now : result_found H x inbox ≡ rebuilt (cond (same (message_root H x.seat.session x.seat.n x.seat.t m) x.root) (message m) (cause 15))
            now = found-rebuilt H x inbox g ∙ ap (λ (a : Recovered). rebuilt (under_root H x.seat.session x.seat.n x.seat.t x.root a)) r

            pick : Way (same (message_root H x.seat.session x.seat.n x.seat.t m) x.root) → found_unchecked H x inbox ≡ result_found H x inbox
            pick (on w) = let before : found_unchecked H x inbox ≡ settled m = rw g (ap rebuilt r) in before ∙ sym (now ∙ rw w)
            pick (off w) =
                absurd (d (void (now ∙ rw w)) (record { five = refl; waits = holds_not x e; unhappy = g; m = m; found = r; wrong = w }))

  unchecked-same : (x : Party) (c : Call) → ((made H x c).cause ≡ 0 → Differs x c → ⊥) → made_unchecked H x c ≡ made H x c
  unfolding made_unchecked made take_relays_unchecked take_relays_of result_of
  unchecked-same x (agree_root z) d = refl
  unchecked-same x (agree_bit bit out) d = refl
  unchecked-same x (take_shares inbox out) d = refl
  unchecked-same x (take_relays inbox out) d = go (way (eqb (relays_cause x inbox) 0)) (result_in x) refl
    where
      go : Way (eqb (relays_cause x inbox) 0) → (o : Option Result) → result_in x ≡ o → take_relays_unchecked H x inbox out ≡ made H x (take_relays inbox out)
      go (off q) o e = rw q
      go (on q) (some r) e = rw (q, e)
      go (on q) none e = rw (q, e) (ap (λ (r : Result). ending x r (faulty_of H x inbox) out) (found-same x inbox out q e d))

  lists-same : (x : Party) (cs : List Call) → ((e : Event) → Memᴰ e (accepted (events H x cs)) → Differs e.before e.call → ⊥)
      → events_unchecked H x cs ≡ events H x cs
  unfolding events_unchecked events accepted
  lists-same x [] d = refl
  lists-same x (c ∷ cs) d =
      ap {B = List Event} (λ (r : Stepped). record { before = x; call = c; reply = r } ∷ events_unchecked H r.state cs) (unchecked-same x c here)
      ∙ ap (λ (l : List Event). event H x c ∷ l) (lists-same (made H x c).state cs later)
    where
      here : (made H x c).cause ≡ 0 → Differs x c → ⊥
      here a = d (event H x c) (rw (eq-eqb (made H x c).cause 0 a) (Memᴰ.head refl))

      later : (e : Event) → Memᴰ e (accepted (events H (made H x c).state cs)) → Differs e.before e.call → ⊥
      later e h = d e (go (way (eqb (made H x c).cause 0)))
        where
          go : Way (eqb (made H x c).cause 0) → Memᴰ e (accepted (events H x (c ∷ cs)))
          go (on y) = rw y (Memᴰ.tail h)
          go (off y) = rw y h

  module _ (session n t : ℕ) (A : Good) where
    abbrev calls : List Call
    calls = A.calls

    ends-after : (R : Result) → EndsWith H session n t A R → result_after H session n t A.own A.message calls ≡ some R
    ends-after R (inl f) = f
    ends-after R (inr k) =
        let o = opened-did H session n t A.own A.message calls k.0 k.1 in
        let g = gave-held H _ _ _ (did-chain H session n t A.own A.message calls o) k.0 k.1 k.2 in
        ends_is H session n t A.own A.message calls o ∙ g.held ∙ sym g.is ∙ k.3

    -- a message at the end is the own one of a happy party, or was rebuilt
    data Known (z m : List ℕ) : Type 0 where
      kept : A.message ≡ m → Known z m
      coded : glad H session n t A.message z ≡ false → recovered (n - t) (present 1 (shares_in H session n t A.own A.message calls z)) ≡ message m → Known z m

    -- and it has the agreed root
    known : (z m : List ℕ) → result_after H session n t A.own A.message calls ≡ some (settled m) → Conduct H session n t A.own A.message calls z
        → Known z m × (message_root H session n t m ≡ z)
    known z m f c = go (way (glad H session n t A.message z)) (same_some (sym c.ends ∙ f))
      where
        go : Way (glad H session n t A.message z) → c.result ≡ settled m → Known z m × (message_root H session n t m ≡ z)
        go (on e) q =
            let k : A.message ≡ m = one-settled (sym (c.keeps e) ∙ q) in
            (kept k, ap (message_root H session n t) (sym k) ∙ same_true (message_root H session n t A.message) z e)
        go (off u) q = let k = under-settled session n t z _ m (sym (c.rebuilds u) ∙ q) in (coded u k.0, k.1)

    list-root : (m : List ℕ) → EndsWith H session n t A (settled m) → (e : Event) × (z : List ℕ) × (first_of H session n t A.own A.message calls 2 ≡ some e)
        × (e.call ≡ agree_root z) × (message_root H session n t m ≡ z)
    list-root m k = (w.second, w.z, w.is-2, w.root, last w.rest)
      where
        f : result_after H session n t A.own A.message calls ≡ some (settled m)
        f = ends-after (settled m) k

        w : Went H session n t A.own A.message calls (settled m)
        w = went H session n t A.own A.message calls (settled m) f

        last : ((w.bit ≡ 0) × (settled m ≡ nothing)) ⊎ ((w.bit ≡ 1) × Ran H session n t A.own A.message calls w.z)
            → message_root H session n t m ≡ w.z
        last (inl q) = absurd (not-settled (sym q.1))
        last (inr q) = (known w.z m f (conduct H session n t A.own A.message w.z calls q.1)).1

-- one party, with nothing supposed
pub ends-under-its-root : (H : List ℕ → List ℕ) → EndsUnderItsRoot H
ends-under-its-root H = record { any-state = state-root H; any-list = list-root H }

-- all good parties, told one root and one bit
module _ (H : List ℕ → List ℕ) (wide : (s : List ℕ) → length (H s) ≡ 32) (session n t : ℕ) (good : List Good) (z : List ℕ) (bit : ℕ)
    (T : Told H session n t good z bit) where
  opened : (A : Good) → Memᴰ A good → (opening H session n t A.own A.message).cause ≡ 0
  opened A h =
      let r = T.root A h in
      opened-did H session n t A.own A.message A.calls r.0 (first-in 2 (did H session n t A.own A.message A.calls) r.0 r.1).0

  codes : (A : Good) → Memᴰ A good → Coded n t A.message
  codes A h = open-coded n t A.own A.message (opened-is H session n t A.own A.message (opened A h)).0

  -- one that ended was told z and the agreed bit
  module _ (A : Good) (h : Memᴰ A good) (R : Result) (w : Went H session n t A.own A.message A.calls R) where
    told-root : w.z ≡ z
    told-root =
        let r = T.root A h in
        same-root (sym w.root ∙ ap (λ (e : Event). e.call) (same_some (sym w.is-2 ∙ r.1)) ∙ r.2)

    told-bit : w.bit ≡ bit
    told-bit = one_bit (sym w.told ∙ (T.same_bit A h w.third w.is-3).1)

    conducts : Ran H session n t A.own A.message A.calls w.z → Conduct H session n t A.own A.message A.calls z
    conducts r =
        conduct H session n t A.own A.message z A.calls (subst (λ (y : List ℕ). Ran H session n t A.own A.message A.calls y) told-root r)

  happy-one : bit ≡ 1 → (B : Good) × Memᴰ B good × (is_glad H session n t z B ≡ true)
  happy-one = someone H session n t good z opened T.root bit T.vote

  -- what is rebuilt is of bytes and within the limits
  rebuilt-fine : (A : Good) → Memᴰ A good → (m : List ℕ)
      → recovered (n - t) (present 1 (shares_in H session n t A.own A.message A.calls z)) ≡ message m → Coded n t m × Bytes m
  rebuilt-fine A h m e =
      let c = codes A h in
      let gs = shares_in H session n t A.own A.message A.calls z in
      let all : length gs ≡ n = length-tabulate n _ in
      let short : Short (message m) = subst Short e (short-recovered (n - t) (present 1 gs)) in (
        record { low = c.low; high = c.high; faults = c.faults; short = short },
        sound-bytes (n - t) m gs (omega (arith, c.low, c.faults)) (omega (arith, all, c.high)) e,
      )

  -- the message that a good party ends with
  module _ (A : Good) (h : Memᴰ A good) (m : List ℕ) (f : result_after H session n t A.own A.message A.calls ≡ some (settled m)) where
    message-is : (c : Conduct H session n t A.own A.message A.calls z) → bit ≡ 1 → Somebodys H session n t good A (settled m)
    message-is c b1 = go (known H session n t A z m f c).0
      where
        go : Known H session n t A z m → Somebodys H session n t good A (settled m)
        go (kept e) = inr (A, h, inl (ap settled (sym e)))
        go (coded u e) =
            let b = happy-one b1 in
            let g = rebuilt-fine A h m e in
            inr (
              b.0,
              b.1,
              pick b.0 (λ s k. c.recodes u s (subst (λ (a : Recovered). Memᴰ s (recoded_strings H session n t a)) (sym e) k))
                  (one-root H wide session n t m b.0.message g.0 (codes b.0 b.1) g.1 (T.bytes b.0 b.1)
                  ((known H session n t A z m f c).1 ∙ sym (same_true (message_root H session n t b.0.message) z b.2))),
            )
          where
            pick : (B : Good) → ((s : List ℕ) → Memᴰ s (coding_strings H session n (shares n (n - t) m)) → Memᴰ s (recoded H session n t A.own A.message A.calls))
                → (m ≡ B.message) ⊎ Collision H (coding_strings H session n (shares n (n - t) m)) (coding_strings H session n (shares n (n - t) B.message))
                → (settled m ≡ settled B.message)
                ⊎ Collision H (recoded H session n t A.own A.message A.calls) (coding_strings H session n (shares n (n - t) B.message))
            pick B in_List (inl k) = inl (ap settled k)
            pick B in_List (inr k) = inr (collision-in H in_List k)

    settled_is : Somebodys H session n t good A (settled m)
    settled_is = go w.rest
      where
        w : Went H session n t A.own A.message A.calls (settled m)
        w = went H session n t A.own A.message A.calls (settled m) f

        go : ((w.bit ≡ 0) × (settled m ≡ nothing)) ⊎ ((w.bit ≡ 1) × Ran H session n t A.own A.message A.calls w.z) → Somebodys H session n t good A (settled m)
        go (inl q) = absurd (not-settled (sym q.1))
        go (inr q) = message-is (conducts A h (settled m) w q.1) (sym (told-bit A h (settled m) w) ∙ q.0)

  no-invented : (A : Good) → Memᴰ A good → (R : Result) → EndsWith H session n t A R → Somebodys H session n t good A R
  no-invented A h nothing k = inl refl
  no-invented A h (settled m) k = settled_is A h m (ends-after H session n t A (settled m) k)

  -- where no two different strings of openings and path checks have one hash: an unhappy party that had not ended rebuilds the message of a happy one, or none
  module _ (clean : Clean H session n t good) where
    record Found (x : Party) (inbox : List ℕ) : Type 0 where
      B : Good
      there : Memᴰ B good
      has : message_root H session n t B.message ≡ z
      own : ℕ
      seated : x.seat ≡ seat_of session n t own
      agreed : x.root ≡ z
      is : (recovered_by H x inbox ≡ cause 11) ⊎ (recovered_by H x inbox ≡ message B.message)

    module _ (A : Good) (h : Memᴰ A good) (c : Conduct H session n t A.own A.message A.calls z) (u : glad H session n t A.message z ≡ false)
        (B : Good) (k : Memᴰ B good) (g : glad H session n t B.message z ≡ true) where
      root-B : message_root H session n t B.message ≡ z
      root-B = same_true (message_root H session n t B.message) z g

      -- a relay that passes has B's share
      only : (j : ℕ) (x : List ℕ) (p : List (List ℕ)) → class_of H session n j z (relay_from H session n t A.own A.message A.calls j) ≡ valid x p
          → x ≡ share (n - t) j B.message
      unfolding opened_and_checked
      only j x p v =
          no-collision H (λ s. Memᴰ s (all_opened_and_checked H session n t good)) clean
          (λ s q. in-join (λ (C : Good). opened_and_checked H session n t C.own C.message C.calls) h (c.hashes s (check u j x p v q)))
          (λ s q. in-join (λ (C : Good). opened_and_checked H session n t C.own C.message C.calls) k (Memᴰ.append_left _ q))
          (valid-share H wide session n t B.message (codes B k) z root-B j (relay_from H session n t A.own A.message A.calls j) x p v)

      abbrev gs : List (List ℕ)
      gs = shares_in H session n t A.own A.message A.calls z

      gs-length : length gs ≡ n
      gs-length = length-tabulate n _

      rebuilds-B : (recovered (n - t) (present 1 gs) ≡ cause 11) ⊎ (recovered (n - t) (present 1 gs) ≡ message B.message)
      rebuilds-B = go (way (ltb (length (present 1 gs)) (n - t)))
        where
          go : Way (ltb (length (present 1 gs)) (n - t))
              → (recovered (n - t) (present 1 gs) ≡ cause 11) ⊎ (recovered (n - t) (present 1 gs) ≡ message B.message)
          go (on q) = inl (recovered-few (n - t) (present 1 gs) (ltb-true (length (present 1 gs)) (n - t) q))
          go (off q) =
              inr (rebuilds n t B.message (codes B k) gs gs-length
              (shares-or H session n t A.own A.message A.calls z (n - t) B.message only) (ltb-false (length (present 1 gs)) (n - t) q) (T.bytes B k))

    finds : (A : Good) → Memᴰ A good → (e : Event) → Memᴰ e (did H session n t A.own A.message A.calls) → step_of e.call ≡ 5
        → has_ended e.before.stage ≡ false → happy H e.before ≡ false → Found e.before (inbox_in e.call)
    finds A h e k five waits unhappy =
        let b = ended_by H session n t A.own A.message A.calls e k five waits in
        let c = conducts A h b.0 b.1 b.3 in
        let d = c.last-call e b.4 in
        let u = sym d.2 ∙ unhappy in
        let o = happy-one (sym (told-bit A h b.0 b.1) ∙ b.2) in
        record {
          B = o.0;
          there = o.1;
          has = same_true (message_root H session n t o.0.message) z o.2;
          own = A.own;
          seated = d.0;
          agreed = d.1;
          is = subst (λ (a : Recovered). (a ≡ cause 11) ⊎ (a ≡ message o.0.message)) (sym (d.3 u)) (rebuilds-B A h c u o.0 o.1 o.2);
        }

    -- so its strings are those of an opening
    string-covered : (A : Good) → Memᴰ A good → (s : List ℕ) → Memᴰ s (recoded H session n t A.own A.message A.calls)
        → Memᴰ s (all_opened_and_checked H session n t good)
    unfolding recoded opened_and_checked
    string-covered A h s k =
        let r = of_one (recoded_in H) s (did H session n t A.own A.message A.calls) k in
        let q = recodes-then H r.0.before r.0.call s r.2 in
        go (finds A h r.0 r.1 q.0 q.1 q.2) q.3
      where
        pick : (B : Good) → Memᴰ B good → (a : Recovered) → (a ≡ cause 11) ⊎ (a ≡ message B.message) → Memᴰ s (recoded_strings H session n t a)
            → Memᴰ s (all_opened_and_checked H session n t good)
        pick B b a (inl q) l = absurd (Memᴰ.not-nil (subst (λ (o : Recovered). Memᴰ s (recoded_strings H session n t o)) q l))
        pick B b a (inr q) l =
            in-join (λ (C : Good). opened_and_checked H session n t C.own C.message C.calls) b
            (Memᴰ.append_left _ (subst (λ (o : Recovered). Memᴰ s (recoded_strings H session n t o)) q l))

        go : {x : Party} {inbox : List ℕ} → Found x inbox → Memᴰ s (recoded_strings H x.seat.session x.seat.n x.seat.t (recovered_by H x inbox))
            → Memᴰ s (all_opened_and_checked H session n t good)
        go {x} {inbox} f l =
            pick f.B f.there (recovered_by H x inbox) f.is
            (subst (λ (v : Seat). Memᴰ s (recoded_strings H v.session v.n v.t (recovered_by H x inbox))) f.seated l)

    -- and nothing ends differently
    never-differs : (A : Good) → Memᴰ A good → (e : Event) → Memᴰ e (did H session n t A.own A.message A.calls)
        → Differs H e.before e.call → ⊥
    never-differs A h e k d = go f.is
      where
        f : Found e.before (inbox_in e.call)
        f = finds A h e k d.five d.waits d.unhappy

        go : (recovered_by H e.before (inbox_in e.call) ≡ cause 11) ⊎ (recovered_by H e.before (inbox_in e.call) ≡ message f.B.message) → ⊥
        go (inl q) = not-message (sym q ∙ d.found)
        go (inr q) =
            let M : List ℕ = f.B.message in
            let is : M ≡ d.m = one-message (sym q ∙ d.found) in
            let s : Seat = e.before.seat in
            let root : message_root H s.session s.n s.t d.m ≡ e.before.root =
            ap (message_root H s.session s.n s.t) (sym is)
            ∙ ap (λ (v : Seat). message_root H v.session v.n v.t M) f.seated ∙ f.has ∙ sym f.agreed in
            clash (ap (λ (y : List ℕ). same y e.before.root) root ∙ same_refl e.before.root) d.wrong

-- the three claims on all good parties
module _ (H : List ℕ → List ℕ) (wide : (s : List ℕ) → length (H s) ≡ 32) where
  pub no-invented-message : NoInventedMessage H
  no-invented-message = no-invented H wide

  pub no-string-more : NoStringMore H
  no-string-more session n t good z bit T clean s h =
      let r = of_some (λ (A : Good). settling H session n t A.own A.message A.calls) s good h in
      go r.0 r.1 (Memᴰ.append_cases (opened_and_checked H session n t r.0.own r.0.message r.0.calls) r.2)
    where
      go : (A : Good) → Memᴰ A good
          → Memᴰ s (opened_and_checked H session n t A.own A.message A.calls) ⊎ Memᴰ s (recoded H session n t A.own A.message A.calls)
          → Memᴰ s (all_opened_and_checked H session n t good)
      go A k (inl l) = in-join (λ (C : Good). opened_and_checked H session n t C.own C.message C.calls) k l
      go A k (inr l) = string-covered H wide session n t good z bit T clean A k s l

  pub no-other-ending : NoOtherEnding H
  unfolding did
  no-other-ending session n t good z bit T clean A h =
      lists-same H (opening H session n t A.own A.message).state A.calls (never-differs H wide session n t good z bit T clean A h)

-- what agreement supposes is more
premises-tell : (H : List ℕ → List ℕ) (session n t : ℕ) (good : List Good) (z : List ℕ) (bit : ℕ) → Premises H session n t good z bit → Told H session n t good z bit
premises-tell H session n t good z bit P =
    record {
      bytes = P.opened.bytes;
      root = P.called.step2;
      same_bit = λ A h e f. let r = P.called.step3 A h in (r.1, ap (λ (v : Event). v.call) (same_some (sym f ∙ r.2)) ∙ r.3);
      vote = P.ruled.vote;
    }

-- so no two different strings of all that settle good parties' results have one hash, where none of openings and path checks do
pub all-clean : (H : List ℕ → List ℕ) → ((s : List ℕ) → length (H s) ≡ 32) → (session n t : ℕ) (good : List Good) (z : List ℕ) (bit : ℕ) → Premises H session n t good z bit
    → (x y : List ℕ) → Memᴰ x (all_settling H session n t good) → Memᴰ y (all_settling H session n t good) → H x ≡ H y → x ≡ y
all-clean H wide session n t good z bit P x y h k =
    let covered = no-string-more H wide session n t good z bit (premises-tell H session n t good z bit P) P.clean in
    P.clean x y (covered x h) (covered y k)
