-- No string more: what a call gives back depends on the hash only at the strings of the state's own message, of the path checks that `Calls.judged_in`
-- lists and of the second coding that `Calls.recoded_in` lists; two hashes that agree on these give the same reply. And all of it but the map of those seen to
-- be faulty depends on fewer: of path checks, on those that `Calls.checked_in` lists. By the same law of the tree, the path and the check. Assumes nothing.
use mathlib.Core.Path.{◌≡◌, refl, sym, ap, ap₂, subst, ◌∙◌}
use mathlib.Core.Bool.{Bool, false, cond, not, ◌&&◌, ◌||◌}
use mathlib.Core.List.Memᴰ
use mathlib.Core.List.{List, [], ◌∷◌, ◌++◌, Memᴰ}
use mathlib.Core.Option.{Option, none, some}
use Prim.Native.Nat.{ℕ, ◌+◌, ◌-◌, ◌≤◌}
use native.Mathlib.Omega.{arith}
use borrow.Author.Tests.{eqb-true, eqb-false}
use lib.Dec.{ltb, eqb}
use lib.ListN.{length, get_or, take, replicate}
use Rattle.buffer.specs.Entries.{bodies}
use Rattle.buffer.proofs.Entries.{length-bodies}
use Rattle.buffer.proofs.Tabulate.{tabulate-cong}
use Rattle.bitmap.specs.Bitmap.{names}
use Rattle.bitmap.proofs.Collected.{map_same}
use Rattle.erasure.specs.Coding.{share, shares}
use Rattle.erasure.specs.Rebuild.{Recovered, cause, message, present, recovered}
use Rattle.merkle.specs.Shares.{leaves_of, sides_of, path_of, same, passes, coding_strings, strings_of}
use Rattle.merkle.proofs.Judged.{passes_same, passes-miscount}
use Rattle.merkle.proofs.Depends.{Agree}
use Rattle.merkle.proofs.Shares.{tree-root, tree-path}
use Rattle.merkle.proofs.Trees.{root-hashed, path-hashed, check-hashed}
use Rattle.packet.specs.Format.{Reading, silence, unreadable, shared, packet_of, read_of}
use Rattle.packet.specs.Inbox.{inbox_of}
use Rattle.packet.specs.Class.{Class, silent, faulty, valid, judged, class_of, checked_strings, class_strings}
use Rattle.party.specs.State.{Result, nothing, settled, message_in, share_held, at_bit, at_first, at_second, at_end, result_in, has_ended, message_root, happy}
use Rattle.party.specs.Steps.{packet_for, outbox_of, first_valid, taken_by, share_taken, packet_taken, own_relay, relay_of, held_of, share_from, gathered, rebuilt, recovered_by, result_found, held_or, result_of}
use Rattle.party.specs.Steps.{root_cause, with_root, Stepped, gives, agree_root_of, bit_cause, refused, writes, agree_bit_of, inbox_cause, relays_cause, take_shares_of, ending, take_relays_of}
use Rattle.party.specs.Steps.{entry, is_faulty, sent_faulty, faulty_in, faulty_shares, faulty_relays, faulty_of}
use Rattle.party.specs.Strings.{unless_valid, judged_strings, share_strings, relay_strings}
use Rattle.party.specs.declared.Party.{Party}
use Rattle.party.specs.Answer.{Answer}
use Rattle.party.specs.Answer as answer
use Rattle.agreement.specs.Calls.{Call, agree_root, agree_bit, take_shares, take_relays, made, checked_in, judged_in, recoded_in, hashed_in, settling_in}
use Rattle.agreement.proofs.Strings.{both-in, checked-judged}
use Rattle.party.proofs.Ways.{Way, on, off, way}
use Rattle.party.proofs.Checks.{in-judged}
use Rattle.party.proofs.Kept.{message-bit}
use Rattle.party.proofs.Outcomes.{holds_not}
use Rattle.commitment.specs.Rebuild.{under_root, recoded_strings}
use Rattle.commitment.specs.Private.{Coded}
use Rattle.commitment.proofs.Rebuild.{Short, short-recovered}
use Rattle.commitment.proofs.Messages.{fine}

-- a reply with its map set aside, in the state, the answer and beside it
abbrev mapless_answer : Answer → Answer
mapless_answer (answer.Refused k) = answer.Refused k
mapless_answer (answer.Short l) = answer.Short l
mapless_answer (answer.Happy b) = answer.Happy b
mapless_answer (answer.Sent l) = answer.Sent l
mapless_answer (answer.Nothing f) = answer.Nothing 0
mapless_answer (answer.Message l f) = answer.Message l 0

abbrev pub mapless : Stepped → Stepped
mapless r =
    let x : Party = r.state in
    record {
      state = record {
        seat = x.seat;
        stage = x.stage;
        message = x.message;
        len = x.len;
        root = x.root;
        share = x.share;
        held = x.held;
        faulty = 0;
      };
      answer = mapless_answer r.answer;
      cause = r.cause;
      value = r.value;
      result = r.result;
      faulty = 0;
      buffer = r.buffer;
    }

-- what steps 4 and 5 give with a map is, but for the map, what they give with another
abbrev given4 : Party → List ℕ → List ℕ → List ℕ → List ℕ → ℕ → Stepped
given4 x inbox out held bs f =
    cond (not (eqb (inbox_cause 4 x inbox) 0)) (refused x (inbox_cause 4 x inbox) out)
    (writes x (at_second x.seat (message_in x) x.root held f) bs out)

mapless-4 : (x : Party) (inbox out held bs : List ℕ) (f g : ℕ) → mapless (given4 x inbox out held bs f) ≡ mapless (given4 x inbox out held bs g)
unfolding at_second
mapless-4 x inbox out held bs f g = go (way (eqb (inbox_cause 4 x inbox) 0)) (way (ltb (length out) (length bs)))
  where
    go : Way (eqb (inbox_cause 4 x inbox) 0) → Way (ltb (length out) (length bs))
        → mapless (given4 x inbox out held bs f) ≡ mapless (given4 x inbox out held bs g)
    go (on e) (on w) = rw (e, w)
    go (on e) (off w) = rw (e, w)
    go (off e) w = rw e

abbrev given5 : Party → List ℕ → List ℕ → Result → ℕ → Stepped
given5 x inbox out r f = cond (not (eqb (relays_cause x inbox) 0)) (refused x (relays_cause x inbox) out) (ending x r f out)

mapless-5 : (x : Party) (inbox out : List ℕ) (r : Result) (f g : ℕ) → mapless (given5 x inbox out r f) ≡ mapless (given5 x inbox out r g)
unfolding at_end
mapless-5 x inbox out nothing f g = go (way (eqb (relays_cause x inbox) 0))
  where
    go : Way (eqb (relays_cause x inbox) 0) → mapless (given5 x inbox out nothing f) ≡ mapless (given5 x inbox out nothing g)
    go (on e) = rw e
    go (off e) = rw e
mapless-5 x inbox out (settled m) f g = go (way (eqb (relays_cause x inbox) 0)) (way (ltb (length out) (length m)))
  where
    go : Way (eqb (relays_cause x inbox) 0) → Way (ltb (length out) (length m))
        → mapless (given5 x inbox out (settled m) f) ≡ mapless (given5 x inbox out (settled m) g)
    go (on e) (on w) = rw (e, w)
    go (on e) (off w) = rw (e, w)
    go (off e) w = rw e

module _ (H K : List ℕ → List ℕ) where
  agree_left : (xs ys : List (List ℕ)) → Agree H K (xs ++ ys) → Agree H K xs
  agree_left xs ys f x h = f x (Memᴰ.append_left ys h)

  agree_right : (xs ys : List (List ℕ)) → Agree H K (xs ++ ys) → Agree H K ys
  agree_right xs ys f x h = f x (Memᴰ.append_right xs h)

  -- who agree on all that a call hashes agree on what settles all but its map
  settling-agree : (x : Party) (call : Call) → Agree H K (hashed_in H x call) → Agree H K (settling_in H x call)
  settling-agree x call f s h = f s (both-in (checked_in H x call) (recoded_in H x call) (judged_in H x call) (recoded_in H x call) (checked-judged H s x call) (λ k. k) h)

  -- a packet's class, by the strings of its check
  passes-depends : (session n j : ℕ) (z x : List ℕ) (p : List (List ℕ)) → Agree H K (strings_of H session n j x p (length p))
      → passes H session n j x p (length p) z ≡ passes K session n j x p (length p) z
  passes-depends session n j z x p f = go (way (eqb (length p) (length (sides_of n j))))
    where
      go : Way (eqb (length p) (length (sides_of n j))) → passes H session n j x p (length p) z ≡ passes K session n j x p (length p) z
      go (on e) =
          let c = eqb-true (length p) (length (sides_of n j)) e in
          passes_same H session n j x p (length p) z c
          ∙ ap (λ (y : List ℕ). same y z) (check-hashed H session n j x p (length p) K c f)
          ∙ sym (passes_same K session n j x p (length p) z c)
      go (off e) =
          let d = eqb-false (length p) (length (sides_of n j)) e in
          passes-miscount H session n j x p (length p) z d ∙ sym (passes-miscount K session n j x p (length p) z d)

  judged-depends : (session n j : ℕ) (z : List ℕ) (r : Reading) → Agree H K (checked_strings H session n j r) → judged H session n j z r ≡ judged K session n j z r
  judged-depends session n j z silence f = refl
  judged-depends session n j z unreadable f = refl
  judged-depends session n j z (shared k x p) f = go (way (eqb k j))
    where
      go : Way (eqb k j) → judged H session n j z (shared k x p) ≡ judged K session n j z (shared k x p)
      go (on e) = rw (e, passes-depends session n j z x p (rw e at f))
      go (off e) = rw e

  pub class-depends : (session n j : ℕ) (z w : List ℕ) → Agree H K (class_strings H session n j w) → class_of H session n j z w ≡ class_of K session n j z w
  unfolding class_of class_strings
  class-depends session n j z w f = judged-depends session n j z (read_of n w) f

  -- the search of step 4, and the shares of step 5
  pub first-depends : (session n own : ℕ) (z : List ℕ) (j : ℕ) (ps : List (List ℕ)) → Agree H K (share_strings H session n own z j ps)
      → first_valid H session n own z j ps ≡ first_valid K session n own z j ps
  unfolding first_valid share_strings
  first-depends session n own z j [] f = refl
  first-depends session n own z j (w ∷ ps) f = go (way (eqb j own)) (first-depends session n own z (j + 1) ps)
    where
      later : eqb j own ≡ false → (c : Class) → class_of H session n own z w ≡ c → class_of K session n own z w ≡ c
          → (Agree H K (share_strings H session n own z (j + 1) ps) → first_valid H session n own z (j + 1) ps ≡ first_valid K session n own z (j + 1) ps)
          → first_valid H session n own z j (w ∷ ps) ≡ first_valid K session n own z j (w ∷ ps)
      later e silent p q r =
          rw (e, p, q) (r (agree_right (class_strings H session n own w) (share_strings H session n own z (j + 1) ps) (rw (e, p) at f)))
      later e faulty p q r =
          rw (e, p, q) (r (agree_right (class_strings H session n own w) (share_strings H session n own z (j + 1) ps) (rw (e, p) at f)))
      later e (valid x path) p q r = rw (e, p, q)

      go : Way (eqb j own)
          → (Agree H K (share_strings H session n own z (j + 1) ps) → first_valid H session n own z (j + 1) ps ≡ first_valid K session n own z (j + 1) ps)
          → first_valid H session n own z j (w ∷ ps) ≡ first_valid K session n own z j (w ∷ ps)
      go (on e) r = rw e (r (rw e at f))
      go (off e) r =
          let c = class-depends session n own z w
          (agree_left (class_strings H session n own w) (unless_valid (class_of H session n own z w) (share_strings H session n own z (j + 1) ps)) (rw e at f)) in
          later e (class_of H session n own z w) refl (sym c) r

  pub gathered-depends : (x : Party) (j : ℕ) (ps : List (List ℕ)) → Agree H K (relay_strings H x.seat.session x.seat.n x.seat.own j ps)
      → gathered H x j ps ≡ gathered K x j ps
  unfolding gathered judged_strings
  gathered-depends x j [] f = refl
  gathered-depends x j (w ∷ ps) f =
      let s : List (List ℕ) = cond (eqb j x.seat.own) [] (class_strings H x.seat.session x.seat.n j w) in
      ap₂ {C = List (List ℕ)} (λ y l. y ∷ l) (go (way (eqb j x.seat.own)) (agree_left s (relay_strings H x.seat.session x.seat.n x.seat.own (j + 1) ps) f))
      (gathered-depends x (j + 1) ps (agree_right s (relay_strings H x.seat.session x.seat.n x.seat.own (j + 1) ps) f))
    where
      go : Way (eqb j x.seat.own) → Agree H K (cond (eqb j x.seat.own) [] (class_strings H x.seat.session x.seat.n j w))
          → cond (eqb j x.seat.own) (share_held x) (share_from (class_of H x.seat.session x.seat.n j x.root w))
          ≡ cond (eqb j x.seat.own) (share_held x) (share_from (class_of K x.seat.session x.seat.n j x.root w))
      go (on e) g = rw e
      go (off e) g = rw e (ap share_from (class-depends x.seat.session x.seat.n j x.root w (rw e at g)))

  -- a message's root and packets, by the strings of its tree
  module _ (wide : (x : List ℕ) → length (H x) ≡ 32) (session n t : ℕ) (m : List ℕ) (c : Coded n t m)
      (tree : Agree H K (coding_strings H session n (shares n (n - t) m))) where
    pub root-depends : message_root H session n t m ≡ message_root K session n t m
    unfolding message_root
    root-depends =
        root-hashed H wide session n (shares n (n - t) m) (fine n t m c session) K tree
        ∙ sym (tree-root K session n (shares n (n - t) m) (fine n t m c session) c.low c.high)

    path-same : (j : ℕ) → 1 ≤ j → j ≤ n
        → path_of H n j (leaves_of H session n (shares n (n - t) m)) ≡ path_of K n j (leaves_of K session n (shares n (n - t) m))
    path-same j first last =
        path-hashed H wide session n (shares n (n - t) m) (fine n t m c session) j first last K tree
        ∙ sym (tree-path K session n (shares n (n - t) m) (fine n t m c session) c.low c.high j first last)

  -- whether what was rebuilt has a root, by the strings of its second coding
  under-depends : ((x : List ℕ) → length (H x) ≡ 32) → (session n t : ℕ) (z m : List ℕ) → Coded n t m → (a : Recovered) → Short a
      → Agree H K (recoded_strings H session n t a) → under_root H session n t z a ≡ under_root K session n t z a
  under-depends wide session n t z m c (cause k) s f = refl
  under-depends wide session n t z m c (message o) s f =
      ap (λ (r : List ℕ). cond (same r z) (message o) (cause 15))
      (root-depends wide session n t o (record { low = c.low; high = c.high; faults = c.faults; short = s }) f)

  -- so all that a state's own message gives
  module _ (wide : (x : List ℕ) → length (H x) ≡ 32) (x : Party) (c : Coded x.seat.n x.seat.t (message_in x)) (own : 1 ≤ x.seat.own) (last : x.seat.own ≤ x.seat.n)
      (tree : Agree H K (coding_strings H x.seat.session x.seat.n (shares x.seat.n (x.seat.n - x.seat.t) (message_in x)))) where
    happy-depends : happy H x ≡ happy K x
    unfolding happy
    happy-depends = ap (λ (r : List ℕ). same r x.root) (root-depends wide x.seat.session x.seat.n x.seat.t (message_in x) c tree)

    packet-depends : (j : ℕ) → 1 ≤ j → j ≤ x.seat.n → packet_for H x j ≡ packet_for K x j
    unfolding packet_for
    packet-depends j first end =
        ap (λ (p : List (List ℕ)). packet_of j (share (x.seat.n - x.seat.t) j (message_in x)) (take (length (sides_of x.seat.n j)) p))
        (path-same wide x.seat.session x.seat.n x.seat.t (message_in x) c tree j first end)

    pub outbox-depends : (bit : ℕ) → outbox_of H x bit ≡ outbox_of K x bit
    unfolding outbox_of
    outbox-depends bit =
        ap₂ (λ (b : Bool) (l : List (List ℕ)). inbox_of (cond (eqb bit 1 && b) l (replicate x.seat.n []))) happy-depends
        (tabulate-cong x.seat.n (λ i. cond (eqb (i + 1) x.seat.own) [] (packet_for H x (i + 1)))
        (λ i. cond (eqb (i + 1) x.seat.own) [] (packet_for K x (i + 1)))
        (λ i l. ap (λ (w : List ℕ). cond (eqb (i + 1) x.seat.own) [] w) (packet-depends (i + 1) (omega arith) (omega arith))))

    relay-own-depends : own_relay H x ≡ own_relay K x
    relay-own-depends = ap (λ (w : List ℕ). cond (eqb x.seat.n 1) [] w) (packet-depends x.seat.own own last)

    -- what step 4 relays and keeps, and what step 5 ends with; a happy party makes no check
    module _ (inbox out : List ℕ) where
      abbrev Shares : Type 0
      Shares = Agree H K (checked_in H x (take_shares inbox out))

      abbrev Relays : Type 0
      Relays = Agree H K (settling_in H x (take_relays inbox out))

      taken-depends : happy H x ≡ false → Shares → taken_by H x inbox ≡ taken_by K x inbox
      unfolding checked_in
      taken-depends e f = first-depends x.seat.session x.seat.n x.seat.own x.root 1 (bodies x.seat.n inbox) (rw e at f)

      pub relay-depends : Shares → relay_of H x inbox ≡ relay_of K x inbox
      unfolding relay_of
      relay-depends f = go (way (happy H x))
        where
          go : Way (happy H x) → relay_of H x inbox ≡ relay_of K x inbox
          go (on e) = rw (e, sym happy-depends ∙ e) relay-own-depends
          go (off e) = rw (e, sym happy-depends ∙ e) (ap (packet_taken x) (taken-depends e f))

      pub held-depends : Shares → held_of H x inbox ≡ held_of K x inbox
      unfolding held_of
      held-depends f = go (way (happy H x))
        where
          go : Way (happy H x) → held_of H x inbox ≡ held_of K x inbox
          go (on e) = rw (e, sym happy-depends ∙ e)
          go (off e) = rw (e, sym happy-depends ∙ e) (ap share_taken (taken-depends e f))

      found-depends : has_ended x.stage ≡ false → Relays → result_found H x inbox ≡ result_found K x inbox
      unfolding result_found checked_in recoded_in
      found-depends w f = go (way (happy H x))
        where
          go : Way (happy H x) → result_found H x inbox ≡ result_found K x inbox
          go (on e) = rw (e, sym happy-depends ∙ e)
          go (off e) =
              let g = agree_left (checked_in H x (take_relays inbox out)) (recoded_in H x (take_relays inbox out)) f in
              let h = agree_right (checked_in H x (take_relays inbox out)) (recoded_in H x (take_relays inbox out)) f in
              rw (e, sym happy-depends ∙ e)
              (ap rebuilt (under-depends wide x.seat.session x.seat.n x.seat.t x.root (message_in x) c (recovered_by H x inbox)
              (short-recovered (x.seat.n - x.seat.t) _) (rw (w, e) at h)
              ∙ ap (λ (gs : List (List ℕ)). under_root K x.seat.session x.seat.n x.seat.t x.root (recovered (x.seat.n - x.seat.t) (present 1 gs)))
              (gathered-depends x 1 (bodies x.seat.n inbox) (rw (w, e) at g))))

      pub result-depends : Relays → result_of H x inbox ≡ result_of K x inbox
      unfolding result_of
      result-depends f = go (result_in x) refl
        where
          go : (o : Option Result) → result_in x ≡ o → held_or o (result_found H x inbox) ≡ held_or o (result_found K x inbox)
          go (some r) e = refl
          go none e = found-depends (holds_not x e) f

      -- whom the two inboxes bring into the map
      sent-depends : (number : ℕ → ℕ) (p : ℕ) → 1 ≤ p → p ≤ x.seat.n
          → Agree H K (judged_strings H x.seat.session x.seat.n x.seat.own number 1 (bodies x.seat.n inbox))
          → faulty_in H x inbox (number p) p ≡ faulty_in K x inbox (number p) p
      unfolding sent_faulty entry
      sent-depends number p first end f = go (way (eqb p x.seat.own))
        where
          w : List ℕ
          w = get_or (bodies x.seat.n inbox) (p - 1) []

          at : 1 + (p - 1) ≡ p
          at = omega arith

          go : Way (eqb p x.seat.own) → faulty_in H x inbox (number p) p ≡ faulty_in K x inbox (number p) p
          go (on e) = rw e
          go (off e) =
              rw e (ap is_faulty (class-depends x.seat.session x.seat.n (number p) x.root w
              (λ s h. f s (in-judged H x.seat.session x.seat.n x.seat.own number 1 (bodies x.seat.n inbox) (p - 1)
              (omega (arith, length-bodies x.seat.n inbox)) (λ q. eqb-false p x.seat.own e (sym at ∙ q)) s
              (subst (λ (k : ℕ). Memᴰ s (class_strings H x.seat.session x.seat.n (number k) w)) (sym at) h)))))

      pub shares-map-depends : Agree H K (judged_in H x (take_shares inbox out)) → faulty_shares H x inbox ≡ faulty_shares K x inbox
      unfolding judged_in faulty_shares
      shares-map-depends f = map_same _ _ x.seat.n (λ p a b. sent-depends (λ k. x.seat.own) p a b f)

      pub map-depends : Agree H K (judged_in H x (take_relays inbox out)) → faulty_of H x inbox ≡ faulty_of K x inbox
      unfolding judged_in faulty_of faulty_relays
      map-depends f = go (way (has_ended x.stage))
        where
          go : Way (has_ended x.stage) → faulty_of H x inbox ≡ faulty_of K x inbox
          go (on e) = rw e
          go (off e) =
              rw e (map_same _ _ x.seat.n (λ p a b. ap (λ (t : Bool). names x.faulty p || t) (sent-depends (λ k. k) p a b (rw e at f))))

    -- the root that a party is handed may be any
    bit-depends : (z : List ℕ) → happy H (with_root x z) ≡ happy K (with_root x z)
    unfolding happy at_bit
    bit-depends z =
        ap (λ (m : List ℕ). same (message_root H x.seat.session x.seat.n x.seat.t m) z) (message-bit x.seat (message_in x) z)
        ∙ ap (λ (r : List ℕ). same r z) (root-depends wide x.seat.session x.seat.n x.seat.t (message_in x) c tree)
        ∙ sym (ap (λ (m : List ℕ). same (message_root K x.seat.session x.seat.n x.seat.t m) z) (message-bit x.seat (message_in x) z))

    -- what steps 2 and 3 give
    step2-depends : (z : List ℕ) → made H x (agree_root z) ≡ made K x (agree_root z)
    unfolding made agree_root_of
    step2-depends z =
        ap {B = Stepped} (λ (b : Bool). cond (not (eqb (root_cause x z) 0)) (refused x (root_cause x z) [])
        (gives (with_root x z) (answer.Happy b) [])) (bit-depends z)

    step3-depends : (bit : ℕ) (out : List ℕ) → made H x (agree_bit bit out) ≡ made K x (agree_bit bit out)
    unfolding made agree_bit_of
    step3-depends bit out =
        ap {B = Stepped} (λ (bs : List ℕ). cond (not (eqb (bit_cause x bit) 0)) (refused x (bit_cause x bit) out)
        (writes x (cond (eqb bit 0) (at_end x.seat nothing 0) (at_first x.seat (message_in x) x.root)) bs out)) (outbox-depends bit)

    -- all of the reply but its map
    pub settled-depends : (call : Call) → Agree H K (settling_in H x call) → mapless (made H x call) ≡ mapless (made K x call)
    unfolding made agree_root_of agree_bit_of take_shares_of take_relays_of
    settled-depends (agree_root z) f = ap mapless (step2-depends z)
    settled-depends (agree_bit bit out) f = ap mapless (step3-depends bit out)
    settled-depends (take_shares inbox out) f =
        let g = agree_left (checked_in H x (take_shares inbox out)) (recoded_in H x (take_shares inbox out)) f in
        mapless-4 x inbox out (held_of H x inbox) (relay_of H x inbox) (faulty_shares H x inbox) 0
        ∙ ap₂ (λ (held bs : List ℕ). mapless (given4 x inbox out held bs 0)) (held-depends inbox out g) (relay-depends inbox out g)
        ∙ mapless-4 x inbox out (held_of K x inbox) (relay_of K x inbox) 0 (faulty_shares K x inbox)
    settled-depends (take_relays inbox out) f =
        mapless-5 x inbox out (result_of H x inbox) (faulty_of H x inbox) 0
        ∙ ap (λ (r : Result). mapless (given5 x inbox out r 0)) (result-depends inbox out f)
        ∙ mapless-5 x inbox out (result_of K x inbox) 0 (faulty_of K x inbox)

    -- the whole reply
    pub made-depends : (call : Call) → Agree H K (hashed_in H x call) → made H x call ≡ made K x call
    unfolding made agree_root_of agree_bit_of take_shares_of take_relays_of
    made-depends (agree_root z) f = step2-depends z
    made-depends (agree_bit bit out) f = step3-depends bit out
    made-depends (take_shares inbox out) f =
        let g = settling-agree x (take_shares inbox out) f in
        let k = agree_left (checked_in H x (take_shares inbox out)) (recoded_in H x (take_shares inbox out)) g in
        ap₂ (λ (held bs : List ℕ). given4 x inbox out held bs (faulty_shares H x inbox)) (held-depends inbox out k) (relay-depends inbox out k)
        ∙ ap (given4 x inbox out (held_of K x inbox) (relay_of K x inbox))
        (shares-map-depends inbox out (agree_left (judged_in H x (take_shares inbox out)) (recoded_in H x (take_shares inbox out)) f))
    made-depends (take_relays inbox out) f =
        ap₂ (given5 x inbox out) (result-depends inbox out (settling-agree x (take_relays inbox out) f))
        (map-depends inbox out (agree_left (judged_in H x (take_relays inbox out)) (recoded_in H x (take_relays inbox out)) f))
