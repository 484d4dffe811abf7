-- What a good party does on bit 1, told by what it heard and wrote, and by the call that ended it. A happy one sends its message's packets, relays its own share
-- and ends with its message; another relays a packet that passes if it heard one, and rebuilds from the relays that pass. By the laws of the party's
-- steps. Assumes nothing.
use mathlib.Core.Path.{◌≡◌, refl, sym, ap, ap₂, ◌∙◌, subst}
use mathlib.Core.Logic.{◌⊎◌, inl, inr, ◌≢◌}
use mathlib.Core.Bool.{Bool, true, false, cond}
use mathlib.Core.List.Memᴰ
use mathlib.Core.List.{List, [], Memᴰ}
use mathlib.Core.Option.{Option, some}
use Prim.Native.Nat.{ℕ, ◌+◌, ◌-◌, ◌*◌, ◌≤◌, ◌<◌}
use native.Mathlib.Omega.{arith}
use borrow.Author.Tests.{eqb-true, eqb-false}
use lib.Dec.{eqb}
use lib.ListN.{length, get_or, replicate, length-replicate}
use Rattle.buffer.specs.Splice.{tabulate}
use Rattle.buffer.specs.Entries.{bodies}
use Rattle.buffer.proofs.Entries.{length-bodies}
use Rattle.buffer.proofs.Tabulate.{length-tabulate, get_or-tabulate, tabulate-cong, tabulate-get_or}
use Rattle.erasure.specs.Coding.{share}
use Rattle.erasure.specs.Rebuild.{Recovered, present, recovered}
use Rattle.merkle.specs.Shares.{same}
use Rattle.packet.specs.Format.{packet_of}
use Rattle.packet.specs.Inbox.{inbox_of}
use Rattle.packet.specs.Class.{Class, silent, faulty, valid, judged, class_of, checked_strings, class_strings}
use Rattle.packet.proofs.Inbox.{inbox-bodies}
use Rattle.packet.proofs.Reading.{fields-of, read-empty}
use Rattle.packet.proofs.Class.{passing, rewritten}
use Rattle.commitment.specs.Commitment.{message_root, packets_with, relay_with}
use Rattle.commitment.specs.Rebuild.{under_root, recoded_strings}
use Rattle.party.specs.State.{seat_of, Result, nothing, settled, share_held, at_bit, at_first, at_second, happy}
use Rattle.party.specs.Steps.{packet_for, outbox_of, Taken, missing, found, share_taken, packet_taken, first_valid, faulty_shares, relay_of, held_of}
use Rattle.party.specs.Steps.{share_from, gathered, rebuilt, recovered_by, result_found, result_of}
use Rattle.party.specs.Strings.{share_strings}
use Rattle.party.specs.declared.Party.{Party}
use Rattle.party.proofs.Kept.{message-bit, message-first, message-second, share-second}
use Rattle.party.proofs.Ways.{Way, on, off, way}
use Rattle.party.proofs.Checks.{took, finds, in-relays, gathered-at, gathered-length}
use Rattle.agreement.specs.Calls.{Call, agree_root, agree_bit, take_shares, take_relays, inbox_in, Event, entry, heard, wrote, bit_given, lengths, checked_in, recoded_in}
use Rattle.agreement.specs.Calls.{opening, first_of, result_after, opened_and_checked, recoded, sent_by}
use Rattle.agreement.specs.Agreement.{Good, Each, step, Rule, OpenedAll, CalledAll, all_opened_and_checked}
use Rattle.agreement.proofs.Ran.{Ran, ran-none, ran-through, bit-given, bit-small}
use Rattle.agreement.proofs.Lists.{lengths_none, in-join, find}
use Rattle.agreement.proofs.Needed.{glad, is_glad, relay_from, Needs, coding, check, Needed}

module _ (H : List ℕ → List ℕ) (session n t i : ℕ) (m : List ℕ) (calls : List Call) (z : List ℕ) where
  abbrev done : ℕ → Option Event
  done k = first_of H session n t i m calls k

  -- the shares in the relays that pass, by number
  abbrev pub shares_in : List (List ℕ)
  shares_in = tabulate n (λ k. share_from (class_of H session n (1 + k) z (relay_from H session n t i m calls (1 + k))))

  -- each is a share of M or missing, where no relay that passes has another
  pub shares-or : (b : ℕ) (M : List ℕ) → ((j : ℕ) (x : List ℕ) (p : List (List ℕ)) → class_of H session n j z (relay_from H session n t i m calls j) ≡ valid x p
      → x ≡ share b j M) → (k : ℕ) → k < n → (get_or shares_in k [] ≡ []) ⊎ (get_or shares_in k [] ≡ share b (1 + k) M)
  shares-or b M only k l = go (class_of H session n (1 + k) z (relay_from H session n t i m calls (1 + k))) refl
    where
      at : get_or shares_in k [] ≡ share_from (class_of H session n (1 + k) z (relay_from H session n t i m calls (1 + k)))
      at = get_or-tabulate n _ k [] l

      go : (c : Class) → class_of H session n (1 + k) z (relay_from H session n t i m calls (1 + k)) ≡ c
          → (get_or shares_in k [] ≡ []) ⊎ (get_or shares_in k [] ≡ share b (1 + k) M)
      go silent v = inl (at ∙ ap share_from v)
      go faulty v = inl (at ∙ ap share_from v)
      go (valid x p) v = inr (at ∙ ap share_from v ∙ only (1 + k) x p v)

  pub record Conduct : Type 0 where
    pub result : Result
    pub ends : result_after H session n t i m calls ≡ some result
    pub sends : sent_by H session n t i m calls ≡ lengths (bodies n (wrote (done 3))) + (n - 1) * length (wrote (done 4))
    pub hashes : (s : List ℕ) → Needs H session n t i m calls z s → Memᴰ s (opened_and_checked H session n t i m calls)
    -- happy
    pub outbox : glad H session n t m z ≡ true → bodies n (wrote (done 3)) ≡ packets_with H session n t i m
    pub relay : glad H session n t m z ≡ true → wrote (done 4) ≡ relay_with H session n t i m
    pub keeps : glad H session n t m z ≡ true → result ≡ settled m
    -- unhappy
    pub quiet : glad H session n t m z ≡ false → bodies n (wrote (done 3)) ≡ replicate n []
    pub relays : glad H session n t m z ≡ false → (j : ℕ) → 1 ≤ j → j ≤ n → j ≢ i → (x : List ℕ) (p : List (List ℕ))
        → class_of H session n i z (heard n j (done 4)) ≡ valid x p
        → (y : List ℕ) × (q : List (List ℕ)) × (class_of H session n i z (wrote (done 4)) ≡ valid y q)
    pub rebuilds : glad H session n t m z ≡ false → result ≡ rebuilt (under_root H session n t z (recovered (n - t) (present 1 shares_in)))
    pub recodes : glad H session n t m z ≡ false → (s : List ℕ) → Memᴰ s (recoded_strings H session n t (recovered (n - t) (present 1 shares_in)))
        → Memᴰ s (recoded H session n t i m calls)
    -- the state that the call which ended it got, and what that call found in its inbox
    pub last-call : (e : Event) → first_of H session n t i m calls 5 ≡ some e → (e.before.seat ≡ seat_of session n t i) × (e.before.root ≡ z)
        × (happy H e.before ≡ glad H session n t m z)
        × (glad H session n t m z ≡ false → recovered_by H e.before (inbox_in e.call) ≡ recovered (n - t) (present 1 shares_in))

-- no bytes are silence
pub none-silent : (H : List ℕ → List ℕ) (session n i : ℕ) (z : List ℕ) → class_of H session n i z [] ≡ silent
unfolding class_of
none-silent H session n i z = ap (judged H session n i z) (read-empty n [] refl)

module _ (H : List ℕ → List ℕ) (session n t i : ℕ) (m z : List ℕ) where
  abbrev X1 : Party
  X1 = at_bit (seat_of session n t i) m z

  abbrev X2 : Party
  X2 = at_first (seat_of session n t i) m z

  -- whether it is happy
  happy-bit : happy H X1 ≡ glad H session n t m z
  unfolding happy at_bit
  happy-bit = ap (λ (b : List ℕ). same (message_root H session n t b) z) (message-bit (seat_of session n t i) m z)

  happy-first : happy H X2 ≡ glad H session n t m z
  unfolding happy at_first
  happy-first = ap (λ (b : List ℕ). same (message_root H session n t b) z) (message-first (seat_of session n t i) m z)

  happy-second : (x : List ℕ) (f : ℕ) → happy H (at_second (seat_of session n t i) m z x f) ≡ glad H session n t m z
  unfolding happy at_second
  happy-second x f = ap (λ (b : List ℕ). same (message_root H session n t b) z) (message-second (seat_of session n t i) m z x f)

  -- what lies in its outbox
  bodies_of : (ps : List (List ℕ)) → length ps ≡ n → bodies n (inbox_of ps) ≡ ps
  bodies_of ps e = ap (λ (k : ℕ). bodies k (inbox_of ps)) (sym e) ∙ inbox-bodies ps

  out_none : bodies n (inbox_of (replicate n [])) ≡ replicate n []
  out_none = bodies_of (replicate n []) (length-replicate {A = List ℕ} n [])

  pub out-happy : glad H session n t m z ≡ true → bodies n (outbox_of H X1 1) ≡ packets_with H session n t i m
  unfolding outbox_of packet_for at_bit
  out-happy e =
      rw (happy-bit ∙ e)
      (ap (λ (b : List ℕ). bodies n (inbox_of (packets_with H session n t i b))) (message-bit (seat_of session n t i) m z)
      ∙ bodies_of (packets_with H session n t i m) (length-tabulate n _))

  pub out-unhappy : glad H session n t m z ≡ false → bodies n (outbox_of H X1 1) ≡ replicate n []
  unfolding outbox_of at_bit
  out-unhappy e = rw (happy-bit ∙ e) out_none

  pub out-zero : bodies n (outbox_of H X1 0) ≡ replicate n []
  unfolding outbox_of at_bit
  out-zero = out_none

  pub relay-happy : glad H session n t m z ≡ true → (inbox : List ℕ) → relay_of H X2 inbox ≡ relay_with H session n t i m
  unfolding relay_of packet_for at_first
  relay-happy e inbox = rw (happy-first ∙ e) (ap (λ (b : List ℕ). relay_with H session n t i b) (message-first (seat_of session n t i) m z))

  result-happy : glad H session n t m z ≡ true → (x : List ℕ) (f : ℕ) (inbox : List ℕ) → result_of H (at_second (seat_of session n t i) m z x f) inbox ≡ settled m
  unfolding result_of result_found at_second
  result-happy e x f inbox = rw (happy-second x f ∙ e) (ap settled (message-second (seat_of session n t i) m z x f))

  -- an unhappy party: what it takes from the first inbox, relays and keeps
  module _ (u : glad H session n t m z ≡ false) (in4 : List ℕ) where
    abbrev pub it : Taken
    it = first_valid H session n i z 1 (bodies n in4)

    abbrev X3 : Party
    X3 = at_second (seat_of session n t i) m z (held_of H X2 in4) (faulty_shares H X2 in4)

    pub relay-is : relay_of H X2 in4 ≡ packet_taken X2 it
    unfolding relay_of at_first
    relay-is = rw (happy-first ∙ u)

    held-is : held_of H X2 in4 ≡ share_taken it
    unfolding held_of at_first
    held-is = rw (happy-first ∙ u)

    taken-valid : (x : List ℕ) (p : List (List ℕ)) → it ≡ found x p → class_of H session n i z (packet_of i x p) ≡ valid x p
    taken-valid x p e = let k = took H session n i z 1 (bodies n in4) x p e in rewritten H session n i z k.packet x p k.good

    pub relay-found : (x : List ℕ) (p : List (List ℕ)) → it ≡ found x p → class_of H session n i z (relay_of H X2 in4) ≡ valid x p
    unfolding at_first
    relay-found x p e = rw relay-is (rw e (taken-valid x p e))

    -- it keeps the share that it relays
    relay-held : held_of H X2 in4 ≡ share_from (class_of H session n i z (relay_of H X2 in4))
    unfolding at_first
    relay-held = go it refl
      where
        go : (k : Taken) → it ≡ k → held_of H X2 in4 ≡ share_from (class_of H session n i z (relay_of H X2 in4))
        go missing e = held-is ∙ rw (relay-is, e, none-silent H session n i z)
        go (found x p) e = held-is ∙ rw (e, relay-found x p e)

    -- the strings of the check of what it relays are hashed
    none-strings : class_strings H session n i [] ≡ []
    unfolding class_strings
    none-strings = ap (checked_strings H session n i) (read-empty n [] refl)

    relay-strings : (s : List ℕ) → Memᴰ s (class_strings H session n i (relay_of H X2 in4)) → Memᴰ s (checked_in H X2 (take_shares in4 []))
    unfolding checked_in at_first
    relay-strings s h = rw (happy-first ∙ u) (go it refl)
      where
        go : (k : Taken) → it ≡ k → Memᴰ s (share_strings H session n i z 1 (bodies n in4))
        go missing e = absurd (Memᴰ.not-nil (rw (relay-is, e, none-strings) at h))
        go (found x p) e =
            let k = took H session n i z 1 (bodies n in4) x p e in
            k.hashed s
            (rw (passing H session n i z k.packet x p k.good).strings
            (rw (relay-is, e, (passing H session n i z (packet_of i x p) x p (taken-valid x p e)).strings) at h))

    -- it finds a packet that passes where there is one
    relays-one : (j : ℕ) → 1 ≤ j → j ≤ n → j ≢ i → (x : List ℕ) (p : List (List ℕ)) → class_of H session n i z (entry n j in4) ≡ valid x p
        → (y : List ℕ) × (q : List (List ℕ)) × (class_of H session n i z (relay_of H X2 in4) ≡ valid y q)
    unfolding entry
    relays-one j first last d x p v =
        let e : 1 + (j - 1) ≡ j = omega arith in
        let f = finds H session n i z 1 (bodies n in4) (j - 1) x p (omega (arith, length-bodies n in4)) (λ q. d (sym e ∙ q)) v in
        (f.0, f.1, relay-found f.0 f.1 f.2)

    -- what it rebuilds from
    module _ (in5 : List ℕ) where
      abbrev has : ℕ → List ℕ
      has j = cond (eqb j i) (relay_of H X2 in4) (entry n j in5)

      abbrev gs : List (List ℕ)
      gs = gathered H X3 1 (bodies n in5)

      gs-length : length gs ≡ n
      gs-length = gathered-length H X3 1 (bodies n in5) ∙ length-bodies n in5

      entry-at : (k : ℕ) → entry n (1 + k) in5 ≡ get_or (bodies n in5) k []
      unfolding entry
      entry-at k = let e : 1 + k - 1 ≡ k = omega arith in ap (λ (j : ℕ). get_or (bodies n in5) j []) e

      at : (k : ℕ) → k < n → get_or gs k [] ≡ share_from (class_of H session n (1 + k) z (has (1 + k)))
      unfolding at_second
      at k l =
          gathered-at H X3 1 (bodies n in5) k (omega (arith, length-bodies n in5)) ∙ go (way (eqb (1 + k) i))
        where
          go : Way (eqb (1 + k) i)
              → cond (eqb (1 + k) i) (share_held X3) (share_from (class_of H session n (1 + k) z (get_or (bodies n in5) k [])))
              ≡ share_from (class_of H session n (1 + k) z (has (1 + k)))
          go (on e) =
              rw e (share-second (seat_of session n t i) m z (held_of H X2 in4) (faulty_shares H X2 in4) ∙ relay-held
              ∙ ap (λ (j : ℕ). share_from (class_of H session n j z (relay_of H X2 in4))) (sym (eqb-true (1 + k) i e)))
          go (off e) = rw (e, entry-at k)

      gathered-is : gs ≡ tabulate n (λ k. share_from (class_of H session n (1 + k) z (has (1 + k))))
      gathered-is =
          sym (tabulate-get_or gs []) ∙ ap (λ (k : ℕ). tabulate k (λ j. get_or gs j [])) gs-length
          ∙ tabulate-cong n (λ j. get_or gs j []) (λ k. share_from (class_of H session n (1 + k) z (has (1 + k)))) at

      abbrev All : List (List ℕ)
      All = tabulate n (λ k. share_from (class_of H session n (1 + k) z (has (1 + k))))

      recovered-is : recovered_by H X3 in5 ≡ recovered (n - t) (present 1 All)
      unfolding at_second
      recovered-is = ap (λ (l : List (List ℕ)). recovered (n - t) (present 1 l)) gathered-is

      result-unhappy : result_of H X3 in5 ≡ rebuilt (under_root H session n t z (recovered (n - t) (present 1 All)))
      unfolding result_of result_found at_second
      result-unhappy = rw (happy-second (held_of H X2 in4) (faulty_shares H X2 in4) ∙ u) (ap (λ (a : Recovered). rebuilt (under_root H session n t z a)) recovered-is)

      recoded-is : recoded_in H X3 (take_relays in5 []) ≡ recoded_strings H session n t (recovered (n - t) (present 1 All))
      unfolding recoded_in at_second
      recoded-is = rw (happy-second (held_of H X2 in4) (faulty_shares H X2 in4) ∙ u) (ap (recoded_strings H session n t) recovered-is)

      heard-strings : (j : ℕ) → j ≢ i → (x : List ℕ) (p : List (List ℕ)) → class_of H session n j z (entry n j in5) ≡ valid x p → (s : List ℕ)
          → Memᴰ s (class_strings H session n j (entry n j in5)) → Memᴰ s (checked_in H X3 (take_relays in5 []))
      unfolding checked_in at_second entry
      heard-strings j d x p v s h =
          let w : List ℕ = get_or (bodies n in5) (j - 1) [] in
          let f = fields-of n w j x p (passing H session n j z w x p v).reads in
          let e : 1 + (j - 1) ≡ j = omega (arith, f.low) in
          rw (happy-second (held_of H X2 in4) (faulty_shares H X2 in4) ∙ u)
          (in-relays H session n i 1 (bodies n in5) (j - 1) (omega (arith, f.low, f.high, length-bodies n in5)) (λ q. d (sym e ∙ q)) s
          (subst (λ (k : ℕ). Memᴰ s (class_strings H session n k w)) (sym e) h))

  -- the session's calls, with no event left
  module _ (calls : List Call) (r : Ran H session n t i m calls z) where
    has-is : (j : ℕ) → relay_from H session n t i m calls j ≡ cond (eqb j i) (relay_of H X2 r.in4) (entry n j r.in5)
    has-is j = rw (r.relayed, r.heard5 j)

    hashes : (s : List ℕ) → Needs H session n t i m calls z s → Memᴰ s (opened_and_checked H session n t i m calls)
    hashes s (coding e h) = r.in_tree s h
    hashes s (check u j x p v h) = go (way (eqb j i))
      where
        go : Way (eqb j i) → Memᴰ s (opened_and_checked H session n t i m calls)
        go (on e) = r.in-first s (relay-strings u r.in4 s (rw (e, eqb-true j i e, r.relayed) at h))
        go (off e) =
            r.in-second s
            (heard-strings u r.in4 r.in5 j (eqb-false j i e) x p (rw (e, r.heard5 j) at v) s (rw (e, r.heard5 j) at h))

    -- the shares in the relays that pass
    shares-is : tabulate n (λ k. share_from (class_of H session n (1 + k) z (cond (eqb (1 + k) i) (relay_of H X2 r.in4) (entry n (1 + k) r.in5))))
        ≡ shares_in H session n t i m calls z
    shares-is = tabulate-cong n _ _ (λ k l. ap (λ (w : List ℕ). share_from (class_of H session n (1 + k) z w)) (sym (has-is (1 + k))))

    pub conduct : Conduct H session n t i m calls z
    unfolding at_second
    conduct =
        record {
          result = result_of H (at_second (seat_of session n t i) m z (held_of H X2 r.in4) (faulty_shares H X2 r.in4)) r.in5;
          ends = r.ends;
          sends = rw (r.packets, r.relayed) r.sends;
          hashes = hashes;
          outbox = λ e. ap (bodies n) r.packets ∙ out-happy e;
          relay = λ e. r.relayed ∙ relay-happy e r.in4;
          keeps = λ e. result-happy e (held_of H X2 r.in4) (faulty_shares H X2 r.in4) r.in5;
          quiet = λ u. ap (bodies n) r.packets ∙ out-unhappy u;
          relays = λ u j first last d x p v. rw r.relayed (relays-one u r.in4 j first last d x p (rw (r.heard4 j) at v));
          rebuilds = λ u. result-unhappy u r.in4 r.in5
              ∙ ap (λ (l : List (List ℕ)). rebuilt (under_root H session n t z (recovered (n - t) (present 1 l)))) shares-is;
          recodes = λ u s h. r.in-again s (subst (Memᴰ s) (sym (recoded-is u r.in4 r.in5
              ∙ ap (λ (l : List (List ℕ)). recoded_strings H session n t (recovered (n - t) (present 1 l))) shares-is)) h);
          last-call = λ e f. let k = r.last-call e f in (
            ap (λ (x : Party). x.seat) k.0,
            ap (λ (x : Party). x.root) k.0,
            ap (happy H) k.0 ∙ happy-second (held_of H X2 r.in4) (faulty_shares H X2 r.in4),
            λ u. ap₂ (recovered_by H) k.0 k.1 ∙ recovered-is u r.in4 r.in5
                ∙ ap (λ (l : List (List ℕ)). recovered (n - t) (present 1 l)) shares-is,
          );
        }

-- the bit that a good party put in, by its opening and its step 2; so where the bit is 1, some good party is happy
module _ (H : List ℕ → List ℕ) (session n t : ℕ) (good : List Good) (z : List ℕ)
    (opened : Each H session n t good (λ A. (opening H session n t A.own A.message).cause ≡ 0))
    (told : Each H session n t good (λ A. (e : Event) × (step H session n t good 2 A ≡ some e) × (e.call ≡ agree_root z))) where
  pub voted : Each H session n t good (λ A. bit_given (step H session n t good 2 A) ≡ some (cond (is_glad H session n t z A) 1 0))
  voted A h =
      let r = told A h in
      bit-given H session n t A.own A.message A.calls (opened A h) z r.0 r.1 r.2
      ∙ ap {B = Option ℕ} (λ (g : Bool). some (cond g 1 0)) (happy-bit H session n t A.own A.message z)

  pub someone : (bit : ℕ) → Rule H session n t good (λ A. bit_given (step H session n t good 2 A)) bit → bit ≡ 1
      → (A : Good) × Memᴰ A good × (is_glad H session n t z A ≡ true)
  someone bit vote b1 = go (find (is_glad H session n t z) good)
    where
      go : ((A : Good) × Memᴰ A good × (is_glad H session n t z A ≡ true)) ⊎ ((A : Good) → Memᴰ A good → is_glad H session n t z A ≡ false)
          → (A : Good) × Memᴰ A good × (is_glad H session n t z A ≡ true)
      go (inl a) = a
      go (inr f) =
          let zero_bit : bit ≡ 0 = vote 0 (λ A h. voted A h ∙ ap {B = Option ℕ} (λ (g : Bool). some (cond g 1 0)) (f A h)) in
          absurd (omega arith)

-- every good party, by its number, message and calls
module _ (H : List ℕ → List ℕ) (session n t : ℕ) (good : List Good) (z : List ℕ) (bit : ℕ) (opened : OpenedAll H session n t good)
    (called : CalledAll H session n t good z bit) (A : Good) (h : Memᴰ A good) where
  pub bit-low : bit ≤ 1
  bit-low =
      let b = called.step3 A h in
      bit-small H session n t A.own A.message A.calls (opened.accepted A h) b.0 bit b.1 b.2 b.3

  -- on bit 0
  pub ended : bit ≡ 0
      → (result_after H session n t A.own A.message A.calls ≡ some nothing) × (sent_by H session n t A.own A.message A.calls ≡ 0)
  ended b0 =
      let r = called.step2 A h in
      let b = called.step3 A h in
      let e = ran-none H session n t A.own A.message A.calls (opened.accepted A h) z r.0 r.1 r.2 b.0 b.1 b.2
      (b.3 ∙ ap (λ (k : ℕ). agree_bit k b.1) b0) in
      (e.0, e.1 ∙ ap lengths (out-zero H session n t A.own A.message z) ∙ lengths_none n)

  -- on bit 1
  pub conducts : bit ≡ 1 → Conduct H session n t A.own A.message A.calls z
  conducts b1 =
      let r = called.step2 A h in
      let b = called.step3 A h in
      let f = called.step4 b1 A h in
      let g = called.step5 b1 A h in
      conduct H session n t A.own A.message z A.calls
      (ran-through H session n t A.own A.message A.calls (opened.accepted A h) z r.0 r.1 r.2 b.0 f.0 g.0 b.1 b.2
      (b.3 ∙ ap (λ (k : ℕ). agree_bit k b.1) b1) f.1 g.1)

-- what is needed was hashed
pub needed-hashed : (H : List ℕ → List ℕ) (session n t : ℕ) (good : List Good) (z : List ℕ) (bit : ℕ) → OpenedAll H session n t good
    → CalledAll H session n t good z bit → bit ≡ 1 → (s : List ℕ) → Needed H session n t good z s → Memᴰ s (all_opened_and_checked H session n t good)
needed-hashed H session n t good z bit opened called b1 s k =
    in-join (λ (A : Good). opened_and_checked H session n t A.own A.message A.calls) k.1
    ((conducts H session n t good z bit opened called k.0 k.1 b1).hashes s k.2)
