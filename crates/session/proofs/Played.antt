-- A plan that is taken is a session as agreement supposes it, and where it has a sender one as broadcast does: every opening and every step is accepted, the agreed root and bit keep the rule, and
-- packets between good parties arrive. So, unless two different strings of their openings and path checks have one hash, all good parties' lines
-- give one result, and the figure after `sent` is the theorem's own sum: agreement's, or with a sender broadcast's. By the laws of progress, step by step. Assumes nothing.
use mathlib.Core.Path.{◌≡◌, refl, sym, ap, ap₂, ◌∙◌, subst}
use mathlib.Core.Logic.{◌≢◌}
use mathlib.Core.Bool.{Bool, true, false, cond, not, ◌&&◌, ◌||◌, true≢false, false≢true}
use mathlib.Core.List.{List, [], ◌∷◌, ◌++◌, map, Memᴰ}
use mathlib.Core.Option.{Option, some}
use Prim.Native.Nat.{ℕ, zero, suc, ◌+◌, ◌-◌, ◌*◌, ◌≤◌, ◌<◌}
use native.Mathlib.Nat.{mul-zero}
use native.Mathlib.Decide.{ℕ_discrete}
use native.Mathlib.Omega.{arith}
use borrow.Author.Tests.{ltb-false, eqb-true, eqb-false, eq-eqb, ne_eqb}
use lib.Dec.{ltb, eqb}
use lib.ListN.{length, get_or, take, replicate, length-replicate}
use Rattle.sha256.specs.Sha256.{sha256}
use Rattle.sha256.proofs.Laws.{sha256-length}
use Rattle.limits.specs.Limits.{max_message}
use Rattle.limits.proofs.Group.{group_of}
use Rattle.limits.proofs.Ranges.{numbered_within}
use Rattle.packet.specs.Message.{max_message_packet}
use Rattle.party.specs.Sender.{open_by_sender_of}
use Rattle.party.proofs.Sender.{message-bytes, other-packet, accepted-wrote}
use Rattle.buffer.specs.Bounds.{Bytes}
use Rattle.buffer.specs.Splice.{tabulate}
use Rattle.buffer.specs.Entries.{fills, bodies}
use Rattle.buffer.proofs.Places.{entry-of-bodies}
use Rattle.buffer.proofs.Tabulate.{length-tabulate, get_or-tabulate}
use Rattle.erasure.specs.Coding.{shares}
use Rattle.merkle.specs.Shares.{same}
use Rattle.merkle.proofs.Judged.{same_true, same_refl}
use Rattle.merkle.proofs.Trees.{length-root}
use Rattle.packet.specs.Inbox.{inbox_of}
use Rattle.packet.proofs.Inbox.{inbox-fills, inbox-bodies}
use Rattle.party.specs.State.{seat_of, Result, nothing, result_bytes, at_root, at_bit, at_first, at_second, at_end, result_in, message_root, happy}
use Rattle.party.specs.Steps.{turn_of, open_cause, with_root, Stepped, gives, outbox_of, held_of, relay_of, faulty_shares}
use Rattle.party.specs.Steps as steps
use Rattle.party.specs.declared.Party.{Party}
use Rattle.party.specs.Answer.{Opened}
use Rattle.party.specs.Answer.{Happy}
use Rattle.party.proofs.Ways.{Way, on, off, way, clash}
use Rattle.party.proofs.Kept.{message-root, message-bit, message-first, result-end}
use Rattle.commitment.specs.Private.{Coded}
use Rattle.commitment.proofs.Messages.{fine}
use Rattle.party.proofs.Causes.{state-fine, root-fine}
use Rattle.party.proofs.Outcomes.{open-given, root-given, root-refused}
use Rattle.party.proofs.Causes.{fit_of}
use Rattle.party.proofs.Faulty.{holds-shares}
use Rattle.party.proofs.Progress.{open-accepted, bit-accepted, shares-accepted, relays-accepted}
use Rattle.party.proofs.Progress.{root-whole, bit-whole, first-whole, second-whole, held-short, result-short}
use Rattle.party.proofs.Rooms.{outbox-fits, relay-fits}
use Rattle.agreement.specs.Calls.{Call, agree_root, agree_bit, take_shares, take_relays, Event, accepted, first, entry, heard, wrote, packet_to, bit_given}
use Rattle.agreement.specs.Calls.{sent_over, made, events, final, did, first_of, result_after, sent_by, opening}
use Rattle.agreement.specs.Agreement.{Good, different, absent, Each, step, CalledAll, Ruled, DeliveredAll, Clean, Premises, sent, Conclusions, Agreement}
use Rattle.agreement.specs.Broadcast.{Opener, party_of, Every, parties, begun, gave, sent_in_all, Settled}
use Rattle.agreement.specs.Broadcast as broadcast
use Rattle.agreement.proofs.Run.{did3, did4}
use Rattle.agreement.proofs.Ran.{opened-is as opened-is-open}
use Rattle.agreement.proofs.Lists.{same_some, first-in}
use Rattle.agreement.proofs.Agreement.{agreement, agreement-sha256}
use Rattle.agreement.proofs.Broadcast.{broadcast}
use Rattle.plan.specs.Layout.{session_of, unnamed, n_in, t_in, has_root, has_bit, has_sender, root_in, sender_in, good_in, good_sender, exchange_in}
use Rattle.plan.specs.Layout as layout
use Rattle.plan.specs.Plan.{plan_cause}
use Rattle.plan.proofs.Accepted.{Accepted, accepted as plan-taken, lowest-named, root-length}
use Rattle.exchange.specs.Exchange.{sent_to, inbox_to}
use Rattle.exchange.proofs.Sending.{sent-good}
use Rattle.report.specs.Output.{sent_line}
use Rattle.session.specs.Session.{max_outbox, wrote_in, or_nothing, line_with, is_good, book_of, each_good, lowest_good, opened_by_sender, sender_wrote, handed_to, opened, message_of, agreed_root, step2, agreed_bit}
use Rattle.session.specs.Session.{same_roots, same_bits, unlawful, session_cause, step3, first_inbox, step4, second_inbox, step5}
use Rattle.session.specs.Session.{ends_with, sent_later, lines_from, sent_from, output, calls_of, good_party, good_parties, given_by, opener, openers}
use Rattle.session.proofs.Openings.{handed-own, handed-good, handed-bytes, message-short, message-small, opened-is}
use Rattle.session.proofs.Wrote.{step3-counted, step4-counted}
use Rattle.session.proofs.Parties.{good_sum, named, party-in, mapped, sum_of, apart, bad-count, sum-none, sent-split}

-- a plan without a cause: the plan itself has none, and nothing is against the rule
no-cause : (k : ℕ) (b : Bool) → cond (not (eqb k 0)) k (cond b 14 0) ≡ 0 → (k ≡ 0) × (b ≡ false)
no-cause k b e = go (way (eqb k 0)) b e
  where
    go : Way (eqb k 0) → (b : Bool) → cond (not (eqb k 0)) k (cond b 14 0) ≡ 0 → (k ≡ 0) × (b ≡ false)
    go (on q) true h = let z : ◌≡◌ {A = ℕ} 14 0 = rw q at h in absurd (omega arith)
    go (on q) false h = (eqb-true k 0 q, refl)
    go (off q) b h = absurd (eqb-false k 0 q (rw q at h))

four-tests : (a b c d : Bool) → a || b || c || d ≡ false → (a ≡ false) × (b ≡ false) × (c ≡ false) × (d ≡ false)
four-tests true b c d e = absurd (true≢false e)
four-tests false true c d e = absurd (true≢false e)
four-tests false false true d e = absurd (true≢false e)
four-tests false false false true e = absurd (true≢false e)
four-tests false false false false e = (refl, refl, refl, refl)

both-not : (a b : Bool) → a && not b ≡ false → a ≡ true → b ≡ true
both-not true true e h = refl
both-not true false e h = absurd (true≢false e)
both-not false b e h = absurd (false≢true h)

-- a call that is accepted stands first among the accepted ones
accept-more : (H : List ℕ → List ℕ) (x : Party) (c : Call) (cs : List Call) → (made H x c).cause ≡ 0
    → accepted (events H x (c ∷ cs)) ≡ record { before = x; call = c; reply = made H x c } ∷ accepted (events H (made H x c).state cs)
unfolding accepted events
accept-more H x c cs e = rw (eq-eqb (made H x c).cause 0 e)

-- a bit is 0 or 1
bit-of : (b : Bool) → cond b 1 0 ≤ 1
bit-of true = omega arith
bit-of false = omega arith

-- in the plan s, of k parties from p on, a line for each good one, all with the result R
unfoldable pub lines_of : List ℕ → Result → ℕ → ℕ → List ℕ
lines_of s R zero p = []
lines_of s R (suc k) p = cond (is_good s p) (line_with p R) [] ++ lines_of s R k (p + 1)

module _ (H : List ℕ → List ℕ) (wide : (x : List ℕ) → length (H x) ≡ 32) (s : List ℕ) (bytes : Bytes s) (ok : session_cause H s ≡ 0) where
  abbrev session : ℕ
  session = session_of s

  abbrev n : ℕ
  n = n_in s

  abbrev t : ℕ
  t = t_in s

  abbrev z : List ℕ
  z = agreed_root H s

  abbrev bit : ℕ
  bit = agreed_bit H s

  -- what parties send in the two exchanges
  abbrev first_from : ℕ → ℕ → List ℕ
  first_from = sent_to n (good_in s) false (λ p. wrote_in (step3 H s p)) (exchange_in 0 s)

  abbrev second_from : ℕ → ℕ → List ℕ
  second_from = sent_to n (good_in s) true (λ p. wrote_in (step4 H s p)) (exchange_in 1 s)

  causes : (plan_cause s ≡ 0) × (unlawful H s ≡ false)
  unfolding session_cause
  causes = no-cause (plan_cause s) (unlawful H s) ok

  plan : Accepted s
  plan = plan-taken s causes.0

  lawful : (ltb t (unnamed n 1 (good_in s)) ≡ false) × (has_bit s && ltb 1 (layout.bit_in s) ≡ false)
      × (same_roots H s n 1 (opened H s (lowest_good s)).root && not (same z (opened H s (lowest_good s)).root) ≡ false)
      × (same_bits H s n 1 (step2 H s (lowest_good s)).value && not (eqb bit (step2 H s (lowest_good s)).value) ≡ false)
  unfolding unlawful
  lawful =
      four-tests (ltb t (unnamed n 1 (good_in s))) (has_bit s && ltb 1 (layout.bit_in s))
      (same_roots H s n 1 (opened H s (lowest_good s)).root && not (same z (opened H s (lowest_good s)).root))
      (same_bits H s n 1 (step2 H s (lowest_good s)).value && not (eqb bit (step2 H s (lowest_good s)).value)) causes.1

  low : 1 ≤ n
  low = (group_of n t plan.group).low

  coded : (p : ℕ) → Coded n t (message_of H s p)
  coded p =
      let g = group_of n t plan.group in
      record {
        low = g.low;
        high = g.high;
        faults = g.faults;
        short = message-short s causes.0 H p;
      }

  -- the lowest good party
  few-bad : unnamed n 1 (good_in s) ≤ t
  few-bad = ltb-false t (unnamed n 1 (good_in s)) lawful.0

  chief : (is_good s (lowest_good s) ≡ true) × (1 ≤ lowest_good s) × (lowest_good s < 1 + n)
  chief = lowest-named n 1 (good_in s) (omega (arith, few-bad, (group_of n t plan.group).faults))

  -- the root that a party's opening gives has 32 bytes
  root-long : (p : ℕ) → 1 ≤ p → p ≤ n → length (opened H s p).root ≡ 32
  unfolding message_root
  root-long p one last =
      let c = coded p in
      let fits = (opened-is-open H session n t p (message_of H s p) (open-accepted H session n t p (message_of H s p) c.low c.high c.faults one last c.short)).0 in
      ap (λ (o : Opened). length o.root) (opened-is s causes.0 H p one last ∙ open-given H session n t p (message_of H s p) fits)
      ∙ length-root H wide session n (shares n (n - t) (message_of H s p)) (fine n t (message_of H s p) c session)

  z-long : length z ≡ 32
  unfolding agreed_root
  z-long = go (has_root s) refl
    where
      go : (b : Bool) → has_root s ≡ b → length (cond b (root_in s) (opened H s (lowest_good s)).root) ≡ 32
      go true e = root-length s plan.laid e
      go false e = root-long (lowest_good s) chief.1 (omega (arith, chief.2))

  -- the bit that any step 2 gives is 0 or 1
  vote-small : (p : ℕ) → (step2 H s p).value ≤ 1
  unfolding step2
  vote-small p = go (way (eqb (steps.root_cause (opened H s p).state z) 0))
    where
      x : Party
      x = (opened H s p).state

      go : Way (eqb (steps.root_cause (opened H s p).state z) 0) → (step2 H s p).value ≤ 1
      go (on e) =
          subst (λ (b : Stepped). b.value ≤ 1)
          (sym (root-given H (opened H s p).state z (eqb-true (steps.root_cause (opened H s p).state z) 0 e)))
          (bit-of (happy H (with_root (opened H s p).state z)))
      go (off e) =
          subst (λ (b : Stepped). b.value ≤ 1)
          (sym (root-refused H (opened H s p).state z (eqb-false (steps.root_cause (opened H s p).state z) 0 e))) (omega arith)

  bit-low : bit ≤ 1
  unfolding agreed_bit
  bit-low = go (has_bit s) lawful.1
    where
      go : (b : Bool) → b && ltb 1 (layout.bit_in s) ≡ false → cond b (layout.bit_in s) (step2 H s (lowest_good s)).value ≤ 1
      go true e = ltb-false 1 (layout.bit_in s) e
      go false e = vote-small (lowest_good s)

  -- a good party, and that each of its steps is accepted
  module _ (p : ℕ) (one : 1 ≤ p) (last : p ≤ n) where
    abbrev m : List ℕ
    m = message_of H s p

    c : Coded n t (message_of H s p)
    c = coded p

    abbrev X1 : Party
    X1 = at_bit (seat_of session n t p) m z

    abbrev X2 : Party
    X2 = at_first (seat_of session n t p) m z

    open-cause : open_cause n t p (length m) ≡ 0
    open-cause = (opened-is-open H session n t p m (open-accepted H session n t p m c.low c.high c.faults one last c.short)).0

    opened-to : opened H s p ≡ opening H session n t p m
    opened-to = opened-is s causes.0 H p one last

    opened-as : opened H s p ≡ record { state = at_root (seat_of session n t p) m; cause = 0; root = message_root H session n t m }
    opened-as = opened-to ∙ open-given H session n t p m open-cause

    -- step 2
    turn-root : turn_of (at_root (seat_of session n t p) m).stage ≡ 2
    unfolding at_root
    turn-root = refl

    with-root : with_root (at_root (seat_of session n t p) m) z ≡ X1
    unfolding at_root
    with-root = ap (λ (b : List ℕ). at_bit (seat_of session n t p) b z) (message-root (seat_of session n t p) m z)

    made-2 : step2 H s p ≡ gives X1 (Happy (happy H X1)) []
    unfolding step2
    made-2 =
        let x : Party = at_root (seat_of session n t p) m in
        let w = root-whole (seat_of session n t p) c.low c.high c.faults one last m c.short in
        ap (λ (o : Opened). steps.agree_root_of H o.state z) opened-as
        ∙ root-given H x z (root-fine x z (state-fine 2 x w turn-root) z-long)
        ∙ ap (λ (y : Party). gives y (Happy (happy H y)) []) with-root

    state-2 : (step2 H s p).state ≡ X1
    state-2 = ap (λ (b : Stepped). b.state) made-2

    -- step 3
    turn-bit : turn_of (at_bit (seat_of session n t p) m z).stage ≡ 3
    unfolding at_bit
    turn-bit = refl

    abbrev room3 : List ℕ
    room3 = replicate max_outbox 0

    fits-3 : length (outbox_of H X1 bit) ≤ length room3
    fits-3 = omega (arith, outbox-fits H wide (seat_of session n t p) m z c bit, length-replicate {A = ℕ} max_outbox 0)

    cause-3 : (step3 H s p).cause ≡ 0
    unfolding step3
    cause-3 =
        ap (λ (x : Party). (steps.agree_bit_of H x bit room3).cause) state-2
        ∙ bit-accepted H X1 (bit-whole (seat_of session n t p) c.low c.high c.faults one last m c.short z) bit room3 turn-bit bit-low fits-3

    -- what step 3 leaves, by the laws of calls
    state-3 : (step3 H s p).state ≡ cond (eqb bit 0) (at_end (seat_of session n t p) nothing 0) X2
    unfolding step3 made at_bit
    state-3 =
        let e : (made H X1 (agree_bit bit room3)).cause ≡ 0 =
        sym (ap (λ (x : Party). (steps.agree_bit_of H x bit room3).cause) state-2) ∙ cause-3 in
        ap (λ (x : Party). (steps.agree_bit_of H x bit room3).state) state-2
        ∙ ap (λ (r : Stepped). r.state) (did3 H X1 bit room3 e).2
        ∙ ap (λ (b : List ℕ). cond (eqb bit 0) (at_end (seat_of session n t p) nothing 0) (at_first (seat_of session n t p) b z)) (message-bit (seat_of session n t p) m z)

    -- steps 4 and 5, on bit 1
    module _ (b1 : bit ≡ 1) where
      waits : (step3 H s p).state ≡ X2
      waits = state-3 ∙ ap (λ (b : Bool). cond b (at_end (seat_of session n t p) nothing 0) X2) (ne_eqb bit 0 (λ q. omega arith))

      turn-first : turn_of (at_first (seat_of session n t p) m z).stage ≡ 4
      unfolding at_first
      turn-first = refl

      filled : (f : ℕ → List ℕ) → fills n (inbox_of (tabulate n f)) ≡ true
      filled f = ap (λ (k : ℕ). fills k (inbox_of (tabulate n f))) (sym (length-tabulate n f)) ∙ inbox-fills (tabulate n f)

      abbrev room4 : List ℕ
      room4 = replicate max_outbox 0

      cause-4 : (step4 H s p).cause ≡ 0
      unfolding step4 first_inbox inbox_to at_first
      cause-4 =
          let fits : length (relay_of H X2 (first_inbox H s p)) ≤ length room4 =
          omega (arith, relay-fits H wide (seat_of session n t p) m z c one last (first_inbox H s p), length-replicate {A = ℕ} max_outbox 0) in
          ap (λ (x : Party). (steps.take_shares_of H x (first_inbox H s p) room4).cause) waits
          ∙ shares-accepted H X2 (first-whole (seat_of session n t p) c.low c.high c.faults one last m c.short z) (first_inbox H s p) room4 turn-first
          (filled (λ k. first_from p (k + 1))) fits

      abbrev X3 : Party
      X3 = at_second (seat_of session n t p) m z (held_of H X2 (first_inbox H s p)) (faulty_shares H X2 (first_inbox H s p))

      state-4 : (step4 H s p).state ≡ X3
      unfolding step4 made at_first
      state-4 =
          let e : (made H X2 (take_shares (first_inbox H s p) room4)).cause ≡ 0 =
          sym (ap (λ (x : Party). (steps.take_shares_of H x (first_inbox H s p) room4).cause) waits) ∙ cause-4 in
          ap (λ (x : Party). (steps.take_shares_of H x (first_inbox H s p) room4).state) waits
          ∙ ap (λ (r : Stepped). r.state) (did4 H X2 (first_inbox H s p) room4 e).1
          ∙ ap (λ (b : List ℕ). at_second (seat_of session n t p) b z (held_of H X2 (first_inbox H s p)) (faulty_shares H X2 (first_inbox H s p))) (message-first (seat_of session n t p) m z)

      turn-second : turn_of X3.stage ≡ 5
      unfolding at_second
      turn-second = refl

      abbrev room5 : List ℕ
      room5 = replicate max_message 0

      cause-5 : (step5 H s p).cause ≡ 0
      unfolding step5 second_inbox inbox_to at_first at_second
      cause-5 =
          let w2 = first-whole (seat_of session n t p) c.low c.high c.faults one last m c.short z in
          let w = second-whole (seat_of session n t p) c.low c.high c.faults one last m c.short z (held_of H X2 (first_inbox H s p))
          (faulty_shares H X2 (first_inbox H s p)) (held-short H X2 w2 (first_inbox H s p)) (holds-shares H X2 (first_inbox H s p) (fit_of X2 w2)) in
          let fits : length (result_bytes (steps.result_of H X3 (second_inbox H s p))) ≤ length room5 =
          omega (arith, result-short H X3 w (second_inbox H s p), length-replicate {A = ℕ} max_message 0) in
          ap (λ (x : Party). (steps.take_relays_of H x (second_inbox H s p) room5).cause) state-4
          ∙ relays-accepted H X3 w (second_inbox H s p) room5 turn-second (λ w. filled (λ k. second_from p (k + 1))) fits

    -- the accepted calls are all that were made
    abbrev E2 : Event
    E2 = record { before = (opened H s p).state; call = agree_root z; reply = made H (opened H s p).state (agree_root z) }

    abbrev E3 : Event
    E3 = record { before = (step2 H s p).state; call = agree_bit bit room3; reply = made H (step2 H s p).state (agree_bit bit room3) }

    abbrev E4 : Event
    E4 =
        record {
          before = (step3 H s p).state;
          call = take_shares (first_inbox H s p) (replicate max_outbox 0);
          reply = made H (step3 H s p).state (take_shares (first_inbox H s p) (replicate max_outbox 0));
        }

    abbrev E5 : Event
    E5 =
        record {
          before = (step4 H s p).state;
          call = take_relays (second_inbox H s p) (replicate max_message 0);
          reply = made H (step4 H s p).state (take_relays (second_inbox H s p) (replicate max_message 0));
        }

    cause-2 : (step2 H s p).cause ≡ 0
    cause-2 = ap (λ (b : Stepped). b.cause) made-2

    began : (cs : List Call)
        → accepted (events H (opened H s p).state (agree_root z ∷ agree_bit bit room3 ∷ cs)) ≡ E2 ∷ E3 ∷ accepted (events H (step3 H s p).state cs)
    unfolding made step2 step3
    began cs =
        accept-more H (opened H s p).state (agree_root z) (agree_bit bit room3 ∷ cs) cause-2
        ∙ ap (λ (l : List Event). E2 ∷ l) (accept-more H (step2 H s p).state (agree_bit bit room3) cs cause-3)

    -- by the state that the opening gave
    did-from : did H session n t p m (calls_of H s p) ≡ accepted (events H (opened H s p).state (calls_of H s p))
    unfolding did
    did-from = ap (λ (o : Opened). accepted (events H o.state (calls_of H s p))) (sym opened-to)

    did-zero : bit ≡ 0 → did H session n t p m (calls_of H s p) ≡ E2 ∷ E3 ∷ []
    unfolding calls_of accepted events
    did-zero b0 = did-from ∙ rw (eq-eqb bit 0 b0) (began [])

    ended-one : bit ≡ 1 → accepted (events H (step3 H s p).state (E4.call ∷ E5.call ∷ [])) ≡ E4 ∷ E5 ∷ []
    unfolding made step4 step5 accepted events
    ended-one b1 =
        accept-more H (step3 H s p).state E4.call (E5.call ∷ []) (cause-4 b1)
        ∙ ap (λ (l : List Event). E4 ∷ l) (accept-more H (step4 H s p).state E5.call [] (cause-5 b1))

    did-one : bit ≡ 1 → did H session n t p m (calls_of H s p) ≡ E2 ∷ E3 ∷ E4 ∷ E5 ∷ []
    unfolding calls_of
    did-one b1 =
        did-from ∙ rw (ne_eqb bit 0 (λ q. omega arith))
        (began (E4.call ∷ E5.call ∷ []) ∙ ap (λ (l : List Event). E2 ∷ E3 ∷ l) (ended-one b1))

    -- what the others see of the party
    abbrev first-of : ℕ → Option Event
    first-of k = first_of H session n t p m (calls_of H s p) k

    either-bit : (P : Type 0) → (bit ≡ 0 → P) → (bit ≡ 1 → P) → P
    either-bit P f g = go (ℕ_discrete bit 1)
      where
        go : Dec (bit ≡ 1) → P
        go (yes e) = g e
        go (no d) = f (omega (arith, bit-low))

    second_is : first-of 2 ≡ some E2
    unfolding first
    second_is = either-bit (first-of 2 ≡ some E2) (λ b. rw (did-zero b)) (λ b. rw (did-one b))

    third-is : first-of 3 ≡ some E3
    unfolding first
    third-is = either-bit (first-of 3 ≡ some E3) (λ b. rw (did-zero b)) (λ b. rw (did-one b))

    fourth-is : bit ≡ 1 → first-of 4 ≡ some E4
    unfolding first
    fourth-is b = rw (did-one b)

    fifth-is : bit ≡ 1 → first-of 5 ≡ some E5
    unfolding first
    fifth-is b = rw (did-one b)

    vote-is : bit_given (first-of 2) ≡ some (step2 H s p).value
    unfolding made step2
    vote-is = ap bit_given second_is

    wrote-3 : wrote (first-of 3) ≡ wrote_in (step3 H s p)
    unfolding made step3
    wrote-3 = ap wrote third-is ∙ sym (rw ((step3-counted H s p).told cause-3))

    wrote-4 : bit ≡ 1 → wrote (first-of 4) ≡ wrote_in (step4 H s p)
    unfolding made step4
    wrote-4 b = ap wrote (fourth-is b) ∙ sym (rw ((step4-counted H s p).told (cause-4 b)))

    entry_of : (f : ℕ → List ℕ) (q : ℕ) → 1 ≤ q → q ≤ n → entry n q (inbox_of (tabulate n (λ k. f (k + 1)))) ≡ f q
    unfolding entry
    entry_of f q l h =
        let g : ℕ → List ℕ = λ k. f (k + 1) in
        let e : q - 1 + 1 ≡ q = omega arith in
        ap (λ (k : ℕ). get_or (bodies k (inbox_of (tabulate n g))) (q - 1) []) (sym (length-tabulate n g))
        ∙ ap (λ (l : List (List ℕ)). get_or l (q - 1) []) (inbox-bodies (tabulate n g))
        ∙ get_or-tabulate n g (q - 1) [] (omega arith) ∙ ap f e

    heard-4 : bit ≡ 1 → (q : ℕ) → 1 ≤ q → q ≤ n → heard n q (first-of 4) ≡ first_from p q
    unfolding first_inbox inbox_to
    heard-4 b q l h = ap (heard n q) (fourth-is b) ∙ entry_of (first_from p) q l h

    heard-5 : bit ≡ 1 → (q : ℕ) → 1 ≤ q → q ≤ n → heard n q (first-of 5) ≡ second_from p q
    unfolding second_inbox inbox_to
    heard-5 b q l h = ap (heard n q) (fifth-is b) ∙ entry_of (second_from p) q l h

    ends-0 : bit ≡ 0 → result_after H session n t p m (calls_of H s p) ≡ some nothing
    unfolding calls_of final made step2 step3
    ends-0 b =
        ap (λ (o : Opened). result_in (final H o.state (calls_of H s p))) (sym opened-to)
        ∙ rw (eq-eqb bit 0 b)
        (ap result_in (state-3 ∙ ap (λ (e : Bool). cond e (at_end (seat_of session n t p) nothing 0) X2) (eq-eqb bit 0 b)) ∙ result-end (seat_of session n t p) nothing 0)

    sent_is : sent_by H session n t p m (calls_of H s p) ≡ sent_later H s p
    unfolding sent_by sent_over sent_later made step3 step4
    sent_is =
        either-bit (sent_by H session n t p m (calls_of H s p) ≡ sent_later H s p)
        (λ b. rw (did-zero b, eq-eqb bit 0 b, (step3-counted H s p).told cause-3) (omega arith))
        (λ b. rw (did-one b, ne_eqb bit 0 (λ q. omega arith), (step3-counted H s p).told cause-3, (step4-counted H s p).told (cause-4 b))
        (omega arith))

  abbrev good : List Good
  good = good_parties H s

  -- what holds of each party that the map names holds of every good party
  each : (P : Good → Type 0) → ((q : ℕ) → 1 ≤ q → q ≤ n → is_good s q ≡ true → P (good_party H s q)) → Each H session n t good P
  each P f A h =
      let w = named s (good_party H s) n 1 A h in
      subst P (sym w.is) (f w.number w.low (omega (arith, w.high)) w.good)

  pub member : (q : ℕ) → 1 ≤ q → q ≤ n → is_good s q ≡ true → Memᴰ (good_party H s q) good
  member q l h g = party-in s (good_party H s) n 1 q l (omega arith) g

  -- the rule
  all-roots : (w : List ℕ) (k p : ℕ) → ((q : ℕ) → p ≤ q → q < p + k → is_good s q ≡ true → (opened H s q).root ≡ w) → same_roots H s k p w ≡ true
  unfolding same_roots
  all-roots w zero p f = refl
  all-roots w (suc k) p f = go (way (is_good s p)) (all-roots w k (p + 1) (λ q l h g. f q (omega arith) (omega arith) g))
    where
      go : Way (is_good s p) → same_roots H s k (p + 1) w ≡ true → same_roots H s (suc k) p w ≡ true
      go (on e) r = rw (e, ap (λ (x : List ℕ). same x w) (f p (omega arith) (omega arith) e) ∙ same_refl w) r
      go (off e) r = rw e r

  all-bits : (b k p : ℕ) → ((q : ℕ) → p ≤ q → q < p + k → is_good s q ≡ true → (step2 H s q).value ≡ b) → same_bits H s k p b ≡ true
  unfolding same_bits
  all-bits b zero p f = refl
  all-bits b (suc k) p f = go (way (is_good s p)) (all-bits b k (p + 1) (λ q l h g. f q (omega arith) (omega arith) g))
    where
      go : Way (is_good s p) → same_bits H s k (p + 1) b ≡ true → same_bits H s (suc k) p b ≡ true
      go (on e) r = rw (e, eq-eqb (step2 H s p).value b (f p (omega arith) (omega arith) e)) r
      go (off e) r = rw e r

  root-rule : (v : List ℕ) → Each H session n t good (λ A. some (opening H session n t A.own A.message).root ≡ some v) → z ≡ v
  root-rule v f =
      let of : (q : ℕ) → 1 ≤ q → q ≤ n → is_good s q ≡ true → (opened H s q).root ≡ v =
      (λ q l h g. ap (λ (o : Opened). o.root) (opened-to q l h) ∙ same_some (f (good_party H s q) (member q l h g))) in
      let own : (opened H s (lowest_good s)).root ≡ v = of (lowest_good s) chief.1 (omega (arith, chief.2)) chief.0 in
      let all = all-roots (opened H s (lowest_good s)).root n 1 (λ q l h g. of q l (omega arith) g ∙ sym own) in
      same_true z (opened H s (lowest_good s)).root
      (both-not (same_roots H s n 1 (opened H s (lowest_good s)).root) (same z (opened H s (lowest_good s)).root) lawful.2 all) ∙ own

  vote-rule : (v : ℕ) → Each H session n t good (λ A. bit_given (step H session n t good 2 A) ≡ some v) → bit ≡ v
  vote-rule v f =
      let of : (q : ℕ) → 1 ≤ q → q ≤ n → is_good s q ≡ true → (step2 H s q).value ≡ v =
      (λ q l h g. same_some (sym (vote-is q l h) ∙ f (good_party H s q) (member q l h g))) in
      let own : (step2 H s (lowest_good s)).value ≡ v = of (lowest_good s) chief.1 (omega (arith, chief.2)) chief.0 in
      let all = all-bits (step2 H s (lowest_good s)).value n 1 (λ q l h g. of q l (omega arith) g ∙ sym own) in
      eqb-true bit (step2 H s (lowest_good s)).value
      (both-not (same_bits H s n 1 (step2 H s (lowest_good s)).value) (eqb bit (step2 H s (lowest_good s)).value) lawful.3 all) ∙ own

  -- packets between good parties
  from_first : (i p : ℕ) → 1 ≤ i → i ≤ n → i ≢ p → is_good s p ≡ true → first_from i p ≡ entry n i (wrote_in (step3 H s p))
  unfolding entry
  from_first i p l h d g =
      sent-good n (good_in s) false (λ q. wrote_in (step3 H s q)) (exchange_in 0 s) i p (λ e. d (sym e)) g
      ∙ sym (entry-of-bodies n (i - 1) (wrote_in (step3 H s p)) (omega arith))

  from_second : (i p : ℕ) → i ≢ p → is_good s p ≡ true → second_from i p ≡ wrote_in (step4 H s p)
  from_second i p d g = sent-good n (good_in s) true (λ q. wrote_in (step4 H s q)) (exchange_in 1 s) i p (λ e. d (sym e)) g

  numbers : map (λ (A : Good). A.own) good ≡ each_good s (λ q. q) n 1
  numbers = mapped s (good_party H s) (λ (A : Good). A.own) (λ q. q) (λ q. refl) n 1

  -- all that agreement supposes, but for the hash
  pub premises : Clean H session n t good → Premises H session n t good z bit
  premises clean =
      record {
        opened = record {
          bytes = each (λ A. Bytes A.message) (λ q l h g. message-small s causes.0 H bytes q);
          accepted = each (λ A. (opening H session n t A.own A.message).cause ≡ 0)
              (λ q l h g. ap (λ (o : Opened). o.cause) (sym (opened-to q l h) ∙ opened-as q l h));
          apart = ap different numbers ∙ apart s n 1;
          bad = subst (λ (l : List ℕ). absent n 1 l ≤ t) (sym numbers) (omega (arith, bad-count s, few-bad));
        };
        called = record {
          step2 = each (λ A. (e : Event) × (step H session n t good 2 A ≡ some e) × (e.call ≡ agree_root z))
              (λ q l h g. (E2 q l h, second_is q l h, refl));
          step3 = each (λ A. (e : Event) × (out : List ℕ) × (step H session n t good 3 A ≡ some e) × (e.call ≡ agree_bit bit out))
              (λ q l h g. (E3 q l h, room3 q l h, third-is q l h, refl));
          step4 = λ b. each (λ A. (e : Event) × (step H session n t good 4 A ≡ some e)) (λ q l h g. (E4 q l h, fourth-is q l h b));
          step5 = λ b. each (λ A. (e : Event) × (step H session n t good 5 A ≡ some e)) (λ q l h g. (E5 q l h, fifth-is q l h b));
        };
        ruled = record { root = root-rule; vote = vote-rule };
        delivered = λ b. record {
          first_inbox = each (λ A. Each H session n t good (λ B. A.own ≢ B.own
              → heard n B.own (step H session n t good 4 A) ≡ packet_to n A.own (step H session n t good 3 B)))
              (λ i l h g. each (λ B. i ≢ B.own → heard n B.own (step H session n t good 4 (good_party H s i)) ≡ packet_to n i (step H session n t good 3 B))
              (λ q k j f d. heard-4 i l h b q k j ∙ from_first i q l h d f ∙ ap (entry n i) (sym (wrote-3 q k j))));
          second_inbox = each (λ A. Each H session n t good (λ B. A.own ≢ B.own
              → heard n B.own (step H session n t good 5 A) ≡ wrote (step H session n t good 4 B)))
              (λ i l h g. each (λ B. i ≢ B.own → heard n B.own (step H session n t good 5 (good_party H s i)) ≡ wrote (step H session n t good 4 B))
              (λ q k j f d. heard-5 i l h b q k j ∙ from_second i q d f ∙ sym (wrote-4 q k j b)));
        };
        clean = clean;
      }

  -- the figure after `sent` is the theorem's, and the sender's packet to each other party
  abbrev pub sender_bytes : ℕ
  sender_bytes = good_sum s (λ q. (n - 1) * length (given_by H s q)) n 1

  pub sent-figure : sent_from H s n 1 ≡ sender_bytes + sent H session n t good
  sent-figure =
      sent-split s H n 1
      ∙ ap (λ (k : ℕ). sender_bytes + k)
      (sym (sum_of s (good_party H s) (λ (A : Good). sent_by H session n t A.own A.message A.calls) (sent_later H s) n 1 (λ q l h g. sent_is q l (omega arith))))

  pub none-sends : has_sender s ≡ false → sender_bytes ≡ 0
  none-sends e = sum-none s (λ q. (n - 1) * length (given_by H s q)) (λ q. rw e (mul-zero (n - 1))) n 1

  -- what a party's step 5 gave, and so its line, is the one result
  gives-5 : (R : Result) → Conclusions H session n t good bit R → (p : ℕ) → 1 ≤ p → p ≤ n → is_good s p ≡ true → bit ≡ 1 → (step5 H s p).result ≡ some R
  unfolding made step5
  gives-5 R C p l h g b =
      let A = good_party H s p in
      let e = fifth-is p l h b in
      let i = first-in 5 (did H session n t A.own A.message A.calls) _ e in
      C.gives A (member p l h g) _ i.0 i.1

  line_of : (R : Result) → Conclusions H session n t good bit R → (p : ℕ) → 1 ≤ p → p ≤ n → is_good s p ≡ true → ends_with H s p ≡ R
  unfolding ends_with
  line_of R C p l h g =
      either-bit p l h (cond (eqb bit 0) nothing (or_nothing (step5 H s p).result) ≡ R)
      (λ b. rw (eq-eqb bit 0 b) (same_some (sym (ends-0 p l h b) ∙ C.holds (good_party H s p) (member p l h g))))
      (λ b. rw (ne_eqb bit 0 (λ q. omega arith))
      (ap or_nothing (gives-5 R C p l h g b)))

  lines_same : (R : Result) → ((p : ℕ) → 1 ≤ p → p ≤ n → is_good s p ≡ true → ends_with H s p ≡ R)
      → (k p : ℕ) → 1 ≤ p → p + k ≤ n + 1 → lines_from H s k p ≡ lines_of s R k p
  unfolding lines_from lines_of
  lines_same R f zero p l h = refl
  lines_same R f (suc k) p l h = ap₂ ◌++◌ (go (way (is_good s p))) (lines_same R f k (p + 1) (omega arith) (omega arith))
    where
      go : Way (is_good s p) → cond (is_good s p) (line_with p (ends_with H s p)) [] ≡ cond (is_good s p) (line_with p R) []
      go (on g) = rw g (ap (line_with p) (f p l (omega arith) g))
      go (off g) = rw g

  -- where there is a sender, the session is one of broadcast: each opening by the sender was accepted, and a good sender's packet is handed to all others
  module _ (there : has_sender s ≡ true) where
    abbrev q : ℕ
    q = sender_in s

    same-party : (p : ℕ) → party_of (opener H s p) ≡ good_party H s p
    unfolding message_of
    same-party p = rw there

    same-parties : parties H session n t (openers H s) ≡ good
    same-parties = mapped s (opener H s) party_of (good_party H s) same-party n 1

    every : (P : Opener → Type 0) → ((p : ℕ) → 1 ≤ p → p ≤ n → is_good s p ≡ true → P (opener H s p)) → Every H session n t (openers H s) P
    every P f A h = let w = named s (opener H s) n 1 A h in subst P (sym w.is) (f w.number w.low (omega (arith, w.high)) w.good)

    accepted-by : (p : ℕ) → 1 ≤ p → p ≤ n → (opened_by_sender H s p (handed_to H s p)).opened.cause ≡ 0
    unfolding opened
    accepted-by p l h =
        ap (λ (o : Opened). o.cause) (ap (λ (b : Bool). cond b (opened_by_sender H s p (handed_to H s p)).opened (opening H session n t p (book_of s p))) (sym there)
        ∙ opened-as p l h)

    gave-is : (p : ℕ) → p ≡ q → gave H session n t (openers H s) (opener H s p) ≡ sender_wrote H s
    unfolding sender_wrote opened_by_sender
    gave-is p e =
        ap (λ (i : ℕ). gave H session n t (openers H s) (opener H s i)) e
        ∙ ap (λ (b : List ℕ). let r = open_by_sender_of H session n t q q b (replicate max_message_packet 0) in take r.value r.buffer)
        (handed-own s causes.0 H q refl)

    good-there : (p : ℕ) → 1 ≤ p → p ≤ n → is_good s p ≡ true → p ≡ q → good_sender s ≡ true
    good-there p l h g e = rw (there, sym e, numbered_within n p l h) g

    premises-by : Clean H session n t good → broadcast.Premises H session n t (openers H s) q z bit
    unfolding opened_by_sender
    premises-by clean =
        let P = premises clean in
        let owns : map (λ (A : Opener). A.own) (openers H s) ≡ each_good s (λ i. i) n 1 =
        mapped s (opener H s) (λ (A : Opener). A.own) (λ i. i) (λ i. refl) n 1 in
        record {
          opened = record {
            accepted = every (λ A. (begun H session n t (openers H s) A).opened.cause ≡ 0) (λ p l h g. accepted-by p l h);
            named = every (λ A. A.sender ≡ q) (λ p l h g. refl);
            bytes = every (λ A. Bytes (party_of A).message) (λ p l h g. message-bytes p (sender_in s) (handed_to H s p) (handed-bytes s causes.0 H there bytes p));
            delivered = every (λ S. S.own ≡ q → Every H session n t (openers H s) (λ A. A.own ≢ q → A.bytes ≡ gave H session n t (openers H s) S))
                (λ i l h g e. every (λ A. A.own ≢ q → A.bytes ≡ gave H session n t (openers H s) (opener H s i))
                (λ p k j f d. handed-good s causes.0 H p d (good-there i l h g e) ∙ sym (gave-is i e)));
            apart = ap different owns ∙ apart s n 1;
            bad = subst (λ (l : List ℕ). absent n 1 l ≤ t) (sym owns) (omega (arith, bad-count s, few-bad));
          };
          called = subst (λ (l : List Good). CalledAll H session n t l z bit) (sym same-parties) P.called;
          ruled = subst (λ (l : List Good). Ruled H session n t l z bit) (sym same-parties) P.ruled;
          delivered = λ b. subst (λ (l : List Good). DeliveredAll H session n t l) (sym same-parties) (P.delivered b);
          clean = subst (λ (l : List Good). Clean H session n t l) (sym same-parties) clean;
        }

    figure-by : sender_bytes + sent H session n t good ≡ sent_in_all H session n t (openers H s)
    unfolding opened_by_sender
    figure-by =
        ap₂ (λ (a b : ℕ). a + b)
        (sym (sum_of s (opener H s) (λ (A : Opener). (n - 1) * length (gave H session n t (openers H s) A)) (λ p. (n - 1) * length (given_by H s p)) n 1
        (λ p l h g. ap (λ (b : List ℕ). (n - 1) * length b) (given_is p l (omega arith)))))
        (ap (sent H session n t) (sym same-parties))
      where
        given_is : (p : ℕ) → 1 ≤ p → p ≤ n → gave H session n t (openers H s) (opener H s p) ≡ given_by H s p
        given_is p l h = elim (ℕ_discrete p q) [
          | yes e ↦ gave-is p e ∙ sym (rw (there, eq-eqb p q e))
          | no d ↦ accepted-wrote n t p q (handed_to H s p) H session (replicate max_message_packet 0) (accepted-by p l h)
              ∙ other-packet p q (handed_to H s p) n d ∙ sym (rw (there, ne_eqb p q d))
        ]

  -- and all lines give one result: that of the theorem, as is the figure behind them
  pub record Lines (R : Result) : Type 0 where
    pub agreed : Conclusions H session n t good bit R
    pub lines : (p : ℕ) → 1 ≤ p → p ≤ n → is_good s p ≡ true → ends_with H s p ≡ R
    pub figure : sent_from H s n 1 ≡ sender_bytes + sent H session n t good
    pub prints : output H s ≡ lines_of s R n 1 ++ sent_line (sender_bytes + sent H session n t good)
    -- with no sender no other bytes are sent than those of agreement; with one it is broadcast's claim, and its sum
    pub own-books : has_sender s ≡ false → sender_bytes ≡ 0
    pub by-sender : has_sender s ≡ true
        → Settled H session n t (openers H s) (sender_in s) bit R × (sender_bytes + sent H session n t good ≡ sent_in_all H session n t (openers H s))

  printed-lines : (R : Result) → ((p : ℕ) → 1 ≤ p → p ≤ n → is_good s p ≡ true → ends_with H s p ≡ R)
      → output H s ≡ lines_of s R n 1 ++ sent_line (sender_bytes + sent H session n t good)
  unfolding output
  printed-lines R f = ap₂ (λ (l : List ℕ) (k : ℕ). l ++ sent_line k) (lines_same R f n 1 (omega arith) (omega arith)) sent-figure

  lines-of : (R : Result) → Conclusions H session n t good bit R → (has_sender s ≡ true → Settled H session n t (openers H s) (sender_in s) bit R) → Lines R
  lines-of R C by =
      record {
        agreed = C;
        lines = line_of R C;
        figure = sent-figure;
        prints = printed-lines R (line_of R C);
        own-books = none-sends;
        by-sender = λ e. (by e, figure-by e);
      }

  pub one-result : Clean H session n t good → (R : Result) × Lines R
  one-result clean = go (way (has_sender s))
    where
      go : Way (has_sender s) → (R : Result) × Lines R
      go (on e) =
          let a = broadcast H wide session n t (openers H s) (sender_in s) z bit (premises-by e clean) in
          (a.0, lines-of a.0 (subst (λ (l : List Good). Conclusions H session n t l bit a.0) (same-parties e) a.1.agreed) (λ w. a.1))
      go (off e) =
          let a = agreement H wide session n t good z bit (premises clean) in
          (a.0, lines-of a.0 a.1 (λ w. clash w e))

-- at SHA-256
pub one-result-sha256 : (s : List ℕ) (bytes : Bytes s) (ok : session_cause sha256 s ≡ 0)
    → Clean sha256 (session_of s) (n_in s) (t_in s) (good_parties sha256 s) → (R : Result) × Lines sha256 sha256-length s bytes ok R
one-result-sha256 s bytes ok = one-result sha256 sha256-length s bytes ok

-- demand 3, on which the others rest
pub demand-3 : Agreement sha256
demand-3 = agreement-sha256
