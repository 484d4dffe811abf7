-- Agreement, for any hash of 32 bytes. On bit 0 all end with nothing. On bit 1 some good party A is happy, by the rule of the bit, and
-- every good party ends with A's message M: a happy one has M itself, since it has M's root; another was sent a share by A, so it relays a
-- packet that passes under M's root; so each has under every number M's share or none, and M's under each good party's number, n - t at least.
-- No two needed strings have one hash: that is used for what has or passes under M's root, and nowhere else. Assumes nothing.
use mathlib.Core.Path.{◌≡◌, refl, sym, ap, ap₂, ◌∙◌, subst}
use mathlib.Core.Logic.{◌⊎◌, inl, inr, ◌≢◌}
use mathlib.Core.Bool.{Bool, true, false, cond}
use mathlib.Core.List.Memᴰ
use mathlib.Core.List.{List, [], ◌∷◌, Memᴰ}
use mathlib.Core.Option.{Option, some}
use Prim.Native.Nat.{ℕ, ◌+◌, ◌-◌, ◌*◌, ◌≤◌, ◌<◌}
use native.Mathlib.Nat.{mul-le-mul_left}
use native.Mathlib.Decide.{ℕ_discrete}
use native.Mathlib.Omega.{arith}
use borrow.Author.Tests.{eqb-true, eqb-false, eq-eqb, ne_eqb}
use lib.Dec.{eqb}
use lib.ListN.{length, get_or}
use Rattle.sha256.specs.Sha256.{sha256}
use Rattle.sha256.proofs.Laws.{sha256-length}
use Rattle.limits.proofs.Group.{group_of}
use Rattle.buffer.specs.Entries.{bodies}
use Rattle.buffer.proofs.Tabulate.{length-tabulate, get_or-tabulate}
use Rattle.erasure.specs.Coding.{share_length, share}
use Rattle.erasure.specs.Rebuild.{Recovered, present}
use Rattle.merkle.specs.Height.{height}
use Rattle.merkle.specs.Shares.{same}
use Rattle.merkle.proofs.Judged.{same_true, same_refl}
use Rattle.packet.specs.Class.{valid, class_of}
use Rattle.commitment.specs.Commitment.{message_root, packet_with, relay_with}
use Rattle.commitment.specs.Rebuild.{under_root}
use Rattle.commitment.specs.Private.{Coded}
use Rattle.commitment.proofs.Opening.{open-bounds}
use Rattle.commitment.proofs.Messages.{share-there, path_to, rebuilds}
use Rattle.commitment.proofs.Packets.{packet-valid, valid-length}
use Rattle.commitment.proofs.Binding.{valid-share, one-root, CollisionFree, no-collision}
use Rattle.party.specs.State.{Result, nothing, settled}
use Rattle.party.specs.Steps.{share_from, rebuilt}
use Rattle.party.specs.Answer.{Opened}
use Rattle.party.proofs.Ways.{Way, on, off, way, clash}
use Rattle.agreement.specs.Calls.{heard, wrote, entry, lengths, opening, result_after, sent_by}
use Rattle.agreement.specs.Agreement.{Good, among, absent, Each, owns, step, OpenedAll, CalledAll, Ruled, DeliveredAll, all_hashed, sent, Conclusions, Agreement}
use Rattle.agreement.proofs.Ran.{opened-is}
use Rattle.agreement.proofs.Lists.{lengths_none, lengths-others, sum_below, sum-none, among-out, one_each, present-borne}
use Rattle.agreement.proofs.Needed.{is_glad, relay_from, coding, check, Needed}
use Rattle.agreement.proofs.Later.{gave}
use Rattle.agreement.proofs.Strings.{clean-of-all}
use Rattle.agreement.proofs.Conduct.{Conduct, shares_in, shares-or, voted, someone, bit-low, ended, conducts, needed-hashed}

regroup : (g k K x : ℕ) → x ≤ g * (2 * (k * K)) → x ≤ 2 * g * k * K
regroup g k K x h = omega arith

none-times : (k a b : ℕ) → k ≡ 0 → k * a ≤ k * b
none-times k a b e = rw e (omega arith)

module _ (H : List ℕ → List ℕ) (wide : (s : List ℕ) → length (H s) ≡ 32) (session n t : ℕ) (good : List Good) (z : List ℕ) (bit : ℕ)
    (opened : OpenedAll H session n t good) (called : CalledAll H session n t good z bit) (ruled : Ruled H session n t good z bit) where
  abbrev In : Good → Type 0
  In A = Memᴰ A good

  -- what an accepted opening says
  record Admitted (A : Good) : Type 0 where
    coded : Coded n t A.message
    first : 1 ≤ A.own
    last : A.own ≤ n

  admitted : (A : Good) → In A → Admitted A
  admitted A h =
      let o = open-bounds n t A.own (length A.message) (opened-is H session n t A.own A.message (opened.accepted A h)).0 in
      let g = group_of n t o.0 in
      record {
        coded = record { low = g.low; high = g.high; faults = g.faults; short = o.3 };
        first = o.1;
        last = o.2;
      }

  root-given : (A : Good) → In A → (opening H session n t A.own A.message).root ≡ message_root H session n t A.message
  root-given A h = ap (λ (o : Opened). o.root) (opened-is H session n t A.own A.message (opened.accepted A h)).1

  -- on bit 0
  module _ (b0 : bit ≡ 0) where
    -- all opened with one message: then all were happy, and the bit was 1
    not-common : (m : List ℕ) → Each H session n t good (λ A. A.message ≡ m) → ⊥
    not-common m e =
        let zm : z ≡ message_root H session n t m =
        ruled.root (message_root H session n t m)
        (λ A h. ap {B = Option (List ℕ)} some (root-given A h ∙ ap (message_root H session n t) (e A h))) in
        let one : bit ≡ 1 =
        ruled.vote 1 (λ A h. voted H session n t good z opened.accepted called.step2 A h
        ∙ ap {B = Option ℕ} (λ (g : Bool). some (cond g 1 0)) (ap₂ same (ap (message_root H session n t) (e A h)) zm ∙ same_refl (message_root H session n t m))) in
        omega arith

    on-zero : Conclusions H session n t good bit nothing
    on-zero =
        record {
          holds = λ A h. (ended H session n t good z bit opened called A h b0).0;
          gives = λ A h. gave H session n t A.own A.message A.calls nothing (ended H session n t good z bit opened called A h b0).0;
          void = λ e. refl;
          somebodys = inl refl;
          common = λ m e. absurd (not-common m e);
          bound = λ m e. absurd (let q : ◌≡◌ {A = ℕ} 0 1 = cc in omega arith);
          free = λ e. sum-none (λ (A : Good). sent_by H session n t A.own A.message A.calls) good
              (λ A h. (ended H session n t good z bit opened called A h b0).1);
        }

  -- on bit 1
  module _ (b1 : bit ≡ 1) where
    does : (A : Good) → In A → Conduct H session n t A.own A.message A.calls z
    does A h = conducts H session n t good z bit opened called A h b1

    module _ (delivered : DeliveredAll H session n t good) (free : CollisionFree H (Needed H session n t good z)) (A : Good) (hA : In A)
        (eA : is_glad H session n t z A ≡ true) where
      abbrev M : List ℕ
      M = A.message

      root-M : message_root H session n t M ≡ z
      root-M = same_true (message_root H session n t M) z eA

      codedM : Coded n t M
      codedM = (admitted A hA).coded

      -- the packet with share j of M passes under z
      packetM : (j : ℕ) (first : 1 ≤ j) (last : j ≤ n)
          → class_of H session n j z (packet_with H session n t M j) ≡ valid (share (n - t) j M) (path_to H wide session n t M codedM j first last)
      packetM j first last = packet-valid H wide session n t M codedM j first last z root-M

      -- a happy party has M
      glad-M : (B : Good) → In B → is_glad H session n t z B ≡ true → B.message ≡ M
      glad-M B hB e =
          no-collision H (Needed H session n t good z) free (λ s h. (B, hB, coding e h)) (λ s h. (A, hA, coding eA h))
          (one-root H wide session n t B.message M (admitted B hB).coded codedM (opened.bytes B hB) (opened.bytes A hA)
          (same_true (message_root H session n t B.message) z e ∙ sym root-M))

      -- a relay that an unhappy party has under number j, and that passes, holds M's share
      abbrev has : Good → ℕ → List ℕ
      has B j = relay_from H session n t B.own B.message B.calls j

      valid-M : (B : Good) → In B → is_glad H session n t z B ≡ false → (j : ℕ) (x : List ℕ) (p : List (List ℕ)) → class_of H session n j z (has B j) ≡ valid x p
          → x ≡ share (n - t) j M
      valid-M B hB u j x p v =
          no-collision H (Needed H session n t good z) free (λ s h. (B, hB, check u j x p v h)) (λ s h. (A, hA, coding eA h))
          (valid-share H wide session n t M codedM z root-M j (has B j) x p v)

      -- an unhappy party is not A, and A's packet for it came
      other : (B : Good) → In B → is_glad H session n t z B ≡ false → A.own ≢ B.own
      other B hB u e = clash eA (ap (is_glad H session n t z) (one_each (λ (C : Good). C.own) good opened.apart hA hB e) ∙ u)

      came : (B : Good) → In B → is_glad H session n t z B ≡ false → heard n A.own (step H session n t good 4 B) ≡ packet_with H session n t M B.own
      unfolding entry
      came B hB u =
          let b = admitted B hB in
          let k : ℕ = B.own - 1 in
          let e : k + 1 ≡ B.own = omega (arith, b.first) in
          delivered.first_inbox B hB A hA (λ q. other B hB u (sym q))
          ∙ ap (λ (l : List (List ℕ)). get_or l k []) ((does A hA).outbox eA)
          ∙ get_or-tabulate n _ k [] (omega (arith, b.first, b.last))
          ∙ ap (λ (j : ℕ). cond (eqb j A.own) [] (packet_with H session n t M j)) e
          ∙ ap (λ (g : Bool). cond g [] (packet_with H session n t M B.own)) (ne_eqb B.own A.own (λ q. other B hB u (sym q)))

      -- what a good party relays passes under its number, and holds M's share
      abbrev Relays : Good → Type 0
      Relays C = (p : List (List ℕ)) × (class_of H session n C.own z (wrote (step H session n t good 4 C)) ≡ valid (share (n - t) C.own M) p)

      relay-happy : (C : Good) → In C → n ≢ 1 → is_glad H session n t z C ≡ true → wrote (step H session n t good 4 C) ≡ packet_with H session n t M C.own
      relay-happy C hC d e = (does C hC).relay e ∙ ap (relay_with H session n t C.own) (glad-M C hC e) ∙ rw (ne_eqb n 1 d)

      relays : (C : Good) → In C → n ≢ 1 → Relays C
      relays C hC d = go (way (is_glad H session n t z C))
        where
          go : Way (is_glad H session n t z C) → Relays C
          go (on e) =
              let c = admitted C hC in (
                path_to H wide session n t M codedM C.own c.first c.last,
                ap (class_of H session n C.own z) (relay-happy C hC d e) ∙ packetM C.own c.first c.last,
              )
          go (off u) =
              let a = admitted A hA in
              let c = admitted C hC in
              let r = (does C hC).relays u A.own a.first a.last (other C hC u) (share (n - t) C.own M)
              (path_to H wide session n t M codedM C.own c.first c.last)
              (ap (class_of H session n C.own z) (came C hC u) ∙ packetM C.own c.first c.last) in
              let own : has C C.own ≡ wrote (step H session n t good 4 C) = rw (eq-eqb C.own C.own refl) in (
                r.1,
                r.2 ∙ ap (λ (x : List ℕ). valid x r.1)
                    (valid-M C hC u C.own r.0 r.1 (ap (class_of H session n C.own z) own ∙ r.2)),
              )

      -- an unhappy party has M's shares, of every good party, and no others
      module _ (B : Good) (hB : In B) (uB : is_glad H session n t z B ≡ false) where
        abbrev gs : List (List ℕ)
        gs = shares_in H session n t B.own B.message B.calls z

        gs-length : length gs ≡ n
        gs-length = length-tabulate n _

        at : (k : ℕ) → k < n → get_or gs k [] ≡ share_from (class_of H session n (1 + k) z (has B (1 + k)))
        at k l = get_or-tabulate n _ k [] l

        entry-or : (k : ℕ) → k < n → (get_or gs k [] ≡ []) ⊎ (get_or gs k [] ≡ share (n - t) (1 + k) M)
        entry-or = shares-or H session n t B.own B.message B.calls z (n - t) M (valid-M B hB uB)

        -- a good party's relay came
        relay-came : (C : Good) → In C → has B C.own ≡ wrote (step H session n t good 4 C)
        relay-came C hC = go (way (eqb C.own B.own))
          where
            go : Way (eqb C.own B.own) → has B C.own ≡ wrote (step H session n t good 4 C)
            go (on q) =
                rw q (ap (λ (D : Good). wrote (step H session n t good 4 D))
                (one_each (λ (D : Good). D.own) good opened.apart hB hC (sym (eqb-true C.own B.own q))))
            go (off q) = rw q (delivered.second_inbox B hB C hC (λ r. eqb-false C.own B.own q (sym r)))

        good-entry : (k : ℕ) → k < n → (C : Good) → In C → 1 + k ≡ C.own → get_or gs k [] ≡ share (n - t) (1 + k) M
        good-entry k l C hC e =
            let a = admitted A hA in
            let b = admitted B hB in
            let r = relays C hC (λ q. other B hB uB (omega (arith, q, a.first, a.last, b.first, b.last))) in
            at k l ∙ ap share_from (subst (λ (j : ℕ). class_of H session n j z (has B j) ≡ valid (share (n - t) j M) r.0) (sym e)
            (ap (class_of H session n C.own z) (relay-came C hC) ∙ r.1))

        enough : n - t ≤ length (present 1 gs)
        enough =
            let a : absent (length gs) 1 (owns H session n t good) ≤ t =
            subst (λ (k : ℕ). absent k 1 (owns H session n t good) ≤ t) (sym gs-length) opened.bad in
            omega (arith, present-borne gs 1 (owns H session n t good) there, gs-length)
          where
            there : (k : ℕ) → k < length gs → among (1 + k) (owns H session n t good) ≡ true → 1 ≤ length (get_or gs k [])
            there k l q =
                let c = among-out (λ (C : Good). C.own) (1 + k) good q in
                omega (arith, ap length (good-entry k (omega (arith, gs-length)) c.0 c.1 c.2), share-there n t M codedM (1 + k))

        unhappy-result : (does B hB).result ≡ settled M
        unhappy-result =
            (does B hB).rebuilds uB
            ∙ ap (λ (a : Recovered). rebuilt (under_root H session n t z a)) (rebuilds n t M codedM gs gs-length entry-or enough (opened.bytes A hA))
            ∙ rw (ap (same (message_root H session n t M)) (sym root-M) ∙ same_refl (message_root H session n t M))

      results : (B : Good) (hB : In B) → (does B hB).result ≡ settled M
      results B hB = go (way (is_glad H session n t z B))
        where
          go : Way (is_glad H session n t z B) → (does B hB).result ≡ settled M
          go (on e) = (does B hB).keeps e ∙ ap settled (glad-M B hB e)
          go (off u) = unhappy-result B hB u

      -- the bytes sent
      abbrev K : ℕ
      K = 4 + share_length (n - t) (length M) + 32 * height n

      packets-small : (B : Good) → In B → lengths (bodies n (wrote (step H session n t good 3 B))) ≤ (n - 1) * K
      packets-small B hB = go (way (is_glad H session n t z B))
        where
          each : (k : ℕ) → k < n → (b : Bool) → length (cond b [] (packet_with H session n t M (k + 1))) ≤ K
          each k l true = omega arith
          each k l false =
              valid-length H session n t M (k + 1) z (packet_with H session n t M (k + 1)) _ (packetM (k + 1) (omega arith) (omega arith))

          go : Way (is_glad H session n t z B) → lengths (bodies n (wrote (step H session n t good 3 B))) ≤ (n - 1) * K
          go (on e) =
              let b = admitted B hB in
              let one : B.own - 1 + 1 ≡ B.own = omega (arith, b.first) in
              rw ((does B hB).outbox e, glad-M B hB e)
              (lengths-others n K (B.own - 1) _ (omega (arith, b.first, b.last)) (λ k l. each k l (eqb (k + 1) B.own))
              (rw (eq-eqb (B.own - 1 + 1) B.own one)))
          go (off u) = rw ((does B hB).quiet u, lengths_none n) (omega arith)

      relay-small : (B : Good) → In B → (n - 1) * length (wrote (step H session n t good 4 B)) ≤ (n - 1) * K
      relay-small B hB = go (ℕ_discrete n 1)
        where
          go : Dec (n ≡ 1) → (n - 1) * length (wrote (step H session n t good 4 B)) ≤ (n - 1) * K
          go (yes e) = none-times (n - 1) (length (wrote (step H session n t good 4 B))) K (omega arith)
          go (no d) =
              let r = relays B hB d in
              mul-le-mul_left (n - 1) (valid-length H session n t M B.own z (wrote (step H session n t good 4 B)) r.0 r.1)

      party-small : (B : Good) → In B → sent_by H session n t B.own B.message B.calls ≤ 2 * ((n - 1) * K)
      party-small B hB = rw (does B hB).sends (omega (arith, packets-small B hB, relay-small B hB))

      sent-small : sent H session n t good ≤ 2 * length good * (n - 1) * K
      sent-small =
          regroup (length good) (n - 1) K (sent H session n t good)
          (sum_below (λ (C : Good). sent_by H session n t C.own C.message C.calls) (2 * ((n - 1) * K)) good party-small)

      holds : (B : Good) → In B → result_after H session n t B.own B.message B.calls ≡ some (settled M)
      holds B h = (does B h).ends ∙ ap {B = Option Result} some (results B h)

      on_one : Conclusions H session n t good bit (settled M)
      on_one =
          record {
            holds = holds;
            gives = λ B h. gave H session n t B.own B.message B.calls (settled M) (holds B h);
            void = λ b0. absurd (omega arith);
            somebodys = inr (A, hA, refl);
            common = λ m e. ap settled (e A hA);
            bound = λ m e. let q : M ≡ m = cc in
                subst (λ (y : List ℕ). sent H session n t good ≤ 2 * length good * (n - 1) * (4 + share_length (n - t) (length y) + 32 * height n)) q
                sent-small;
            free = λ e. absurd (let q : ◌≡◌ {A = ℕ} 0 1 = cc in omega arith);
          }

  -- the bit is 0 or 1, also where there is no good party
  bit-zero : bit ≢ 1 → (l : List Good) → l ≡ good → bit ≡ 0
  bit-zero d [] e = ruled.vote 0 (λ A h. absurd (Memᴰ.not-nil (subst (λ (l : List Good). Memᴰ A l) (sym e) h)))
  bit-zero d (A ∷ l) e =
      let b = bit-low H session n t good z bit opened called A (subst (λ (k : List Good). Memᴰ A k) e (Memᴰ.head refl)) in omega arith

  -- agreement, where no two different needed strings have one hash
  pub agreement-needed : (bit ≡ 1 → DeliveredAll H session n t good) → (bit ≡ 1 → CollisionFree H (Needed H session n t good z))
      → (R : Result) × Conclusions H session n t good bit R
  agreement-needed delivered free = go (ℕ_discrete bit 1)
    where
      go : Dec (bit ≡ 1) → (R : Result) × Conclusions H session n t good bit R
      go (yes b1) =
          let a = someone H session n t good z opened.accepted called.step2 bit ruled.vote b1 in
          (settled a.0.message, on_one b1 (delivered b1) (free b1) a.0 a.1 a.2)
      go (no d) = (nothing, on-zero (bit-zero d good refl))

-- so it holds where no two different strings have one hash of any list that has the needed ones; that of all openings and path checks is such a list
pub agreement : (H : List ℕ → List ℕ) → ((s : List ℕ) → length (H s) ≡ 32) → Agreement H
agreement H wide session n t good z bit P =
    let in_List = needed-hashed H session n t good z bit P.opened P.called in
    agreement-needed H wide session n t good z bit P.opened P.called P.ruled P.delivered
    (λ b1 x y h k. P.clean x y (in_List b1 x h) (in_List b1 y k))

-- so is the longer one of all strings hashed
pub agreement-of-all : (H : List ℕ → List ℕ) → ((s : List ℕ) → length (H s) ≡ 32) → (session n t : ℕ) (good : List Good) (z : List ℕ) (bit : ℕ)
    → OpenedAll H session n t good → CalledAll H session n t good z bit → Ruled H session n t good z bit → (bit ≡ 1 → DeliveredAll H session n t good)
    → ((x y : List ℕ) → Memᴰ x (all_hashed H session n t good) → Memᴰ y (all_hashed H session n t good) → H x ≡ H y → x ≡ y)
    → (R : Result) × Conclusions H session n t good bit R
agreement-of-all H wide session n t good z bit opened called ruled delivered free =
    let in_List = needed-hashed H session n t good z bit opened called in
    agreement-needed H wide session n t good z bit opened called ruled delivered
    (λ b1 x y h k. clean-of-all H session n t good free x y (in_List b1 x h) (in_List b1 y k))

-- demand 3: at SHA-256
pub agreement-sha256 : Agreement sha256
agreement-sha256 = agreement sha256 sha256-length
