-- All good boxes end with one result, parties with their lists of calls: from agreement at SHA-256, whose premises and conclusions are told there by
-- events. What is seen of an event is what the claim says of it. Assumes nothing.
use mathlib.Core.Path.{◌≡◌, refl, sym, ap, ◌∙◌}
use mathlib.Core.Logic.{◌⊎◌, inl, inr, ◌≢◌}
use mathlib.Core.Bool.{Bool, true, false, cond}
use mathlib.Core.List.{List, [], ◌∷◌, map, Memᴰ}
use mathlib.Core.Option.{Option, none, some}
use Prim.Native.Nat.{ℕ}
use native.Mathlib.Omega.{arith}
use lib.Dec.{eqb}
use lib.ListN.{take, length-map}
use Rattle.sha256.specs.Sha256.{sha256}
use Rattle.party.specs.State.{Result, nothing, settled}
use Rattle.party.specs.Steps.{Stepped}
use Rattle.agreement.specs.Calls.{Call, agree_root, agree_bit, take_shares, take_relays, step_of, Event, entry, inbox_in, heard, wrote, packet_to}
use Rattle.agreement.specs.Calls.{bit_given, sent_in, sent_over, did, sent_by}
use Rattle.agreement.specs.Calls as calls
use Rattle.agreement.specs.Agreement.{Good, sum_over, step, Clean as TheirClean, Premises, sent as all_sent, Conclusions}
use Rattle.agreement.specs.AgreedRoot.{Told as TheirTold}
use Rattle.agreement.proofs.Lists.{same_some, first-in}
use Rattle.agreement.proofs.Ran.{is-third}
use Rattle.agreement.proofs.Agreement.{agreement-sha256}
use Rattle.claims.specs.Terms.{Act, rooted, sent, relayed, ended, step_in, first, bytes_in, Box, Clean, act_of, party_box}
use Rattle.claims.specs.Claims.{Sitting, OneResult, bytes_sent, AllGoodBoxesEndWithOneResult}
use Rattle.claims.specs.ReadAgain.{EveryReaderGetsIt}
use Rattle.claims.specs.AgreedRoot.{Told}
use Rattle.agreement.proofs.Mapped.{in_map, all_map, map-map, sum-map, join-map}

-- what is seen of an event
abbrev pub view : Event → Act
view e = act_of e.call e.reply

abbrev pub seen : Option Event → Option Act
seen none = none
seen (some e) = some (view e)

pub view-step : (c : Call) (r : Stepped) → step_in (act_of c r) ≡ step_of c
view-step (agree_root z) r = refl
view-step (agree_bit bit out) r = refl
view-step (take_shares inbox out) r = refl
view-step (take_relays inbox out) r = refl

pub view_first : (k : ℕ) (es : List Event) → first k (map view es) ≡ seen (calls.first k es)
unfolding first calls.first
view_first k [] = refl
view_first k (e ∷ es) = rw (view-step e.call e.reply) (go (eqb (step_of e.call) k) (view_first k es))
  where
    go : (b : Bool) → first k (map view es) ≡ seen (calls.first k es)
        → cond b (some (view e)) (first k (map view es)) ≡ seen (cond b (some e) (calls.first k es))
    go true r = refl
    go false r = r

unseen : (o : Option Event) (d : Act) → seen o ≡ some d → (e : Event) × (o ≡ some e) × (view e ≡ d)
unseen none d q = absurd (let z : ◌≡◌ {A = ℕ} 0 1 = cc in omega arith)
unseen (some e) d q = (e, refl, same_some q)

-- and what an event was, of which that is seen
was-rooted : (c : Call) (r : Stepped) (z : List ℕ) (b : ℕ) → act_of c r ≡ rooted z b → (c ≡ agree_root z) × (r.value ≡ b)
was-rooted (agree_root y) r z b q = (cc, cc)
was-rooted (agree_bit bit out) r z b q = absurd (let k : ◌≡◌ {A = ℕ} 0 1 = cc in omega arith)
was-rooted (take_shares inbox out) r z b q = absurd (let k : ◌≡◌ {A = ℕ} 0 1 = cc in omega arith)
was-rooted (take_relays inbox out) r z b q = absurd (let k : ◌≡◌ {A = ℕ} 0 1 = cc in omega arith)

was-sent : (c : Call) (r : Stepped) (bit : ℕ) (w : List ℕ) → act_of c r ≡ sent bit w
    → (out : List ℕ) × (c ≡ agree_bit bit out) × (take r.value r.buffer ≡ w)
was-sent (agree_root y) r bit w q = absurd (let k : ◌≡◌ {A = ℕ} 0 1 = cc in omega arith)
was-sent (agree_bit b out) r bit w q = (out, cc, cc)
was-sent (take_shares inbox out) r bit w q = absurd (let k : ◌≡◌ {A = ℕ} 0 1 = cc in omega arith)
was-sent (take_relays inbox out) r bit w q = absurd (let k : ◌≡◌ {A = ℕ} 0 1 = cc in omega arith)

was-relayed : (c : Call) (r : Stepped) (inbox w : List ℕ) → act_of c r ≡ relayed inbox w
    → (inbox_in c ≡ inbox) × (take r.value r.buffer ≡ w)
was-relayed (agree_root y) r inbox w q = absurd (let k : ◌≡◌ {A = ℕ} 0 1 = cc in omega arith)
was-relayed (agree_bit b out) r inbox w q = absurd (let k : ◌≡◌ {A = ℕ} 0 1 = cc in omega arith)
was-relayed (take_shares i out) r inbox w q = (cc, cc)
was-relayed (take_relays i out) r inbox w q = absurd (let k : ◌≡◌ {A = ℕ} 0 1 = cc in omega arith)

pub was-ended : (c : Call) (r : Stepped) (inbox : List ℕ) (R : Option Result) → act_of c r ≡ ended inbox R
    → (inbox_in c ≡ inbox) × (r.result ≡ R)
was-ended (agree_root y) r inbox R q = absurd (let k : ◌≡◌ {A = ℕ} 0 1 = cc in omega arith)
was-ended (agree_bit b out) r inbox R q = absurd (let k : ◌≡◌ {A = ℕ} 0 1 = cc in omega arith)
was-ended (take_shares i out) r inbox R q = absurd (let k : ◌≡◌ {A = ℕ} 0 1 = cc in omega arith)
was-ended (take_relays i out) r inbox R q = (cc, cc)

-- every accepted step 5 gave R, if the events say so
pub readers : (es : List Event) (R : Result) → ((e : Event) → Memᴰ e es → step_of e.call ≡ 5 → e.reply.result ≡ some R)
    → (inbox : List ℕ) (r : Option Result) → Memᴰ (ended inbox r) (map view es) → r ≡ some R
readers es R h inbox r m = all_map view Gave es one (ended inbox r) m inbox r refl
  where
    Gave : Act → Type 0
    Gave d = (inbox : List ℕ) (r : Option Result) → d ≡ ended inbox r → r ≡ some R

    one : (e : Event) → Memᴰ e es → (inbox : List ℕ) (r : Option Result) → view e ≡ ended inbox r → r ≡ some R
    one e i inbox r q =
        sym (was-ended e.call e.reply inbox r q).1 ∙ h e i (sym (view-step e.call e.reply) ∙ ap step_in q)

-- the bytes sent
view-bytes : (n : ℕ) (c : Call) (r : Stepped) → bytes_in n (act_of c r) ≡ sent_in n c (take r.value r.buffer)
view-bytes n (agree_root z) r = refl
view-bytes n (agree_bit bit out) r = refl
view-bytes n (take_shares inbox out) r = refl
view-bytes n (take_relays inbox out) r = refl

pub view-sent : (n : ℕ) (es : List Event) → sum_over (bytes_in n) (map view es) ≡ sent_over n es
unfolding sum_over sent_over
view-sent n [] = refl
view-sent n (e ∷ es) = rw (view-bytes n e.call e.reply, view-sent n es)

one-sent : {a b : ℕ} {x y : List ℕ} → ◌≡◌ {A = Option Act} (some (sent a x)) (some (sent b y)) → a ≡ b
one-sent e = cc

-- in a sitting as demand 3 supposes it, boxes are told one root and one bit
pub sitting-tells : (n t : ℕ) (good : List Box) (z : List ℕ) (bit : ℕ) → Sitting n t good z bit → Told n t good z bit
sitting-tells n t good z bit P =
    record {
      opened = P.opened;
      root = P.step2;
      same_bit = λ A h b out f. one-sent (sym f ∙ (P.step3 A h).1);
      bit-rule = P.bit-rule;
    }

-- the strings of boxes are those of their parties
pub cleaned : (session n t : ℕ) (good : List Good) → Clean (map (party_box session n t) good) → TheirClean sha256 session n t good
cleaned session n t good c x y h k =
    let theirs = join-map (party_box session n t) (λ (B : Box). B.opened_and_checked) good in
    c x y (rw theirs h) (rw theirs k)

module _ (session n t : ℕ) (good : List Good) (z : List ℕ) (bit : ℕ) where
  abbrev box : Good → Box
  box = party_box session n t

  abbrev In : Good → Type 0
  In A = Memᴰ A good

  -- a party's first event of step k
  event : (k : ℕ) (A : Good) (d : Act) → first k (box A).acts ≡ some d
      → (e : Event) × (step sha256 session n t good k A ≡ some e) × (view e ≡ d)
  event k A d q = unseen (step sha256 session n t good k A) d (sym (view_first k (did sha256 session n t A.own A.message A.calls)) ∙ q)

  -- boxes that are told one root and one bit
  module _ (P : Told n t (map box good) z bit) where
    pub told : TheirTold sha256 session n t good z bit
    told =
        record {
          bytes = λ A h. (P.opened (box A) (in_map box h)).1;
          root = second;
          same_bit = third;
          vote = λ v f. P.bit-rule v (all_map box (λ (B : Box). first 2 B.acts ≡ some (rooted z v)) good (voted v f));
        }
      where
        second : (A : Good) → In A → (e : Event) × (step sha256 session n t good 2 A ≡ some e) × (e.call ≡ agree_root z)
        second A h =
            let s = P.root (box A) (in_map box h) in
            let e = event 2 A (rooted z s.0) s.1 in
            (e.0, e.1, (was-rooted e.0.call e.0.reply z s.0 e.2).0)

        third : (A : Good) → In A → (e : Event) → step sha256 session n t good 3 A ≡ some e → (out : List ℕ) × (e.call ≡ agree_bit bit out)
        third A h e f =
            let es = did sha256 session n t A.own A.message A.calls in
            let c = is-third e.call (first-in 3 es e f).1 in
            let seen-is : first 3 (box A).acts ≡ some (sent c.0 (take e.reply.value e.reply.buffer)) =
            view_first 3 es ∙ ap seen f ∙ ap (λ (k : Call). some (act_of k e.reply)) c.2 in
            (c.1, c.2 ∙ ap (λ (b : ℕ). agree_bit b c.1) (P.same_bit (box A) (in_map box h) c.0 _ seen-is))

        voted : (v : ℕ) → ((A : Good) → In A → bit_given (step sha256 session n t good 2 A) ≡ some v) → (A : Good) → In A
            → first 2 (box A).acts ≡ some (rooted z v)
        voted v f A h =
            let s = P.root (box A) (in_map box h) in
            let e = event 2 A (rooted z s.0) s.1 in
            let b : e.0.reply.value ≡ s.0 = (was-rooted e.0.call e.0.reply z s.0 e.2).1 in
            let q : e.0.reply.value ≡ v = same_some (sym (ap bit_given e.1) ∙ f A h) in
            s.1 ∙ ap (λ (k : ℕ). some (rooted z k)) (sym b ∙ q)

  module _ (P : Sitting n t (map box good) z bit) where
    pub premises : Premises sha256 session n t good z bit
    premises =
        record {
          opened = record {
            bytes = λ A h. (P.opened (box A) (in_map box h)).1;
            accepted = λ A h. (P.opened (box A) (in_map box h)).0;
            apart = rw (sym (map-map box (λ (B : Box). B.own) good)) P.numbers;
            bad = rw (sym (map-map box (λ (B : Box). B.own) good)) P.bad;
          };
          called = record {
            step2 = (told (sitting-tells n t (map box good) z bit P)).root;
            step3 = third;
            step4 = λ b1 A h. fourth b1 A h;
            step5 = λ b1 A h. fifth b1 A h;
          };
          ruled = record {
            root = λ v f. P.root-rule v (all_map box (λ (B : Box). B.root ≡ v) good (λ A h. same_some (f A h)));
            vote = (told (sitting-tells n t (map box good) z bit P)).vote;
          };
          delivered = λ b1. record { first_inbox = came b1; second_inbox = relay-came b1 };
          clean = cleaned session n t good P.clean;
        }
      where
        third : (A : Good) → In A → (e : Event) × (out : List ℕ) × (step sha256 session n t good 3 A ≡ some e) × (e.call ≡ agree_bit bit out)
        third A h =
            let s = P.step3 (box A) (in_map box h) in
            let e = event 3 A (sent bit s.0) s.1 in
            let w = was-sent e.0.call e.0.reply bit s.0 e.2 in
            (e.0, w.0, e.1, w.1)

        fourth : bit ≡ 1 → (A : Good) → In A → (e : Event) × (step sha256 session n t good 4 A ≡ some e)
        fourth b1 A h =
            let s = P.step4 b1 (box A) (in_map box h) in
            let e = event 4 A (relayed s.0 s.1) s.2 in
            (e.0, e.1)

        fifth : bit ≡ 1 → (A : Good) → In A → (e : Event) × (step sha256 session n t good 5 A ≡ some e)
        fifth b1 A h =
            let s = P.step5 b1 (box A) (in_map box h) in
            let e = event 5 A (ended s.0 s.1) s.2 in
            (e.0, e.1)

        came : bit ≡ 1 → (A : Good) → In A → (B : Good) → In B → A.own ≢ B.own
            → heard n B.own (step sha256 session n t good 4 A) ≡ packet_to n A.own (step sha256 session n t good 3 B)
        came b1 A hA B hB d =
            let s = P.step4 b1 (box A) (in_map box hA) in
            let e = event 4 A (relayed s.0 s.1) s.2 in
            let i = (was-relayed e.0.call e.0.reply s.0 s.1 e.2).0 in
            let o = P.step3 (box B) (in_map box hB) in
            let f = event 3 B (sent bit o.0) o.1 in
            let w = (was-sent f.0.call f.0.reply bit o.0 f.2).2 in
            ap (heard n B.own) e.1 ∙ ap (entry n B.own) i
            ∙ P.first-inbox b1 (box A) (in_map box hA) (box B) (in_map box hB) d s.0 s.1 o.0 s.2 o.1
            ∙ sym (ap (packet_to n A.own) f.1 ∙ ap (entry n A.own) w)

        relay-came : bit ≡ 1 → (A : Good) → In A → (B : Good) → In B → A.own ≢ B.own
            → heard n B.own (step sha256 session n t good 5 A) ≡ wrote (step sha256 session n t good 4 B)
        relay-came b1 A hA B hB d =
            let s = P.step5 b1 (box A) (in_map box hA) in
            let e = event 5 A (ended s.0 s.1) s.2 in
            let i = (was-ended e.0.call e.0.reply s.0 s.1 e.2).0 in
            let o = P.step4 b1 (box B) (in_map box hB) in
            let f = event 4 B (relayed o.0 o.1) o.2 in
            let w = (was-relayed f.0.call f.0.reply o.0 o.1 f.2).1 in
            ap (heard n B.own) e.1 ∙ ap (entry n B.own) i
            ∙ P.second-inbox b1 (box A) (in_map box hA) (box B) (in_map box hB) d s.0 o.0 o.1 s.1 s.2 o.2
            ∙ sym (ap wrote f.1 ∙ w)

    pub bytes : bytes_sent n t (map box good) z bit ≡ all_sent sha256 session n t good
    unfolding sent_by
    bytes =
        sum-map box (λ (B : Box). sum_over (bytes_in n) B.acts) (λ (A : Good). sent_by sha256 session n t A.own A.message A.calls)
        (λ A. view-sent n (did sha256 session n t A.own A.message A.calls)) good

    given : (R : Result) → Conclusions sha256 session n t good bit R → bit ≡ 1 → (A : Good) → In A
        → (inbox : List ℕ) × (first 5 (box A).acts ≡ some (ended inbox (some R)))
    given R C b1 A h =
        let s = P.step5 b1 (box A) (in_map box h) in
        let e = event 5 A (ended s.0 s.1) s.2 in
        let r = (was-ended e.0.call e.0.reply s.0 s.1 e.2).1 in
        let i = first-in 5 (did sha256 session n t A.own A.message A.calls) e.0 e.1 in
        (s.0, s.2 ∙ ap (λ (k : Option Result). some (ended s.0 k)) (sym r ∙ C.gives A h e.0 i.0 i.1))

    pub conclusions : (R : Result) → Conclusions sha256 session n t good bit R → OneResult n t (map box good) z bit R
    conclusions R C =
        record {
          held = all_map box (λ (B : Box). B.result ≡ some R) good C.holds;
          given = λ b1. all_map box (λ (B : Box). (inbox : List ℕ) × (first 5 B.acts ≡ some (ended inbox (some R)))) good
              (given R C b1);
          somebodys = whose C.somebodys;
          common = λ m f. C.common m (λ A h. f (box A) (in_map box h));
          bound = λ m e. rw (bytes, length-map good box) (C.bound m e);
          free = λ e. bytes ∙ C.free e;
        }
      where
        whose : (R ≡ nothing) ⊎ ((A : Good) × Memᴰ A good × (R ≡ settled A.message))
            → (R ≡ nothing) ⊎ ((B : Box) × Memᴰ B (map box good) × (R ≡ settled B.book))
        whose (inl e) = inl e
        whose (inr a) = inr (box a.0, in_map box a.1, a.2)

pub every-reader-gets-it : (session n t : ℕ) (good : List Good) (z : List ℕ) (bit : ℕ) → Sitting n t (map (party_box session n t) good) z bit
    → EveryReaderGetsIt n t (map (party_box session n t) good) z bit
every-reader-gets-it session n t good z bit P =
    let r = agreement-sha256 session n t good z bit (premises session n t good z bit P) in
    let C = r.1 in (
      r.0,
      conclusions session n t good z bit P r.0 C,
      C.void,
      all_map (party_box session n t) (λ (B : Box). (inbox : List ℕ) (q : Option Result) → Memᴰ (ended inbox q) B.acts → q ≡ some r.0) good
          (λ A h. readers (did sha256 session n t A.own A.message A.calls) r.0 (C.gives A h)),
    )

pub all-good-boxes-end-with-one-result : AllGoodBoxesEndWithOneResult
all-good-boxes-end-with-one-result session n t good z bit P = let r = every-reader-gets-it session n t good z bit P in (r.0, r.1)
