-- What a walk over an inbox finds of one packet: it is what the packet's class says. So what is found of all packets tells which senders are faulty, and which
-- valid share is the first. For any hash; by cases of the class and of what was read. Assumes nothing.
use Rattle.std.proofs.Common.{◌≡◌, Bool, true, false, cond, eqb, not, ◌&&◌, ◌||◌, Option, Some, unwrap_or, List, [], ◌∷◌, ℕ, suc, ◌+◌, ◌-◌, ◌≤◌, ◌<◌, length, get_or, take, drop, refl, sym, ap, subst, ◌∙◌, zero-add, arith}
use Rattle.std.proofs.lemmas.List.{get_or-take, length-take-le}
use Rattle.limits.specs.Limits.{max_parties}
use Rattle.bitmap.specs.Bitmap.{names, map_of}
use Rattle.bitmap.proofs.Collected.{map_same}
use Rattle.buffer.specs.Entries.{bodies}
use Rattle.buffer.proofs.Entries.{length-bodies}
use Rattle.commitment.specs.declared.Seat.{Seat}
use Rattle.packet.specs.Format.{read_of}
use Rattle.packet.specs.Answer.{placed, judge_of}
use Rattle.packet.specs.Class.{Class, silent, faulty, valid, class_of}
use Rattle.packet.specs.Private.{verdict_for, NoShare, PassedOver, TakenAt}
use Rattle.packet.specs.Packet.{Packet}
use Rattle.packet.specs.Packet as packet
use Rattle.packet.specs.Judged.{Judged}
use Rattle.packet.specs.Judged as judged
use Rattle.packet.proofs.Verdict.{class-unread, judge-class, class-taken}
use Rattle.party.specs.Steps.{entry, is_faulty, sent_faulty, Taken, or_later, first_valid}
use Rattle.party.specs.Private.{TakenIs, finding_of, place_of, found_faulty, FindingIs, Found, class_at, marks, first_or, first_place}
use Rattle.packet.specs.declared.Share.{Share}
use Rattle.party.specs.declared.Finding.{Finding}
use Rattle.party.specs.declared.Finding.TheVariants.{Silent, Faulty, Valid}

-- a packet of k bytes that was read at a place of s, and judged with a number demanded of it
module _ (H : List ℕ → List ℕ) (session n j : ℕ) (root s : List ℕ) (at k : ℕ) (room : at + k ≤ length s) (x : Packet)
    (read : x ≡ placed at (read_of n (take k (drop at s)))) (low : 1 ≤ n) (high : n ≤ max_parties) (first : 1 ≤ j) (last : j ≤ n) (wide : length root ≡ 32) where
  abbrev C : Class
  C = class_of H session n j root (take k (drop at s))

  abbrev J : Judged
  J = judge_of H session n j root s x

  verdict-is : J ≡ verdict_for C
  verdict-is = judge-class H session n j root s at k room x read low high first last wide

  -- no share was read, so it is not valid
  none-valid : {share : List ℕ} {path : List (List ℕ)} → (y : Packet) → x ≡ y → NoShare y → C ≡ valid share path → ⊥
  none-valid y e h q =
      subst PassedOver q (class-unread H session n j root s at k room x read (subst NoShare (sym e) h))

  pub finding-is : FindingIs (finding_of J x) C s
  finding-is = go C refl verdict-is
    where
      there : (y : Packet) → x ≡ y → (share : List ℕ) (path : List (List ℕ)) → C ≡ valid share path → J ≡ judged.Valid → FindingIs (place_of y) (valid share path) s
      there (packet.Refused i) e share path q v = absurd (none-valid (packet.Refused i) e tt q)
      there packet.Silence e share path q v = absurd (none-valid packet.Silence e tt q)
      there (packet.Share number f l c) e share path q v =
          subst (TakenAt s f l c) q (class-taken H session n j root s at k room x read low high first last wide J refl number f l c e v)

      go : (c : Class) → C ≡ c → J ≡ verdict_for c → FindingIs (finding_of J x) C s
      go silent q v = subst (λ (f : Judged). FindingIs (finding_of f x) C s) (sym v) (subst (λ (c : Class). FindingIs Silent c s) (sym q) tt)
      go faulty q v = subst (λ (f : Judged). FindingIs (finding_of f x) C s) (sym v) (subst (λ (c : Class). FindingIs Faulty c s) (sym q) tt)
      go (valid share path) q v =
          subst (λ (f : Judged). FindingIs (finding_of f x) C s) (sym v)
          (subst (λ (c : Class). FindingIs (place_of x) c s) (sym q) (there x refl share path q v))

-- of the own entry nothing is found
pub passed-over : (b : Bool) (f : Finding) (c : Class) (s : List ℕ) → FindingIs f c s → FindingIs (cond b Silent f) (cond b silent c) s
passed-over true f c s h = tt
passed-over false f c s h = h

-- what was found tells whether the packet is faulty
finding-faulty : (f : Finding) (c : Class) (s : List ℕ) → FindingIs f c s → found_faulty f ≡ is_faulty c
finding-faulty Silent silent s h = refl
finding-faulty Silent faulty s h = absurd h
finding-faulty Silent (valid x p) s h = absurd h
finding-faulty Faulty silent s h = absurd h
finding-faulty Faulty faulty s h = refl
finding-faulty Faulty (valid x p) s h = absurd h
finding-faulty (Valid a) silent s h = absurd h
finding-faulty (Valid a) faulty s h = absurd h
finding-faulty (Valid a) (valid x p) s h = refl

faulty-but_own : (own : Bool) (c : Class) → is_faulty (cond own silent c) ≡ not own && is_faulty c
faulty-but_own true c = refl
faulty-but_own false c = refl

-- a search for the first valid share goes by what was found
first-step : (own : Bool) (f : Finding) (c : Class) (o : Option Share) (t : Taken) (s : List ℕ) → FindingIs f (cond own silent c) s → TakenIs o t s
    → TakenIs (first_or f o) (cond own t (or_later c t)) s
first-step true Silent c o t s h g = g
first-step true Faulty c o t s h g = absurd h
first-step true (Valid a) c o t s h g = absurd h
first-step false Silent silent o t s h g = g
first-step false Silent faulty o t s h g = absurd h
first-step false Silent (valid x p) o t s h g = absurd h
first-step false Faulty silent o t s h g = absurd h
first-step false Faulty faulty o t s h g = g
first-step false Faulty (valid x p) o t s h g = absurd h
first-step false (Valid a) silent o t s h g = absurd h
first-step false (Valid a) faulty o t s h g = absurd h
first-step false (Valid a) (valid x p) o t s h g = h

module _ (H : List ℕ → List ℕ) (session n own : ℕ) (z s : List ℕ) where
  first-from : (j : ℕ) (ps : List (List ℕ)) (fs : List Finding) → length ps ≡ length fs
      → ((i : ℕ) → i < length ps → FindingIs (get_or fs i Silent) (cond (eqb (i + j) own) silent (class_of H session n own z (get_or ps i []))) s)
      → TakenIs (first_place fs) (first_valid H session n own z j ps) s
  unfolding first_valid
  first-from j [] [] e h = tt
  first-from j [] (f ∷ fs) e h = absurd (omega arith)
  first-from j (p ∷ ps) [] e h = absurd (omega arith)
  first-from j (p ∷ ps) (f ∷ fs) e h =
      first-step (eqb j own) f (class_of H session n own z p) (first_place fs) (first_valid H session n own z (j + 1) ps) s
      (subst (λ (k : ℕ). FindingIs f (cond (eqb k own) silent (class_of H session n own z p)) s) (zero-add j) (h 0 (omega arith)))
      (first-from (j + 1) ps fs (omega arith) (λ i l.
      subst (λ (k : ℕ). FindingIs (get_or fs i Silent) (cond (eqb k own) silent (class_of H session n own z (get_or ps i []))) s)
      (let e : suc i + j ≡ i + (j + 1) = omega arith in e) (h (suc i) (omega arith))))

-- what was found in an inbox
module _ (H : List ℕ → List ℕ) (x : Seat) (z s : List ℕ) (demanded : Option ℕ) (fs : List Finding) (g : Found H x z s demanded fs)
    (high : x.n ≤ max_parties) where
  count : length (take x.n fs) ≡ x.n
  count = length-take-le x.n fs (omega (arith, g.count))

  found-at : (i : ℕ) → i < x.n → FindingIs (get_or (take x.n fs) i Silent) (class_at H x z s demanded i) s
  found-at i l = rw (get_or-take x.n fs i Silent l) (g.each i l)

  -- the map of the senders whose packets are faulty, beside those that a map names already
  sent-faulty : (p : ℕ) → 1 ≤ p → p ≤ x.n
      → found_faulty (get_or (take x.n fs) (p - 1) Silent) ≡ sent_faulty H x.session x.n x.own z s (unwrap_or demanded p) p
  unfolding sent_faulty entry
  sent-faulty p a b =
      let e : p - 1 + 1 ≡ p = omega arith in
      let sent = get_or (bodies x.n s) (p - 1) [] in
      finding-faulty _ _ s (found-at (p - 1) (omega arith))
      ∙ faulty-but_own (eqb (p - 1 + 1) x.own) (class_of H x.session x.n (unwrap_or demanded (p - 1 + 1)) z sent)
      ∙ ap (λ (k : ℕ). not (eqb k x.own) && is_faulty (class_of H x.session x.n (unwrap_or demanded k) z sent)) e

  pub faulty-found : (before : ℕ) → map_of (marks before (take x.n fs)) (length (take x.n fs))
      ≡ map_of (λ p. names before p || sent_faulty H x.session x.n x.own z s (unwrap_or demanded p) p) x.n
  faulty-found before =
      ap (map_of (marks before (take x.n fs))) count
      ∙ map_same _ _ x.n (λ p a b. ap (λ (t : Bool). names before p || t) (sent-faulty p a b))

-- the share that is taken where the own number is demanded
pub first-found : (H : List ℕ → List ℕ) (x : Seat) (z s : List ℕ) (fs : List Finding) → Found H x z s (Some x.own) fs → x.n ≤ max_parties
    → TakenIs (first_place (take x.n fs)) (first_valid H x.session x.n x.own z 1 (bodies x.n s)) s
first-found H x z s fs g high =
    let l = length-bodies x.n s in
    first-from H x.session x.n x.own z s 1 (bodies x.n s) (take x.n fs) (l ∙ sym (count H x z s (Some x.own) fs g high))
    (λ i k. found-at H x z s (Some x.own) fs g high i (omega arith))
