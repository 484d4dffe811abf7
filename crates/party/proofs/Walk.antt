-- A walk over an inbox that is laid out well, for any hash: where it stands before each entry, what stands there, and what it has found so far. By the laws
-- of one entry. Assumes nothing.
use Rattle.std.proofs.Common.{◌≡◌, true, cond, eqb, Option, unwrap_or, List, [], ◌∷◌, ℕ, suc, ◌+◌, ◌-◌, ◌≤◌, ◌<◌, length, get_or, drop, set, sym, ap, subst, ◌∙◌, add-zero, arith, below_more}
use native.Mathlib.Nat.{sub-zero}
use Rattle.std.proofs.lemmas.List.{get_or-set_same, get_or-set_other, length-set}
use lib.Seq.{get_or-drop, drop-drop}
use Rattle.limits.specs.Limits.{max_parties}
use Rattle.buffer.specs.Entries.{size, fills, bodies}
use Rattle.buffer.proofs.Entries.{bodies-more}
use Rattle.commitment.specs.declared.Seat.{Seat}
use Rattle.packet.specs.Class.{silent, class_of}
use Rattle.packet.specs.Answer.{judge_of, next_at, told_entry, entry_read}
use Rattle.packet.specs.Private.{body_at}
use Rattle.packet.specs.Packet.{Entry}
use Rattle.packet.proofs.Entries.{Stands, entry-stands, entry-reads}
use Rattle.party.specs.Private.{Judges, class_at, finding_of, FindingIs, Found}
use Rattle.party.specs.declared.Finding.{Finding}
use Rattle.party.specs.declared.Finding.TheVariants.{Silent}
use Rattle.party.proofs.Found.{finding-is, passed-over}

-- entry i begins at a place, and n entries fill the inbox
pub record Reached (n : ℕ) (s : List ℕ) (i at : ℕ) : Type 0 where
  pub inside : at ≤ length s
  pub filled : fills (n - i) (drop at s) ≡ true
  pub rest : drop i (bodies n s) ≡ bodies (n - i) (drop at s)

pub reached-start : (n : ℕ) (s : List ℕ) → fills n s ≡ true → Reached n s 0 0
reached-start n s h = record { inside = omega arith; filled = rw sub-zero h; rest = rw sub-zero }

module _ (n : ℕ) (s : List ℕ) (i at : ℕ) (r : Reached n s i at) (low : 1 ≤ n) (high : n ≤ max_parties) (more : i < n) where
  left : n - i ≡ suc (n - (i + 1))
  left = omega arith

  pub stands : Stands n (n - (i + 1)) at s
  stands = entry-stands n (n - (i + 1)) (n - i) at s low high left r.filled

  here : drop i (bodies n s) ≡ body_at at s ∷ bodies (n - (i + 1)) (drop (next_at s at) s)
  here = r.rest ∙ bodies-more (n - (i + 1)) (n - i) at s left

  -- what the sender sent
  pub sent : get_or (bodies n s) i [] ≡ body_at at s
  sent =
      ap (λ (k : ℕ). get_or (bodies n s) k []) (sym (add-zero i)) ∙ sym (get_or-drop i (bodies n s) 0 [])
      ∙ ap (λ (l : List (List ℕ)). get_or l 0 []) here

  pub reached-more : Reached n s (i + 1) (next_at s at)
  reached-more = record {
    inside = stands.inside;
    filled = stands.tail;
    rest = sym (drop-drop 1 i (bodies n s)) ∙ ap (drop 1) here;
  }

module _ (H : List ℕ → List ℕ) (x : Seat) (z s : List ℕ) (demanded : Option ℕ) where
  -- what the first i senders sent was judged
  pub record Walked (i at : ℕ) (fs : List Finding) : Type 0 where
    pub reached : Reached x.n s i at
    pub count : length fs ≡ max_parties
    pub each : (k : ℕ) → k < i → FindingIs (get_or fs k Silent) (class_at H x z s demanded k) s

  module _ (j : Judges x z s demanded) where
    pub walked-more : (i at : ℕ) (fs : List Finding) → Walked i at fs → i < x.n → (e : Entry) → told_entry e ≡ told_entry (entry_read x.n s at)
        → (f : Finding) → f ≡ cond (eqb (i + 1) x.own) Silent (finding_of (judge_of H x.session x.n (unwrap_or demanded (i + 1)) z s e.packet) e.packet)
        → Walked (i + 1) e.next (set fs i f)
    walked-more i at fs w more e q f p =
        let st = stands x.n s i at w.reached j.low j.high more in
        let r = entry-reads x.n (x.n - (i + 1)) at s st e q in
        let number = unwrap_or demanded (i + 1) in
        let a = j.asked (i + 1) (omega arith) (omega arith) in
        let long : i < length fs = omega (arith, w.count, j.high) in
        let is : FindingIs f (class_at H x z s demanded i) s =
        subst (λ (b : List ℕ). FindingIs f (cond (eqb (i + 1) x.own) silent (class_of H x.session x.n number z b)) s)
        (sym (sent x.n s i at w.reached j.low j.high more))
        (subst (λ (g : Finding). FindingIs g (cond (eqb (i + 1) x.own) silent (class_of H x.session x.n number z (body_at at s))) s) (sym p)
        (passed-over (eqb (i + 1) x.own) (finding_of (judge_of H x.session x.n number z s e.packet) e.packet)
        (class_of H x.session x.n number z (body_at at s)) s
        (finding-is H x.session x.n number z s (at + 2) (size (drop at s)) st.inside e.packet r.packet-is j.low j.high a.0 a.1 j.wide))) in
        record {
          reached = subst (λ (k : ℕ). Reached x.n s (i + 1) k) (sym r.next-is) (reached-more x.n s i at w.reached j.low j.high more);
          count = length-set fs i f ∙ w.count;
          each = below_more (λ k. FindingIs (get_or (set fs i f) k Silent) (class_at H x z s demanded k) s) i
              (λ k h. rw (get_or-set_other fs i k f Silent (λ d. omega arith)) (w.each k h))
              (rw (get_or-set_same fs i f Silent long) is);
        }

    pub walked-end : (i at : ℕ) (fs : List Finding) → i ≡ x.n → Walked i at fs → Found H x z s demanded fs
    walked-end i at fs e w = record { count = w.count; each = λ k l. w.each k (omega arith) }
