-- The shares gathered from an inbox, by the places of those that were found, and the relayed share behind the inbox. For any hash. Assumes nothing.
use Rattle.std.proofs.Common.{◌≡◌, true, cond, eqb, List, [], ◌++◌, ℕ, ◌+◌, ◌-◌, ◌≤◌, ◌<◌, None, length, get_or, take, drop, set, sym, ap, ◌∙◌, arith}
use Rattle.std.proofs.lemmas.List.{get_or-set_same, get_or-set_other, length-take-le, take_all}
use native.Mathlib.Decide.{ℕ_discrete}
use borrow.Author.Tests.{eq-eqb, ne_eqb}
use Rattle.limits.specs.Limits.{max_parties, max_share}
use Rattle.buffer.specs.Splice.{tabulate}
use Rattle.buffer.specs.Entries.{bodies}
use Rattle.buffer.proofs.Entries.{length-bodies}
use Rattle.buffer.proofs.Tabulate.{tabulate-cong, tabulate-get_or}
use Rattle.erasure.specs.Rebuild.{place_at, parts_at, lies}
use Rattle.erasure.specs.declared.Place.{Place}
use Rattle.erasure.proofs.Placed.{lies-missing, in-one-lies, part-first, part-second}
use Rattle.packet.specs.Class.{Class, silent, faulty, valid, class_of}
use Rattle.party.specs.State.{share_held}
use Rattle.party.specs.Steps.{share_from, gathered}
use Rattle.party.specs.Private.{Fit, FindingIs, Found, Lies_as, Gathered}
use Rattle.party.specs.declared.Party.{Party}
use Rattle.party.specs.declared.Finding.{Finding}
use Rattle.party.specs.declared.Finding.TheVariants.{Silent, Faulty, Valid}
use Rattle.party.proofs.Checks.{gathered-at, gathered-length}

-- a part of s, or of y behind it, or none
pub record Part (s y : List ℕ) (from len : ℕ) (share : List ℕ) : Type 0 where
  pub lie : lies (length s) (length y) from len ≡ true
  pub is : take len (drop from (s ++ y)) ≡ share

none-part : (s y : List ℕ) (from len : ℕ) → len ≡ 0 → Part s y from len []
none-part s y from len e = record {
  lie = lies-missing (length s) (length y) from len e;
  is = ap (λ (k : ℕ). take k (drop from (s ++ y))) e;
}

-- the share that was found
found-part : (f : Finding) (c : Class) (s y : List ℕ) (p : Place) → FindingIs f c s → Lies_as f p → Part s y p.from p.len (share_from c)
found-part Silent silent s y p h e = none-part s y p.from p.len e
found-part Silent faulty s y p h e = absurd h
found-part Silent (valid x q) s y p h e = absurd h
found-part Faulty silent s y p h e = absurd h
found-part Faulty faulty s y p h e = none-part s y p.from p.len e
found-part Faulty (valid x q) s y p h e = absurd h
found-part (Valid a) silent s y p h e = absurd h
found-part (Valid a) faulty s y p h e = absurd h
found-part (Valid a) (valid x q) s y p h e =
    let from : p.from ≡ a.from = ap (λ (l : Place). l.from) e in
    let len : p.len ≡ a.len = ap (λ (l : Place). l.len) e in
    let inside : p.from + p.len ≤ length s = omega (arith, h.inside, from, len) in
    record {
      lie = in-one-lies (length s) (length y) p.from p.len (omega (arith, h.most, len)) (λ l. inside, omega arith);
      is = part-first s y p.from p.len inside ∙ rw (from, len) (sym h.share_lies);
    }

-- the one that lies behind
behind-part : (s y : List ℕ) (len : ℕ) → length y ≡ len → len ≤ max_share → Part s y (length s) len y
behind-part s y len e short = record {
  lie = in-one-lies (length s) (length y) (length s) len (omega arith) (λ l. absurd (omega arith), omega arith);
  is = part-second s y (length s) len (omega arith)
      ∙ ap (λ (k : ℕ). take len (drop k y)) (let z : length s - length s ≡ 0 = omega arith in z)
      ∙ take_all len y (omega arith);
}

module _ (H : List ℕ → List ℕ) (x : Party) (f : Fit x) (s : List ℕ) (fs : List Finding) (g : Found H x.seat x.root s None fs) (ps : List Place)
    (places : length ps ≡ max_parties) (long : length x.share ≡ max_share)
    (well : (i : ℕ) → i < x.seat.n → Lies_as (get_or fs i Silent) (place_at ps i)) where
  abbrev Own : ℕ
  Own = x.seat.own - 1

  abbrev All : List (List ℕ)
  All = gathered H x 1 (bodies x.seat.n s)

  count : length All ≡ x.seat.n
  count = gathered-length H x 1 (bodies x.seat.n s) ∙ length-bodies x.seat.n s

  share-at : (i : ℕ) → i < x.seat.n → get_or All i []
      ≡ cond (eqb (i + 1) x.seat.own) (share_held x) (share_from (class_of H x.seat.session x.seat.n (i + 1) x.root (get_or (bodies x.seat.n s) i [])))
  share-at i l =
      gathered-at H x 1 (bodies x.seat.n s) i (omega (arith, length-bodies x.seat.n s))
      ∙ ap (λ (k : ℕ). cond (eqb k x.seat.own) (share_held x) (share_from (class_of H x.seat.session x.seat.n k x.root (get_or (bodies x.seat.n s) i []))))
      (let e : 1 + i ≡ i + 1 = omega arith in e)

  -- where the relayed share lies, and where all lie with it
  abbrev Behind : Place
  Behind = record { from = length s; len = x.held }

  abbrev All-places : List Place
  All-places = set ps Own Behind

  each : (i : ℕ) → i < x.seat.n → Part s (share_held x) (place_at All-places i).from (place_at All-places i).len (get_or All i [])
  each i l = elim (ℕ_discrete (i + 1) x.seat.own) [
    | yes e ↦ let q : i ≡ Own = omega arith in
        rw (share-at i l, eq-eqb (i + 1) x.seat.own e, q, get_or-set_same ps Own Behind (record { from = 0; len = 0 }) (omega (arith, places, f.high, f.first, f.last)))
        (behind-part s (share_held x) x.held (length-take-le x.held x.share (omega (arith, f.few, long))) f.few)
    | no d ↦ rw (share-at i l, ne_eqb (i + 1) x.seat.own d, get_or-set_other ps Own i Behind (record { from = 0; len = 0 }) (λ q. d (omega (arith, f.first))))
        (found-part (get_or fs i Silent) (class_of H x.seat.session x.seat.n (i + 1) x.root (get_or (bodies x.seat.n s) i [])) s (share_held x)
        (place_at ps i) (rw (ne_eqb (i + 1) x.seat.own d) at (g.each i l)) (well i l))
  ]

  pub gathered-found : Gathered x.seat.n All s (share_held x) All-places
  unfolding parts_at
  gathered-found = record {
    lie = λ i l. (each i l).lie;
    parts = tabulate-cong x.seat.n _ (λ i. get_or All i []) (λ i l. (each i l).is)
        ∙ ap (λ (k : ℕ). tabulate k (λ i. get_or All i [])) (sym count) ∙ tabulate-get_or All [];
  }
