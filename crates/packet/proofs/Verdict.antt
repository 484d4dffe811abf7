-- A packet judged: one law for each outcome, from plain facts about numbers; and what the judgement of a packet that was read at a place
-- says of its class, for any hash. By the tests of the definitions; of a path only the hashes that are counted matter. Assumes nothing.
use mathlib.Core.Path.{◌≡◌, refl, sym, ap, ap₂, subst, ◌∙◌}
use mathlib.Core.Bool.{Bool, true, false, cond, ◌&&◌}
use mathlib.Core.List.{List, ◌++◌}
use Prim.Native.Nat.{ℕ, ◌+◌, ◌-◌, ◌*◌, ◌≤◌, ◌<◌}
use native.Mathlib.Omega.{arith}
use borrow.Author.Tests.{eq-eqb, le-leb, lt-leb}
use lib.Dec.{leb, eqb}
use lib.ListN.{length, take, drop, length-drop, replicate}
use lib.Seq.{take_at, take_all, length-take-le}
use Rattle.std.specs.Prelude.{Result, Ok, Err, IsOk, is_ok}
use Rattle.cause.specs.Cause.{number}
use Rattle.cause.specs.declared.Cause.{Cause}
use Rattle.sha256.specs.Sha256.{sha256}
use Rattle.limits.specs.Limits.{max_parties, max_share, max_path}
use Rattle.limits.proofs.Ranges.{parties-some, numbered_within}
use Rattle.buffer.proofs.Parts.{length_part}
use Rattle.merkle.specs.Shares.{blank, passes, check_of}
use Rattle.merkle.specs.Answer.{Check, checked, answer_of}
use Rattle.merkle.proofs.Descend.{sides-fit}
use Rattle.merkle.proofs.Judged.{passes-miscount, check-judged}
use Rattle.merkle.proofs.Written.{front-short}
use Rattle.merkle.specs.Answer.{Checked, Unchecked, No, Yes, check_said}
use Rattle.packet.specs.Format.{Reading, silence, unreadable, shared, hashes, read_of}
use Rattle.packet.specs.Class.{Class, faulty, valid, judged, class_of}
use Rattle.packet.specs.Answer.{placed, path_at, Verdict, verdict, verdict_on, judge_of}
use Rattle.packet.specs.Private.{verdict_for, NoShare, PassedOver, TakenAt}
use Rattle.packet.specs.Packet.{Packet}
use Rattle.packet.specs.Packet as packet
use Rattle.packet.specs.Judged.{Judged}
use Rattle.packet.specs.Judged.{Faulty, Valid}
use Rattle.packet.proofs.Path.{padded, length-hashes}
use Rattle.packet.proofs.Path as path
use Rattle.packet.proofs.Reading.{Fields, fields-of}
use Rattle.packet.proofs.Slices.{part-part, hashes-part}

-- what is told of an answer has the answer itself
pub verdict-one : {a b : Judged} → verdict a ≡ verdict b → a ≡ b
verdict-one e = ap (λ (v : Verdict). v.answer) e

-- what stands behind the hashes that are counted does not matter
pub passes-take : (session n j : ℕ) (x : List ℕ) (p r : List (List ℕ)) (c : ℕ) (z : List ℕ) → length p ≡ c
    → passes sha256 session n j x (p ++ r) c z ≡ passes sha256 session n j x p c z
unfolding passes
passes-take session n j x p r c z e =
    let h : length p ≤ c = omega (arith, e) in
    rw (take_at p r c e, take_all c p h)

-- a check of whether t holds is not refused, and says t
pub check-told : (r : Result Bool Cause) (t : Bool) → checked (check_said r) ≡ answer_of t → r ≡ Ok t
check-told (Ok true) true e = refl
check-told (Ok false) false e = refl
check-told (Ok true) false e = let y : Yes ≡ No = ap (λ (c : Check). c.answer) e in absurd cc
check-told (Ok false) true e = let y : No ≡ Yes = ap (λ (c : Check). c.answer) e in absurd cc
check-told (Err k) true e = let y : Unchecked (number k) ≡ Yes = ap (λ (c : Check). c.answer) e in absurd cc
check-told (Err k) false e = let y : Unchecked (number k) ≡ No = ap (λ (c : Check). c.answer) e in absurd cc

pub check-says : (r : Result Bool Cause) (t x : Bool) → checked (check_said r) ≡ answer_of t → r ≡ Ok x → t ≡ x
check-says r t x e q = let y : Ok t ≡ Ok x = sym (check-told r t e) ∙ q in cc

-- the check of a share that is no longer than any is not refused
pub check-ok : (session n j : ℕ) (x : List ℕ) (hs : List (List ℕ)) (count : ℕ) (root : List ℕ) (r : Result Bool Cause)
    → (1 ≤ n) × (n ≤ max_parties) × (1 ≤ j) × (j ≤ n) × (length root ≡ 32) → length x ≤ max_share
    → checked (check_said r) ≡ check_of sha256 session n j x hs count root → IsOk r
check-ok session n j x hs count root r h short e =
    ap is_ok (check-told r (passes sha256 session n j x hs count root)
    (e ∙ check-judged sha256 session n j x hs count root h.0 h.1 h.2 h.3 (omega (arith, short, front-short session)) h.4))

-- a check of the share and the path that lie in s tells whether they lead to the root
pub checked_leads : (session n j : ℕ) (root s : List ℕ) (from len count : ℕ) (hs : List (List ℕ)) (r : Checked)
    → (1 ≤ n) × (n ≤ max_parties) × (1 ≤ j) × (j ≤ n) × (length root ≡ 32) → len ≤ max_share → count ≤ max_path → from + len + 32 * count ≤ length s
    → hs ≡ path_at s (from + len) count
    → checked r ≡ check_of sha256 session n j (take (from + len - from) (drop from s)) hs count root
    → checked r ≡ answer_of (passes sha256 session n j (take len (drop from s)) (hashes count (drop (from + len) s)) count root)
checked_leads session n j root s from len count hs r h short few inside p e =
    let rest : List ℕ = drop (from + len) s in
    let share : List ℕ = take len (drop from s) in
    let k : from + len - from ≡ len = omega arith in
    let long : length share ≡ len = length-take-le len (drop from s) (omega (arith, length-drop from s)) in
    e ∙ ap₂ (λ (i : ℕ) (q : List (List ℕ)). check_of sha256 session n j (take i (drop from s)) q count root) k
    (p ∙ path.path-there s (from + len) count few (omega arith))
    ∙ check-judged sha256 session n j share (padded count rest) count root h.0 h.1 h.2 h.3 (omega (arith, long, front-short session)) h.4
    ∙ ap answer_of (passes-take session n j share (hashes count rest) (replicate (max_path - count) blank) count root (length-hashes count rest))

-- the last of four tests fails
last-fails : (a b c d : Bool) → d ≡ false → cond (a && b && c && d) Valid Faulty ≡ Faulty
last-fails false b c d h = refl
last-fails true false c d h = refl
last-fails true true false d h = refl
last-fails true true true d h = rw h

-- the tests of a share that lies within s
two-left : (a b c p : Bool) (x : List ℕ) (q : List (List ℕ)) → b ≡ true → c ≡ true
    → cond (a && b && c && p) Valid Faulty ≡ verdict_for (cond (a && p) (valid x q) faulty)
two-left false b c p x q f g = refl
two-left true b c true x q f g = rw (f, g)
two-left true b c false x q f g = rw (f, g)

module _ (H : List ℕ → List ℕ) (session n j : ℕ) (root s : List ℕ) where
  module _ (x : Packet) where
    module _ (low : 1 ≤ n) (high : n ≤ max_parties) where
      module _ (first : 1 ≤ j) (last : j ≤ n) where
        pub judge-on : length root ≡ 32 → judge_of H session n j root s x ≡ verdict_on H session n j root s x
        unfolding judge_of
        judge-on h = rw (parties-some n low high, numbered_within n j first last, eq-eqb (length root) 32 h)

  module _ (from len count : ℕ) where
    -- a share of the number demanded, and whether its path leads to the root
    abbrev Ours : Judged
    Ours = verdict_on H session n j root s (packet.Share j from len count)

    abbrev pub leads : Bool
    leads = passes H session n j (take len (drop from s)) (hashes count (drop (from + len) s)) count root

    pub on-long : max_share < len → Ours ≡ Faulty
    on-long h = rw (eq-eqb j j refl, lt-leb len max_share h)

    pub on-failed : leads ≡ false → Ours ≡ Faulty
    on-failed = last-fails (eqb j j) (leb len max_share) (leb (from + len + 32 * count) (length s)) leads

    pub on-many : n ≤ max_parties → 1 ≤ j → j ≤ n → max_path < count → Ours ≡ Faulty
    on-many high first last h =
        on-failed (passes-miscount H session n j (take len (drop from s)) (hashes count (drop (from + len) s)) count root
        (λ e. absurd (omega (arith, e, sides-fit n (j - 1) high (omega arith)))))

    module _ (short : len ≤ max_share) where
      pub on-outside : length s < from + len + 32 * count → Ours ≡ Faulty
      on-outside h = rw (eq-eqb j j refl, le-leb len max_share short, lt-leb (from + len + 32 * count) (length s) h)

      pub on-valid : from + len + 32 * count ≤ length s → leads ≡ true → Ours ≡ Valid
      on-valid inside h =
          rw (eq-eqb j j refl, le-leb len max_share short, le-leb (from + len + 32 * count) (length s) inside, h)

-- a packet of k bytes that was read at a place of s
module _ (H : List ℕ → List ℕ) (session n j : ℕ) (root s : List ℕ) (at k : ℕ) (room : at + k ≤ length s) where
  abbrev P : List ℕ
  P = take k (drop at s)

  module _ (number : ℕ) (share : List ℕ) (path : List (List ℕ)) (e : read_of n P ≡ shared number share path) where
    fields : Fields n P number share path
    fields = fields-of n P number share path e

    -- where the share and its path lie in s
    inside : at + 4 + length share + 32 * length path ≤ length s
    inside = omega (arith, fields.whole, length_part s at k room)

    share-there : share ≡ take (length share) (drop (at + 4) s)
    share-there = fields.share_lies ∙ part-part 4 (length share) k at s (omega (arith, fields.whole, length_part s at k room))

    path-there : path ≡ hashes (length path) (drop (at + 4 + length share) s)
    path-there =
        let e : at + (4 + length share) ≡ at + 4 + length share = omega arith in
        fields.path-lies
        ∙ hashes-part (4 + length share) (length path) k at s (omega (arith, fields.whole, length_part s at k room))
        ∙ ap (λ (i : ℕ). hashes (length path) (drop i s)) e

  on-reading : (r : Reading) → read_of n P ≡ r → verdict_on H session n j root s (placed at r) ≡ verdict_for (judged H session n j root r)
  on-reading silence e = refl
  on-reading unreadable e = refl
  on-reading (shared number share path) e =
      let c : ℕ = length path in
      ap₂ (λ (x : List ℕ) (q : List (List ℕ)). cond (eqb number j && leb (length share) max_share
      && leb (at + 4 + length share + 32 * c) (length s) && passes H session n j x q c root) Valid Faulty)
      (sym (share-there number share path e)) (sym (path-there number share path e))
      ∙ two-left (eqb number j) (leb (length share) max_share) (leb (at + 4 + length share + 32 * c) (length s))
      (passes H session n j share path c root) share path (le-leb (length share) max_share (fields number share path e).most)
      (le-leb (at + 4 + length share + 32 * c) (length s) (inside number share path e))

  -- no share was read
  unread : (r : Reading) → NoShare (placed at r) → PassedOver (judged H session n j root r)
  unread silence h = tt
  unread unreadable h = tt
  unread (shared number share path) h = absurd h

  abbrev TakenIn : Class → Packet → Type 0
  TakenIn c (packet.Refused cause) = Unit {0}
  TakenIn c packet.Silence = Unit {0}
  TakenIn c (packet.Share number from len count) = TakenAt s from len count c

  taken : n ≤ max_parties → (r : Reading) → read_of n P ≡ r → verdict_for (judged H session n j root r) ≡ Valid
      → TakenIn (judged H session n j root r) (placed at r)
  taken high silence e h = tt
  taken high unreadable e h = tt
  taken high (shared number share path) e h = go (eqb number j && passes H session n j share path (length path) root) h
    where
      go : (t : Bool) → verdict_for (cond t (valid share path) faulty) ≡ Valid
          → TakenAt s (at + 4) (length share) (length path) (cond t (valid share path) faulty)
      go false q = absurd cc
      go true q =
          let f = fields number share path e in record {
            some = f.some;
            most = f.most;
            few = omega (arith, f.counted, sides-fit n (number - 1) high (omega (arith, f.low, f.high)));
            inside = inside number share path e;
            share_lies = share-there number share path e;
            path-lies = path-there number share path e;
          }

  module _ (x : Packet) (read : x ≡ placed at (read_of n P)) where
    pub class-unread : NoShare x → PassedOver (class_of H session n j root P)
    unfolding class_of
    class-unread h = unread (read_of n P) (subst NoShare read h)

    module _ (low : 1 ≤ n) (high : n ≤ max_parties) (first : 1 ≤ j) (last : j ≤ n) (wide : length root ≡ 32) where
      -- it is judged by its class
      pub judge-class : judge_of H session n j root s x ≡ verdict_for (class_of H session n j root P)
      unfolding class_of
      judge-class =
          judge-on H session n j root s x low high first last wide ∙ ap (verdict_on H session n j root s) read ∙ on-reading (read_of n P) refl

      module _ (r : Judged) (answer : r ≡ judge_of H session n j root s x) where
        pub class-taken : (number from len count : ℕ) → x ≡ packet.Share number from len count → r ≡ Valid
            → TakenAt s from len count (class_of H session n j root P)
        unfolding class_of
        class-taken number from len count q v =
            subst (TakenIn (class_of H session n j root P)) (sym read ∙ q)
            (taken high (read_of n P) refl (sym judge-class ∙ sym answer ∙ v))
