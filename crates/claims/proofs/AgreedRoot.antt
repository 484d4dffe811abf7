-- A rebuilt book has the agreed root: from the theorems of `agreement` at SHA-256, told there by events of parties. What is seen of a party is what the
-- claim says of it, and every good box is a party, seen as one. Assumes nothing.
use mathlib.Core.Path.{◌≡◌, refl, sym, ap, ◌∙◌, subst}
use mathlib.Core.Logic.{◌⊎◌, inl, inr}
use mathlib.Core.Bool.{Bool, true, false, cond, not, ◌||◌}
use mathlib.Core.List.Memᴰ
use mathlib.Core.List.{List, [], ◌∷◌, ◌++◌, map, Memᴰ}
use mathlib.Core.Option.{Option, some}
use Prim.Native.Nat.{ℕ, ◌-◌, ◌*◌}
use lib.Dec.{leb, ltb, eqb}
use lib.ListN.{length, take}
use Rattle.limits.specs.Limits.{max_message, parties, group_cause}
use Rattle.buffer.specs.Entries.{size, body, rest, fills, bodies}
use Rattle.buffer.specs.Given.{gave}
use Rattle.buffer.specs.Given.{Refused}
use Rattle.erasure.specs.Coding.{share_length}
use Rattle.erasure.specs.Rebuild.{Point, Recovered, cause, message, present, point, framed, other, unframed, joined, recovered, answered}
use Rattle.sha256.specs.Sha256.{sha256}
use Rattle.sha256.proofs.Laws.{sha256-length}
use Rattle.merkle.specs.Shares.{same}
use Rattle.commitment.specs.Commitment.{message_root}
use Rattle.commitment.specs.Rebuild.{under_root, rebuild_with_root_of}
use Rattle.party.specs.State.{Result, nothing, settled, has_ended, happy}
use Rattle.party.specs.Steps.{open_of, recovered_by, rebuilt, result_found, held_or, result_of}
use Rattle.party.specs.declared.Party.{Party}
use Rattle.party.proofs.Outcomes.{found-rebuilt}
use Rattle.agreement.specs.Calls.{Call, events, did}
use Rattle.agreement.specs.Agreement.{Good, join_over}
use Rattle.agreement.specs.AgreedRoot as theirs
use Rattle.agreement.proofs.Ended.{waits-none}
use Rattle.agreement.proofs.AgreedRoot.{ends-under-its-root, no-invented-message, no-string-more, no-other-ending}
use Rattle.claims.specs.Terms.{FourBytes, when, foremost, group_then, unless, cause_joined, book_joined, rooted, step_in, first, Box, EndsWith, Clean, act_of, party_box, Host, box_of, party}
use Rattle.claims.specs.AgreedRoot.{Told, Somebodys, RebuiltBooksHaveTheAgreedRoot}
use Rattle.agreement.proofs.Mapped.{in_map, all_map, join-map}
use Rattle.claims.proofs.Parties.{view, seen, view-step, view_first, was-ended, told, cleaned, sitting-tells}
use Rattle.claims.proofs.Hosts.{either_same, boxes-same}

-- the tool
module _ (session n t : ℕ) (z es out : List ℕ) where
  abbrev ps : List Point
  ps = present 1 (bodies n es)

  abbrev s : ℕ
  s = length (point ps 0).share

  abbrev f : List ℕ
  f = framed (n - t) s (take (n - t) ps)

  tool-told : let r = joined (n - t) s (take (n - t) ps) in
      rebuild_with_root_of sha256 session n t z es out ≡ unless (group_then n t (when 7 (not (eqb (length z) 32)) ∷ when 8 (not (fills n es)) ∷ when 11 (ltb (length ps) (n - t))
      ∷ cause_joined r ∷ when 15 (not (same (message_root sha256 session n t (book_joined r)) z)) ∷ [])) (book_joined r) out
  unfolding rebuild_with_root_of recovered joined unframed group_cause foremost
  tool-told =
      go (not (parties n)) (leb n (2 * t)) (not (eqb (length z) 32)) (not (fills n es)) (ltb (length ps) (n - t))
      (other s (map (λ (p : Point). length p.share) (take (n - t) ps)))
      (ltb (length f) 2 || ltb max_message (size f) || not (eqb s (share_length (n - t) (size f))) || other 0 (rest f)) (body f)
    where
      go : (a b w d e o u : Bool) (m : List ℕ) → let r = cond o (cause 12) (cond u (cause 12) (message m)) in
          cond (not (eqb (cond a 1 (cond b 2 0)) 0)) (gave (Refused (cond a 1 (cond b 2 0))) out)
          (cond w (gave (Refused 7) out) (cond d (gave (Refused 8) out) (answered (under_root sha256 session n t z (cond e (cause 11) r)) out)))
          ≡ unless (foremost (when 1 a ∷ when 2 b ∷ when 7 w ∷ when 8 d ∷ when 11 e ∷ cause_joined r
          ∷ when 15 (not (same (message_root sha256 session n t (book_joined r)) z)) ∷ [])) (book_joined r) out
      go true b w d e o u m = refl
      go false true w d e o u m = refl
      go false false true d e o u m = refl
      go false false false true e o u m = refl
      go false false false false true o u m = refl
      go false false false false false true u m = refl
      go false false false false false false true m = refl
      go false false false false false false false m = pick (same (message_root sha256 session n t m) z)
        where
          pick : (v : Bool) → answered (cond v (message m) (cause 15)) out ≡ unless (foremost (when 15 (not v) ∷ [])) m out
          pick true = refl
          pick false = refl

-- step 5
step5-told : (x : Party) (inbox m : List ℕ) → has_ended x.stage ≡ false → happy sha256 x ≡ false → recovered_by sha256 x inbox ≡ message m
    → result_of sha256 x inbox ≡ cond (same (message_root sha256 x.seat.session x.seat.n x.seat.t m) x.root) (settled m) nothing
unfolding result_of
step5-told x inbox m w u e =
    ap (λ (o : Option Result). held_or o (result_found sha256 x inbox)) (waits-none x w) ∙ found-rebuilt sha256 x inbox u
    ∙ ap (λ (a : Recovered). rebuilt (under_root sha256 x.seat.session x.seat.n x.seat.t x.root a)) e
    ∙ go (same (message_root sha256 x.seat.session x.seat.n x.seat.t m) x.root)
  where
    go : (b : Bool) → rebuilt (cond b (message m) (cause 15)) ≡ cond b (settled m) nothing
    go true = refl
    go false = refl

-- a party ends as it is seen to end
unended : (session n t : ℕ) (A : Good) (R : Result) → EndsWith (party_box session n t A) R → theirs.EndsWith sha256 session n t A R
unended session n t A R (inl f) = inl f
unended session n t A R (inr k) =
    let e = Memᴰ.of_map view (did sha256 session n t A.own A.message A.calls) k.1 in
    let w = was-ended e.0.call e.0.reply k.0 (some R) e.2 in
    inr (e.0, e.1, sym (view-step e.0.call e.0.reply) ∙ ap step_in e.2, w.1)

party-agreed : (session n t : ℕ) (A : Good) (m : List ℕ) → EndsWith (party_box session n t A) (settled m)
    → (z : List ℕ) × (b : ℕ) × (first 2 (party_box session n t A).acts ≡ some (rooted z b)) × (message_root sha256 session n t m ≡ z)
party-agreed session n t A m k =
    let r = (ends-under-its-root sha256).any-list session n t A m (unended session n t A (settled m) k) in
    let es = did sha256 session n t A.own A.message A.calls in (
      r.1,
      r.0.reply.value,
      view_first 2 es ∙ ap seen r.2 ∙ ap (λ (c : Call). some (act_of c r.0.reply)) r.3,
      r.4,
    )

-- all good boxes
module _ (session n t : ℕ) (good : List Good) (z : List ℕ) (bit : ℕ) (P : Told n t (map (party_box session n t) good) z bit) where
  abbrev boxes : List Box
  boxes = map (party_box session n t) good

  party-invented : (A : Good) → Memᴰ A good → (R : Result) → EndsWith (party_box session n t A) R → Somebodys session n t boxes (party_box session n t A) R
  party-invented A h R k =
      go (no-invented-message sha256 sha256-length session n t good z bit (told session n t good z bit P) A h R (unended session n t A R k))
    where
      go : theirs.Somebodys sha256 session n t good A R → Somebodys session n t boxes (party_box session n t A) R
      go (inl e) = inl e
      go (inr b) = inr (party_box session n t b.0, in_map (party_box session n t) b.1, b.2)

  parties-more : Clean boxes → (x : List ℕ) → Memᴰ x (join_over (λ (A : Box). A.opened_and_checked ++ A.recoded) boxes)
      → Memᴰ x (join_over (λ (A : Box). A.opened_and_checked) boxes)
  parties-more c x h =
      subst (Memᴰ x) (sym (join-map (party_box session n t) (λ (A : Box). A.opened_and_checked) good))
      (no-string-more sha256 sha256-length session n t good z bit (told session n t good z bit P) (cleaned session n t good c) x
      (subst (Memᴰ x) (join-map (party_box session n t) (λ (A : Box). A.opened_and_checked ++ A.recoded) good) h))

-- and any, hosts too
module _ (session n t : ℕ) (good : List (Good ⊎ Host)) (z : List ℕ) (bit : ℕ) (four : FourBytes session)
    (P : Told n t (map (box_of session n t) good) z bit) where
  abbrev ones : List Good
  ones = map party good

  is : map (box_of session n t) good ≡ map (party_box session n t) ones
  is = boxes-same session n t four good (λ g i. (P.opened (box_of session n t g) (in_map (box_of session n t) i)).0)

  abbrev Whose : List Box → Type 0
  Whose boxes = (A : Box) → Memᴰ A boxes → (R : Result) → EndsWith A R → Somebodys session n t boxes A R

  abbrev More : List Box → Type 0
  More boxes =
      Clean boxes → (x : List ℕ) → Memᴰ x (join_over (λ (A : Box). A.opened_and_checked ++ A.recoded) boxes)
      → Memᴰ x (join_over (λ (A : Box). A.opened_and_checked) boxes)

  Q : Told n t (map (party_box session n t) ones) z bit
  Q = subst (λ (boxes : List Box). Told n t boxes z bit) is P

  boxes-invented : Whose (map (box_of session n t) good)
  boxes-invented =
      subst Whose (sym is) (all_map (party_box session n t) (λ (A : Box). (R : Result) → EndsWith A R → Somebodys session n t (map (party_box session n t) ones) A R) ones
      (party-invented session n t ones z bit Q))

  boxes-more : More (map (box_of session n t) good)
  boxes-more = subst More (sym is) (parties-more session n t ones z bit Q)

  boxes-before : Clean (map (box_of session n t) good) → (g : Good ⊎ Host) → Memᴰ g good → let A = party g in
      let x = (open_of sha256 session n t A.own A.message).state in theirs.events_unchecked sha256 x A.calls ≡ events sha256 x A.calls
  boxes-before c g h =
      no-other-ending sha256 sha256-length session n t ones z bit (told session n t ones z bit Q) (cleaned session n t ones (subst Clean is c)) (party g) (in_map party h)

pub rebuilt-books-have-the-agreed-root : RebuiltBooksHaveTheAgreedRoot
rebuilt-books-have-the-agreed-root =
    record {
      tool = tool-told;
      step5 = step5-told;
      agreed = λ session n t g m four e k. let same = either_same session n t four g e in
          subst (λ (A : Box). (z : List ℕ) × (b : ℕ) × (first 2 A.acts ≡ some (rooted z b)) × (message_root sha256 session n t m ≡ z)) (sym same)
          (party-agreed session n t (party g) m (subst (λ (A : Box). EndsWith A (settled m)) same k));
      sitting = λ n t good z bit P. (sitting-tells n t good z bit P, P.clean);
      as_before = boxes-before;
      no-string-more = boxes-more;
      not-invented = boxes-invented;
    }
