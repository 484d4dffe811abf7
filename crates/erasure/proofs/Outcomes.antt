-- The outcomes of the definitions, one law for each, from plain facts about numbers. Assumes nothing.
use mathlib.Core.Path.{◌≡◌, refl}
use mathlib.Core.Bool.{Bool, true, false, cond, not}
use mathlib.Core.List.{List, ◌++◌, map}
use Prim.Native.Nat.{ℕ, ◌-◌, ◌*◌, ◌<◌, ◌≤◌}
use borrow.Author.Tests.{lt-ltb, le-ltb, eq-eqb, ne_eqb}
use lib.Dec.{eqb}
use lib.ListN.{length, take}
use Rattle.limits.specs.Limits.{max_message, max_parties, group_cause}
use Rattle.limits.proofs.Group.{group_of}
use Rattle.buffer.specs.Entries.{size, body, rest, fills, bodies}
use Rattle.cause.specs.Cause.{number, cause_of, IsCause}
use Rattle.cause.specs.declared.Cause.{Cause}
use Rattle.cause.specs.declared.Refusal.{Refusal}
use Rattle.cause.proofs.Numbers.{number-nonzero}
use Rattle.buffer.specs.Given.{Given, said, gave, written}
use Rattle.buffer.proofs.Given.{gave-because}
use Rattle.std.proofs.Common.{Option, None, Result, Err, IsErrAnd, ◌≢◌, ap, ◌∙◌}
use Rattle.std.specs.Option.{ok_or}
use Rattle.erasure.specs.Coding.{share_length, shares, encode_of}
use Rattle.erasure.specs.Rebuild.{Point, point, present, framed, other, unframed, joined, recovered, answered, rebuild_of}
use Rattle.erasure.specs.Rebuild.{cause, message, parts_at, all_lie, rebuild_at_of}
use Rattle.erasure.specs.declared.Place.{Place}
use Rattle.buffer.specs.Given.{Refused}

module _ (n t : ℕ) (m out : List ℕ) where
  pub encode-refused : (group_cause n t ≡ 0 → ⊥) → encode_of n t m out ≡ gave (Refused (group_cause n t)) out
  unfolding encode_of
  encode-refused h = let e = ne_eqb (group_cause n t) 0 h in rw e

  module _ (fine : group_cause n t ≡ 0) where
    pub encode-long : max_message < length m → encode_of n t m out ≡ gave (Refused 4) out
    unfolding encode_of
    encode-long h = let e = eq-eqb (group_cause n t) 0 fine in rw (e, lt-ltb max_message (length m) h)

    pub encode-written : length m ≤ max_message → encode_of n t m out ≡ written (shares n (n - t) m) out
    unfolding encode_of
    encode-written h = let e = eq-eqb (group_cause n t) 0 fine in rw (e, le-ltb max_message (length m) h)

module _ (b s : ℕ) (f : List ℕ) where
  pub unframed-tiny : length f < 2 → unframed b s f ≡ cause 12
  unfolding unframed
  unframed-tiny h = rw (lt-ltb (length f) 2 h)

  module _ (whole : 2 ≤ length f) where
    pub unframed-over : max_message < size f → unframed b s f ≡ cause 12
    unfolding unframed
    unframed-over h = rw (le-ltb (length f) 2 whole, lt-ltb max_message (size f) h)

    module _ (within : size f ≤ max_message) where
      pub unframed-stated : (s ≡ share_length b (size f) → ⊥) → unframed b s f ≡ cause 12
      unfolding unframed
      unframed-stated h = rw (le-ltb (length f) 2 whole, le-ltb max_message (size f) within, ne_eqb s (share_length b (size f)) h)

      module _ (stated : s ≡ share_length b (size f)) where
        pub unframed-filled : other 0 (rest f) ≡ true → unframed b s f ≡ cause 12
        unfolding unframed
        unframed-filled h =
            rw (le-ltb (length f) 2 whole, le-ltb max_message (size f) within, eq-eqb s (share_length b (size f)) stated, h)

        pub unframed-found : other 0 (rest f) ≡ false → unframed b s f ≡ message (body f)
        unfolding unframed
        unframed-found h =
            rw (le-ltb (length f) 2 whole, le-ltb max_message (size f) within, eq-eqb s (share_length b (size f)) stated, h)

module _ (b : ℕ) (ps : List Point) where
  pub recovered-few : length ps < b → recovered b ps ≡ cause 11
  unfolding recovered
  recovered-few h = rw (lt-ltb (length ps) b h)

  pub recovered-enough : b ≤ length ps → recovered b ps ≡ joined b (length (point ps 0).share) (take b ps)
  unfolding recovered
  recovered-enough h = rw (le-ltb (length ps) b h)

module _ (b s : ℕ) (us : List Point) where
  pub joined-uneven : other s (map (λ p. length p.share) us) ≡ true → joined b s us ≡ cause 12
  unfolding joined
  joined-uneven h = rw h

  pub joined-even : other s (map (λ p. length p.share) us) ≡ false → joined b s us ≡ unframed b s (framed b s us)
  unfolding joined
  joined-even h = rw h

-- causes 1 and 2, then 8, then what the shares give
module _ (g : ℕ) (laid : Bool) (out : List ℕ) (r : Given) where
  abbrev checked : Given
  checked = cond (not (eqb g 0)) (gave (Refused g) out) (cond (not laid) (gave (Refused 8) out) r)

  checked_refused : (g ≡ 0 → ⊥) → checked ≡ gave (Refused g) out
  checked_refused h = rw (ne_eqb g 0 h)

  checked-unlaid : g ≡ 0 → laid ≡ false → checked ≡ gave (Refused 8) out
  checked-unlaid fine h = rw (eq-eqb g 0 fine, h)

  checked-fine : g ≡ 0 → laid ≡ true → checked ≡ r
  checked-fine fine h = rw (eq-eqb g 0 fine, h)

module _ (n t : ℕ) (es out : List ℕ) where
  abbrev given : Given
  given = answered (recovered (n - t) (present 1 (bodies n es))) out

  pub rebuild-refused : (group_cause n t ≡ 0 → ⊥) → rebuild_of n t es out ≡ gave (Refused (group_cause n t)) out
  unfolding rebuild_of
  rebuild-refused = checked_refused (group_cause n t) (fills n es) out given

  pub rebuild-unlaid : group_cause n t ≡ 0 → fills n es ≡ false → rebuild_of n t es out ≡ gave (Refused 8) out
  unfolding rebuild_of
  rebuild-unlaid = checked-unlaid (group_cause n t) (fills n es) out given

  pub rebuild-answered : group_cause n t ≡ 0 → fills n es ≡ true → rebuild_of n t es out ≡ given
  unfolding rebuild_of
  rebuild-answered = checked-fine (group_cause n t) (fills n es) out given

module _ (n t : ℕ) (x y : List ℕ) (p : List Place) (out : List ℕ) where
  abbrev given-at : Given
  given-at = answered (recovered (n - t) (present 1 (parts_at n (x ++ y) p))) out

  pub rebuild-at-refused : (group_cause n t ≡ 0 → ⊥) → rebuild_at_of n t x y p out ≡ gave (Refused (group_cause n t)) out
  unfolding rebuild_at_of
  rebuild-at-refused = checked_refused (group_cause n t) (all_lie n (length x) (length y) p) out given-at

  pub rebuild-at-astray : group_cause n t ≡ 0 → all_lie n (length x) (length y) p ≡ false → rebuild_at_of n t x y p out ≡ gave (Refused 8) out
  unfolding rebuild_at_of
  rebuild-at-astray = checked-unlaid (group_cause n t) (all_lie n (length x) (length y) p) out given-at

  pub rebuild-at-answered : group_cause n t ≡ 0 → all_lie n (length x) (length y) p ≡ true → rebuild_at_of n t x y p out ≡ given-at
  unfolding rebuild_at_of
  rebuild-at-answered = checked-fine (group_cause n t) (all_lie n (length x) (length y) p) out given-at

-- the bounds where neither cause 1 nor cause 2 applies; the first part gives a tactic the term to look for
pub group_fits : (n t : ℕ) → group_cause n t ≡ 0 → (group_cause n t ≡ group_cause n t) × (1 ≤ n) × (n ≤ max_parties) × (2 * t < n)
group_fits n t e = let g = group_of n t e in (refl, g.low, g.high, g.faults)

-- the answer of an Option that is None, by `ok_or` and `?`
pub none-because : {A : Type 0} (o : Option A) (k e : Cause) (r : Result ℕ (Refusal Cause)) (out : List ℕ) → o ≡ None → Err e ≡ ok_or o k
    → IsErrAnd r (IsCause e) → gave (said r) out ≡ gave (Refused (number k)) out
none-because {A} o k e r out none is h = gave-because r e (number k) out h (ap cause_of is ∙ ap (λ (p : Option A). cause_of (ok_or p k)) none)

-- the same of an answer that is itself a cause
pub err-because : (n t : ℕ) (e : Cause) (r : Result ℕ (Refusal Cause)) (out : List ℕ) → number e ≡ group_cause n t
    → IsErrAnd r (IsCause e) → (group_cause n t ≢ 0) × (gave (said r) out ≡ gave (Refused (group_cause n t)) out)
err-because n t e r out is h = (λ q. number-nonzero e (is ∙ q), gave-because r e (group_cause n t) out h is)
