-- A rebuilt message has the shares that were used: a column of the rebuilt frame is the polynomial through the used shares'
-- bytes, so its value at a share's number is that share's byte. Assumes nothing.
use mathlib.Core.Path.{◌≡◌, refl, sym, ap, subst, ◌∙◌}
use mathlib.Core.Bool.{Bool, true, false, cond, not}
use mathlib.Core.List.{List, [], map}
use Prim.Native.Nat.{ℕ, ◌+◌, ◌-◌, ◌*◌, ◌/◌, ◌%◌, ◌<◌, ◌≤◌}
use native.Mathlib.Decide.{dec_lt}
use native.Mathlib.Omega.{arith}
use borrow.Author.Tests.{ltb-false, eqb-true}
use lib.Arith.{digits_lt, digits_div, digits_mod}
use lib.Dec.{ltb, eqb, lit<}
use lib.ListN.{length, get_or, take, length-map, get_or-map, get_or-eq_default}
use lib.Seq.{ext_get_or, length-take-le}
use Rattle.limits.specs.Limits.{max_message, group_cause}
use Rattle.limits.proofs.Group.{group_of}
use Rattle.buffer.specs.Splice.{spliced}
use Rattle.buffer.proofs.Entries.{length-bodies}
use Rattle.buffer.specs.Entries.{fills, bodies}
use Rattle.buffer.proofs.Tabulate.{length-tabulate, get_or-tabulate}
use Rattle.polynomial.specs.Polynomial.{Distinct, through}
use Rattle.polynomial.proofs.Value.{value-cong}
use Rattle.erasure.specs.Bytes.{bytes}
use Rattle.buffer.specs.Bounds.{Bytes}
use Rattle.erasure.specs.Coding.{share_length, frame, share}
use Rattle.buffer.specs.Given.{Given, gave, written}
use Rattle.erasure.specs.Rebuild.{Point, present, point, framed, other, unframed, joined, recovered, answered, rebuild_of}
use Rattle.erasure.specs.Rebuild.{Recovered, cause, message}
use Rattle.buffer.specs.Given.{Refused, Short, Done}
use Rattle.erasure.proofs.Field.{through-lt, byte-through-value}
use Rattle.erasure.proofs.Other.{none_other}
use Rattle.erasure.proofs.Frame.{length-share, get_or-share, frame-unframed, frame-bytes-message}
use Rattle.erasure.proofs.Outcomes.{rebuild-answered}
use Rattle.erasure.proofs.Present.{number_lt, number-distinct, point-used, point-none}
use Rattle.erasure.proofs.Present.{present-bytes, bodies-bytes}

-- all have one length where none has another
one-length : (s : ℕ) (us : List Point) → other s (map (λ p. length p.share) us) ≡ false
    → (i : ℕ) → i < length us → length (point us i).share ≡ s
unfolding point
one-length s us h i l =
    let f : Point → ℕ = λ p. length p.share in
    sym (get_or-map f us i (record { number = 0; share = [] })) ∙ none_other s (map f us) h i (omega (arith, length-map us f))

-- the frame that has the shares of us

module _ (b s : ℕ) (us : List Point) where
  pub length-framed : length (framed b s us) ≡ b * s
  unfolding framed
  length-framed = length-tabulate (b * s) _

  pub get_or-framed : (k c : ℕ) → k < b → c < s → get_or (framed b s us) (k * s + c) 0
      ≡ through bytes b (λ m. (point us m).number) (λ m. get_or (point us m).share c 0) k
  unfolding framed
  get_or-framed k c hk hc =
      get_or-tabulate (b * s) _ (k * s + c) 0 (digits_lt hk hc)
      ∙ rw (digits_div k {m = s} hc, digits_mod k {m = s} hc)

  module _ (hx : (i : ℕ) → (point us i).number < 256) where
    -- it is of bytes, whatever the shares are
    pub framed-bytes : Bytes (framed b s us)
    unfolding framed
    framed-bytes i = elim (dec_lt i (b * s)) [
      | yes l ↦ subst (λ (t : ℕ). t < 256) (sym (get_or-tabulate (b * s) _ i 0 l))
          (through-lt b (λ m. (point us m).number) (λ m. get_or (point us m).share (i % s) 0) hx (i / s))
      | no n ↦ omega (arith, length-framed, get_or-eq_default (framed b s us) 0 {n = i} (omega (arith, length-framed)))
    ]

    -- a share of the message whose frame it is
    pub framed-share : ((i : ℕ) → Bytes (point us i).share) → (m : List ℕ) → Distinct b (λ i. (point us i).number) → s ≡ share_length b (length m)
        → framed b s us ≡ frame b m → (i : ℕ) → i < b → length (point us i).share ≡ s
        → (point us i).share ≡ share b (point us i).number m
    framed-share hy m d e f i h l =
        ext_get_or 0 (point us i).share (share b (point us i).number m) (l ∙ e ∙ sym (length-share b (point us i).number m))
        (λ c k. sym (byte c (omega arith)))
      where
        byte : (c : ℕ) → c < s → get_or (share b (point us i).number m) c 0 ≡ get_or (point us i).share c 0
        byte c k =
            get_or-share b (point us i).number m c (omega arith)
            ∙ value-cong bytes b (point us i).number (λ n hn.
            ap (λ (t : ℕ). get_or (frame b m) (n * t + c) 0) (sym e) ∙ ap (λ (x : List ℕ). get_or x (n * s + c) 0) (sym f)
            ∙ get_or-framed n c hn k)
            ∙ byte-through-value b (λ m. (point us m).number) (λ m. get_or (point us m).share c 0) hx (λ m. hy m c) d i h

both-pass : (p q : Bool) (r : Recovered) (m : List ℕ) → cond p (cause 11) (cond q (cause 12) r) ≡ message m
    → (p ≡ false) × (q ≡ false) × (r ≡ message m)
both-pass true q r m e = let z : ◌≡◌ {A = ℕ} 0 1 = cc in absurd (omega arith)
both-pass false true r m e = let z : ◌≡◌ {A = ℕ} 0 1 = cc in absurd (omega arith)
both-pass false false r m e = (refl, refl, e)

module _ (b : ℕ) (m : List ℕ) (es : List (List ℕ)) (low : 1 ≤ b) (few : length es < 256) (e : recovered b (present 1 es) ≡ message m) where
  us : List Point
  us = take b (present 1 es)

  s : ℕ
  s = length (point (present 1 es) 0).share

  passed : (ltb (length (present 1 es)) b ≡ false) × (other s (map (λ p. length p.share) us) ≡ false)
      × (unframed b s (framed b s us) ≡ message m)
  unfolding us s recovered joined
  passed = both-pass _ _ _ m e

  pub enough : b ≤ length (present 1 es)
  enough = ltb-false (length (present 1 es)) b passed.0

  used-count : length us ≡ b
  unfolding us
  used-count = length-take-le b (present 1 es) enough

  used : (i : ℕ) → i < b → point us i ≡ point (present 1 es) i
  unfolding us
  used = point-used b (present 1 es)

  used-lt : (i : ℕ) → (point us i).number < 256
  used-lt i = elim (dec_lt i b) [
    | yes l ↦ subst (λ (p : Point). p.number < 256) (sym (used i l)) (number_lt es few i)
    | no n ↦ subst (λ (p : Point). p.number < 256) (sym (point-none us i (omega (arith, used-count)))) (lit< tt)
  ]

  found : (length m ≤ max_message) × (s ≡ share_length b (length m)) × (framed b s us ≡ frame b m)
  found = frame-unframed b s (framed b s us) m low (length-framed b s us) (framed-bytes b s us used-lt) passed.2

  -- it is of bytes
  pub sound-bytes : Bytes m
  sound-bytes = frame-bytes-message b m (subst Bytes found.2 (framed-bytes b s us used-lt))

  distinct : Distinct b (λ i. (point us i).number)
  distinct i k hi hk q =
      number-distinct es b enough i k hi hk
      (ap (λ (p : Point). p.number) (sym (used i hi)) ∙ q ∙ ap (λ (p : Point). p.number) (used k hk))

  -- and has the shares used, where they are of bytes
  module _ (small : (i : ℕ) → i < b → Bytes (point (present 1 es) i).share) where
    used-bytes : (i : ℕ) → Bytes (point us i).share
    used-bytes i = elim (dec_lt i b) [
      | yes l ↦ subst (λ (p : Point). Bytes p.share) (sym (used i l)) (small i l)
      | no n ↦ subst (λ (p : Point). Bytes p.share) (sym (point-none us i (omega (arith, used-count)))) (λ c. lit< tt)
    ]

    pub sound : (length m ≤ max_message)
        × ((i : ℕ) → i < b → (point (present 1 es) i).share ≡ share b (point (present 1 es) i).number m)
    sound = (
      found.0,
      λ i h. subst (λ (p : Point). p.share ≡ share b p.number m) (used i h)
          (framed-share b s us used-lt used-bytes m distinct found.1 found.2 i h
          (one-length s us passed.1 i (omega (arith, used-count)))),
    )

-- the same of n entries: what was written is a message that has the shares used

pub record Rebuilt (n t : ℕ) (entries out : List ℕ) : Type 0 where
  pub text : List ℕ
  pub group : group_cause n t ≡ 0
  pub there : n - t ≤ length (present 1 (bodies n entries))
  pub within : length text ≤ max_message
  pub small : Bytes text
  pub own : (i : ℕ) → i < n - t
      → (point (present 1 (bodies n entries)) i).share ≡ share (n - t) (point (present 1 (bodies n entries)) i).number text
  pub done : rebuild_of n t entries out ≡ gave (Done (length text)) (spliced out 0 text)

tests-pass : (p q : Bool) (g : Given) (k : ℕ) (out : List ℕ) (l : ℕ)
    → (cond (not p) (gave (Refused k) out) (cond (not q) (gave (Refused 8) out) g)).answer ≡ Done l
    → (p ≡ true) × (q ≡ true) × (g.answer ≡ Done l)
tests-pass true true g k out l e = (refl, refl, e)
tests-pass true false g k out l e = let z : ◌≡◌ {A = ℕ} 0 1 = cc in absurd (omega arith)
tests-pass false q g k out l e = let z : ◌≡◌ {A = ℕ} 0 1 = cc in absurd (omega arith)

long-enough : (p : Bool) (m out : List ℕ) (l : ℕ)
    → (cond p (gave (Short (length m)) out) (gave (Done (length m)) (spliced out 0 m))).answer ≡ Done l → p ≡ false
long-enough true m out l e = let z : ◌≡◌ {A = ℕ} 0 1 = cc in absurd (omega arith)
long-enough false m out l e = refl

answered-done : (r : Recovered) (out : List ℕ) (l : ℕ) → (answered r out).answer ≡ Done l
    → (m : List ℕ) × (r ≡ message m) × (answered r out ≡ gave (Done (length m)) (spliced out 0 m))
unfolding written
answered-done (cause k) out l e = let z : ◌≡◌ {A = ℕ} 0 1 = cc in absurd (omega arith)
answered-done (message m) out l e = let p = long-enough (ltb (length out) (length m)) m out l e in (m, refl, rw p)

pub rebuild-sound : (n t l : ℕ) (entries out : List ℕ) → Bytes entries → (rebuild_of n t entries out).answer ≡ Done l
    → Rebuilt n t entries out
unfolding rebuild_of
rebuild-sound n t l entries out h e =
    let es : List (List ℕ) = bodies n entries in
    let r : Recovered = recovered (n - t) (present 1 es) in
    let a = tests-pass (eqb (group_cause n t) 0) (fills n entries) (answered r out) (group_cause n t) out l e in
    let g = answered-done r out l a.2 in
    let c : group_cause n t ≡ 0 = eqb-true (group_cause n t) 0 a.0 in
    let group = group_of n t c in
    let low : 1 ≤ n - t = omega arith in
    let few : length es < 256 = omega (arith, length-bodies n entries) in
    let bs : (i : ℕ) → i < n - t → Bytes (point (present 1 es) i).share = λ i k. present-bytes es (bodies-bytes n entries h) i in
    let f = sound (n - t) g.0 es low few g.1 bs in
    record {
      text = g.0;
      group = c;
      there = enough (n - t) g.0 es low few g.1;
      within = f.0;
      small = sound-bytes (n - t) g.0 es low few g.1;
      own = f.1;
      done = rebuild-answered n t entries out c a.1 ∙ g.2;
    }
