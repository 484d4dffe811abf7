-- What rebuilding gives, with a root and without: a message that was found is within its limit; what the answer says in a buffer that any message fits; and
-- what the form with a root makes of it, for any hash. By cases on the answer and by the tests of the definitions. Assumes nothing.
use mathlib.Core.Path.{◌≡◌, refl, sym, ap, ap₂, ◌∙◌}
use mathlib.Core.Bool.{Bool, true, false, cond, not}
use mathlib.Core.List.{List, map}
use Prim.Native.Nat.{ℕ, ◌-◌, ◌*◌, ◌<◌, ◌≤◌}
use native.Mathlib.Omega.{arith}
use borrow.Author.Tests.{eq-eqb, ne_eqb}
use lib.Dec.{ltb}
use lib.ListN.{length, take, drop, length-take}
use lib.Seq.{length-take-le}
use Rattle.limits.specs.Limits.{max_message, group_cause}
use Rattle.limits.proofs.Group.{group_of, group-fine}
use Rattle.buffer.specs.Splice.{spliced}
use Rattle.buffer.specs.Entries.{size, body, fills, bodies}
use Rattle.std.specs.Prelude.{Result, Ok, Err, IsOk}
use Rattle.cause.specs.declared.Cause.{Cause}
use Rattle.cause.specs.declared.Refusal.{Refusal}
use Rattle.cause.proofs.Numbers.{number-nonzero}
use Rattle.buffer.specs.Given.{Written, Given, said, gave, value_of}
use Rattle.buffer.specs.Given as goal
use Rattle.buffer.proofs.Splice.{length-spliced, take-spliced}
use Rattle.buffer.proofs.Given.{written-done}
use Rattle.erasure.specs.Rebuild.{Recovered, cause, message, Point, point, present, other, unframed, joined, framed, recovered, answered, rebuild_of}
use Rattle.erasure.proofs.Frame.{is-unframed}
use Rattle.merkle.specs.Shares.{same}
use Rattle.merkle.specs.Answer.{Rooted, root_said}
use Rattle.commitment.specs.Commitment.{open_cause, message_root, rooted_of}
use Rattle.commitment.specs.Rebuild.{under_root, rebuild_with_root_of}
use Rattle.commitment.proofs.Answers.{said-done}
use Rattle.commitment.proofs.Opening.{open-fine}
use Rattle.commitment.proofs.Outcomes.{rooted-given}
use Rattle.commitment.proofs.Shared.{same-is}

abbrev pub Short : Recovered → Type 0
Short (cause k) = Unit {0}
Short (message m) = length m ≤ max_message

pub short-recovered : (b : ℕ) (ps : List Point) → Short (recovered b ps)
unfolding recovered joined body
short-recovered b ps =
    go (ltb (length ps) b) (other s (map (λ p. length p.share) (take b ps))) (unframed b s f) refl
  where
    s : ℕ
    s = length (point ps 0).share

    f : List ℕ
    f = framed b s (take b ps)

    go : (t u : Bool) (a : Recovered) → unframed b s f ≡ a → Short (cond t (cause 11) (cond u (cause 12) a))
    go true u a q = tt
    go false true a q = tt
    go false false (cause k) q = tt
    go false false (message m) q =
        let h = is-unframed b s f m q in
        omega (arith, h.within, length-take (size f) (drop 2 f), ap length h.found)

pub short-under : (H : List ℕ → List ℕ) (session n t : ℕ) (z : List ℕ) (a : Recovered) → Short a → Short (under_root H session n t z a)
short-under H session n t z (cause k) s = tt
short-under H session n t z (message m) s = go (same (message_root H session n t m) z)
  where
    go : (b : Bool) → Short (cond b (message m) (cause 15))
    go true = s
    go false = tt

-- the answer of rebuilding in a buffer that any message fits: a message found
module _ (o out : List ℕ) (r : Result ℕ (Refusal Cause)) (room : length out ≡ max_message) where
  pub answer-found : (a : Recovered) → Short a → gave (said r) o ≡ answered a out → (l : ℕ) → r ≡ Ok l
      → (a ≡ message (take l o)) × (l ≤ max_message) × (l ≤ length o)
  answer-found (cause k) s e l q =
      let y : goal.Done l ≡ goal.Refused k = ap said (sym q) ∙ ap (λ (g : Given). g.answer) e in absurd cc
  answer-found (message m) s e l q =
      let h = e ∙ written-done m out (omega arith) in
      let n : length m ≡ l = ap value_of (sym (ap (λ (g : Given). g.answer) h) ∙ ap said q) in
      let b : o ≡ spliced out 0 m = ap (λ (g : Given). g.buffer) h in (
        ap message (sym (ap₂ take (sym n) b ∙ take-spliced out m)),
        omega (arith, n, s),
        omega (arith, n, ap length b, length-spliced out 0 m (omega arith)),
      )

-- what n entries give, cause 8 included
abbrev pub entries_found : ℕ → ℕ → List ℕ → Recovered
entries_found n t es = cond (fills n es) (recovered (n - t) (present 1 (bodies n es))) (cause 8)

pub short-entries : (n t : ℕ) (es : List ℕ) → Short (entries_found n t es)
short-entries n t es = go (fills n es)
  where
    go : (b : Bool) → Short (cond b (recovered (n - t) (present 1 (bodies n es))) (cause 8))
    go true = short-recovered (n - t) (present 1 (bodies n es))
    go false = tt

module _ (n t : ℕ) (es out : List ℕ) where
  pub rebuild-entries : group_cause n t ≡ 0 → rebuild_of n t es out ≡ answered (entries_found n t es) out
  unfolding rebuild_of
  rebuild-entries fine = rw (eq-eqb (group_cause n t) 0 fine) (go (fills n es))
    where
      go : (b : Bool) → cond (not b) (gave (goal.Refused 8) out) (answered (recovered (n - t) (present 1 (bodies n es))) out)
          ≡ answered (cond b (recovered (n - t) (present 1 (bodies n es))) (cause 8)) out
      go true = refl
      go false = refl

  module _ (H : List ℕ → List ℕ) (session : ℕ) (z : List ℕ) where
    pub with-root-refused : (group_cause n t ≡ 0 → ⊥) → rebuild_with_root_of H session n t z es out ≡ gave (goal.Refused (group_cause n t)) out
    unfolding rebuild_with_root_of
    with-root-refused bad = rw (ne_eqb (group_cause n t) 0 bad)

    pub with-root-wide : group_cause n t ≡ 0 → (length z ≡ 32 → ⊥) → rebuild_with_root_of H session n t z es out ≡ gave (goal.Refused 7) out
    unfolding rebuild_with_root_of
    with-root-wide fine bad = rw (eq-eqb (group_cause n t) 0 fine, ne_eqb (length z) 32 bad)

    pub with-root-entries : group_cause n t ≡ 0 → length z ≡ 32
        → rebuild_with_root_of H session n t z es out ≡ answered (under_root H session n t z (entries_found n t es)) out
    unfolding rebuild_with_root_of
    with-root-entries fine wide = rw (eq-eqb (group_cause n t) 0 fine, eq-eqb (length z) 32 wide) (go (fills n es))
      where
        go : (b : Bool) → cond (not b) (gave (goal.Refused 8) out) (answered (under_root H session n t z (recovered (n - t) (present 1 (bodies n es)))) out)
            ≡ answered (under_root H session n t z (cond b (recovered (n - t) (present 1 (bodies n es))) (cause 8))) out
        go true = refl
        go false = refl

-- rebuilding answered r, and o stands in its buffer
module _ (n t : ℕ) (es : List ℕ) (fine : group_cause n t ≡ 0) (o room : List ℕ) (r : Result ℕ (Refusal Cause)) (long : length room ≡ max_message)
    (told : gave (said r) o ≡ rebuild_of n t es room) where
  answer_given : gave (said r) o ≡ answered (entries_found n t es) room
  answer_given = told ∙ rebuild-entries n t es room fine

  found : (l : ℕ) → r ≡ Ok l → (entries_found n t es ≡ message (take l o)) × (l ≤ max_message) × (l ≤ length o)
  found = answer-found o room r long (entries_found n t es) (short-entries n t es) answer_given

  pub found-fits : (l : ℕ) → r ≡ Ok l → l ≤ length o
  found-fits l done = (found l done).2

  -- the message found has a root, under any session's number and fault limit
  pub found-rooted : (H : List ℕ → List ℕ) (session k l : ℕ) → r ≡ Ok l → 2 * k < n → (x : Result (List ℕ) Cause)
      → root_said x ≡ rooted_of H session n k 1 (take l o) → IsOk x
  found-rooted H session k l done faults (Ok y) e = refl
  found-rooted H session k l done faults (Err c) e =
      let f = found l done in
      let g = group_of n t fine in
      let m : List ℕ = take l o in
      let fits : open_cause n k 1 (length m) ≡ 0 =
      open-fine n k 1 (length m) (group-fine n k g.low g.high faults) (omega arith) g.low (omega (arith, length-take-le l o f.2, f.1)) in
      absurd (number-nonzero c (ap (λ (y : Rooted). y.cause) (e ∙ rooted-given H session n k 1 m fits)))

  -- what the form with a root answers: the same cause
  module _ (H : List ℕ → List ℕ) (session : ℕ) (z : List ℕ) (wide : length z ≡ 32) (out : List ℕ) where
    pub with-root-cause : (e : Refusal Cause) → r ≡ Err e → (q : Result ℕ (Refusal Cause)) → q ≡ Err e → gave (said q) out ≡ rebuild_with_root_of H session n t z es out
    with-root-cause e is q err =
        ap (λ (x : Result ℕ (Refusal Cause)). gave (said x) out) (err ∙ sym is)
        ∙ go (entries_found n t es) (short-entries n t es) answer_given
        ∙ sym (with-root-entries n t es out H session z fine wide)
      where
        go : (a : Recovered) → Short a → gave (said r) o ≡ answered a room → gave (said r) out ≡ answered (under_root H session n t z a) out
        go (cause k) s g = ap (λ (x : Written). gave x out) (ap (λ (x : Given). x.answer) g)
        go (message m) s g =
            let y : Err e ≡ Ok (length m) =
            sym is ∙ said-done r (length m) (ap (λ (x : Given). x.answer) (g ∙ written-done m room (omega arith))) in
            absurd cc

    module _ (l : ℕ) (done : r ≡ Ok l) where
      abbrev m : List ℕ
      m = take l o

      fits : open_cause n t 1 (length m) ≡ 0
      fits =
          let f = found l done in
          open-fine n t 1 (length m) fine (omega arith) (group_of n t fine).low (omega (arith, length-take-le l o f.2, f.1))

      -- it is given if its root is z
      pub with-root-judged : (x : Result (List ℕ) Cause) → root_said x ≡ rooted_of H session n t 1 m → (y : List ℕ) → x ≡ Ok y → (b : Bool)
          → (b ≡ true → y ≡ z) → (y ≡ z → b ≡ true)
          → rebuild_with_root_of H session n t z es out ≡ answered (cond b (message m) (cause 15)) out
      with-root-judged x e y q b p s =
          let f = found l done in
          let root : y ≡ message_root H session n t m =
          ap (λ (w : Rooted). w.root) (ap root_said (sym q) ∙ e ∙ rooted-given H session n t 1 m fits) in
          with-root-entries n t es out H session z fine wide
          ∙ ap (λ (f : Recovered). answered (under_root H session n t z f) out) f.0
          ∙ ap (λ (c : Bool). answered (cond c (message m) (cause 15)) out) (sym (same-is y z b p s ∙ ap (λ (w : List ℕ). same w z) root))
