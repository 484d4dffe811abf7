-- What parties sent: the bytes of an outbox's packets, read one behind the other, one party's sum, and the sum over parties. By induction
-- along the entries, and by the tests of the definitions. Assumes nothing.
use mathlib.Core.Path.{◌≡◌, refl, sym, ap, ◌∙◌}
use mathlib.Core.Bool.{Bool, true, false, cond}
use mathlib.Core.List.{List}
use Prim.Native.Nat.{ℕ, zero, suc, ◌+◌, ◌-◌, ◌*◌, ◌<◌, ◌≤◌}
use native.Mathlib.Nat.{mul-zero, zero-add}
use native.Mathlib.Omega.{arith}
use borrow.Author.Tests.{eq-eqb, ne_eqb}
use lib.Dec.{eqb}
use lib.ListN.{length, get_or, take, drop, replicate, length-take, length-drop, get_or-replicate}
use lib.Seq.{length-take-le}
use Rattle.limits.specs.Limits.{max_parties}
use Rattle.sha256.specs.Sha256.{sha256}
use Rattle.buffer.specs.Entries.{size, body, rest, bodies}
use Rattle.buffer.proofs.Entries.{bodies-more}
use Rattle.buffer.proofs.Rows.{row_inside}
use Rattle.party.specs.declared.Party.{Party}
use Rattle.agreement.specs.Calls.{lengths}
use Rattle.plan.specs.Layout.{n_in}
use Rattle.session.specs.Session.{is_good, max_outbox, wrote_in, agreed_bit, step3, step4, sent_later, sent_of, sent_from}
use Rattle.session.specs.Private.{States, Wrote, Relayed, Sizes}
use Rattle.session.specs.declared.Outgoing.{Outgoing}

-- the bytes of n packets: of none, and of a list with no packet left
none_left : (n : ℕ) (s : List ℕ) → length s < 2 → lengths (bodies n s) ≡ 0
unfolding bodies lengths body rest
none_left zero s h = refl
none_left (suc n) s h =
    omega (
      arith,
      length-take (size s) (drop 2 s),
      length-drop 2 s,
      none_left n (rest s) (omega (arith, length-drop (2 + size s) s)),
    )

pub packets-end : (n at : ℕ) (s : List ℕ) → n ≡ 0 → lengths (bodies n (drop at s)) ≡ 0
unfolding bodies lengths
packets-end n at s e = rw e

pub packets-none : (n at : ℕ) (s : List ℕ) → length s - at < 2 → lengths (bodies n (drop at s)) ≡ 0
packets-none n at s h = none_left n (drop at s) (omega (arith, length-drop at s))

-- a packet, with m behind it
module _ (m n at : ℕ) (s : List ℕ) (e : n ≡ suc m) where
  more : lengths (bodies n (drop at s))
      ≡ length (take (size (drop at s)) (drop (at + 2) s)) + lengths (bodies m (drop (at + 2 + size (drop at s)) s))
  unfolding lengths
  more = ap lengths (bodies-more m n at s e)

  pub packets-more : 2 + size (drop at s) ≤ length s - at
      → lengths (bodies n (drop at s)) ≡ size (drop at s) + lengths (bodies m (drop (at + 2 + size (drop at s)) s))
  packets-more h =
      more
      ∙ ap (λ (k : ℕ). k + lengths (bodies m (drop (at + 2 + size (drop at s)) s)))
      (length-take-le (size (drop at s)) (drop (at + 2) s) (omega (arith, length-drop (at + 2) s)))

  -- it runs short
  pub packets-last : length s - at < 2 + size (drop at s) → lengths (bodies n (drop at s)) ≡ length s - at - 2
  packets-last h =
      let k : ℕ = size (drop at s) in
      omega (
        arith,
        more,
        length-take k (drop (at + 2) s),
        length-drop (at + 2) s,
        packets-none m (at + 2 + k) s (omega arith),
      )

-- one party's sum
times_none : (b : Bool) (k x : ℕ) → k * cond b 0 x ≡ cond b 0 (k * x)
times_none true k x = mul-zero k
times_none false k x = refl

module _ (H : List ℕ → List ℕ) (s : List ℕ) where
  pub sent_is : (p : ℕ) → lengths (bodies (n_in s) (wrote_in (step3 H s p)))
      + (n_in s - 1) * cond (eqb (agreed_bit H s) 0) 0 (length (wrote_in (step4 H s p))) ≡ sent_later H s p
  unfolding sent_later
  sent_is p =
      ap (λ (k : ℕ). lengths (bodies (n_in s) (wrote_in (step3 H s p))) + k)
      (times_none (eqb (agreed_bit H s) 0) (n_in s - 1) (length (wrote_in (step4 H s p))))

  -- of k parties from p on
  pub sent-end : (k p : ℕ) → k ≡ 0 → sent_from H s k p ≡ 0
  unfolding sent_from
  sent-end k p e = rw e

  module _ (j k p : ℕ) (e : k ≡ suc j) where
    pub sent-good : is_good s p ≡ true → sent_from H s k p ≡ sent_of H s p + sent_from H s j (p + 1)
    unfolding sent_from
    sent-good g = rw (e, g)

    pub sent-bad : is_good s p ≡ false → sent_from H s k p ≡ sent_from H s j (p + 1)
    unfolding sent_from
    sent-bad g = rw (e, g) (zero-add (sent_from H s j (p + 1)))

-- the lengths of the relays: none on bit 0, and else those of what stands in the slots
module _ (s : List ℕ) (few : n_in s ≤ max_parties) (relays : Outgoing) (l : List Party) where
  pub relays-none : agreed_bit sha256 s ≡ 0 → relays.lens ≡ replicate max_parties 0 → Relayed s relays l × Sizes s relays
  relays-none h e = (
    record { slots = λ w. absurd (w h); states = λ w. absurd (w h) },
    λ j i g.
        let z : get_or relays.lens j 0 ≡ 0 = ap (λ (x : List ℕ). get_or x j 0) e ∙ get_or-replicate max_parties j 0 0 (omega arith) in (
          omega arith,
          z ∙ ap (λ (b : Bool). cond b 0 (length (wrote_in (step4 sha256 s (j + 1)))))
              (sym (eq-eqb (agreed_bit sha256 s) 0 h)),
        ),
  )

  pub relays-all : (agreed_bit sha256 s ≡ 0 → ⊥) → length relays.slots ≡ max_parties * max_outbox
      → States s (λ p. (step4 sha256 s p).state) 0 (n_in s) l
      → Wrote s (λ p. wrote_in (step4 sha256 s p)) relays → Relayed s relays l × Sizes s relays
  relays-all h long st all = (
    record { slots = λ w. all; states = λ w. st },
    λ j i g.
        let w = all j i g in
        let z = length-take-le (get_or relays.lens j 0) (drop (j * max_outbox) relays.slots)
        (omega (arith, w.0, length-drop (j * max_outbox) relays.slots, row_inside max_parties j max_outbox (omega arith), long)) in (
          w.0,
          sym z ∙ ap length w.1 ∙ ap (λ (b : Bool). cond b 0 (length (wrote_in (step4 sha256 s (j + 1)))))
              (sym (ne_eqb (agreed_bit sha256 s) 0 h)),
        ),
  )
