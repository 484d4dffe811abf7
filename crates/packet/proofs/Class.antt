-- A packet that passes: what was read of it, and the strings of its check. What is read and leads to the root passes, and so does a packet
-- written anew from a share and a path that passed. By cases of what is read. Assumes nothing.
use mathlib.Core.Path.{◌≡◌, refl, ap, ◌∙◌, subst}
use mathlib.Core.Bool.{Bool, true, false}
use mathlib.Core.List.{List}
use Prim.Native.Nat.{ℕ}
use borrow.Author.Tests.{eqb-true, eq-eqb}
use lib.Dec.{eqb}
use lib.ListN.{length}
use Rattle.merkle.specs.Shares.{passes, strings_of}
use Rattle.packet.specs.Format.{Reading, silence, unreadable, shared, packet_of, read_of}
use Rattle.packet.specs.Class.{silent, faulty, valid, judged, class_of, checked_strings, class_strings}
use Rattle.packet.proofs.Reading.{fields-of, read_wide}
use Rattle.packet.proofs.Inverse.{written_read}

module _ (H : List ℕ → List ℕ) (session n : ℕ) where
  -- a packet under number k that passes, with the strings of its check
  pub record Passing (k : ℕ) (z w x : List ℕ) (p : List (List ℕ)) : Type 0 where
    pub reads : read_of n w ≡ shared k x p
    pub leads : passes H session n k x p (length p) z ≡ true
    pub strings : class_strings H session n k w ≡ strings_of H session n k x p (length p)

  -- a class is one thing only
  not-silent : {x : List ℕ} {p : List (List ℕ)} → silent ≡ valid x p → ⊥
  not-silent e = cc

  not-faulty : {x : List ℕ} {p : List (List ℕ)} → faulty ≡ valid x p → ⊥
  not-faulty e = cc

  same-share : {x y : List ℕ} {p q : List (List ℕ)} → valid x p ≡ valid y q → (x ≡ y) × (p ≡ q)
  same-share e = (cc, cc)

  judged-valid : (k : ℕ) (z x : List ℕ) (p : List (List ℕ)) (r : Reading) → judged H session n k z r ≡ valid x p
      → (r ≡ shared k x p) × (passes H session n k x p (length p) z ≡ true)
  judged-valid k z x p silence e = absurd (not-silent e)
  judged-valid k z x p unreadable e = absurd (not-faulty e)
  judged-valid k z x p (shared j y q) e = go (eqb j k) refl (passes H session n k y q (length q) z) refl
    where
      go : (a : Bool) → eqb j k ≡ a → (c : Bool) → passes H session n k y q (length q) z ≡ c
          → (shared j y q ≡ shared k x p) × (passes H session n k x p (length p) z ≡ true)
      go true a true c =
          let s = same-share (rw (a, c) at e) in (
            rw (eqb-true j k a, s.0, s.1),
            subst (λ (u : List ℕ). passes H session n k u p (length p) z ≡ true) s.0
                (subst (λ (v : List (List ℕ)). passes H session n k y v (length v) z ≡ true) s.1 c),
          )
      go true a false c = absurd (not-faulty (rw (a, c) at e))
      go false a b c = absurd (not-faulty (rw a at e))

  strings-shared : (k : ℕ) (x : List ℕ) (p : List (List ℕ)) → checked_strings H session n k (shared k x p) ≡ strings_of H session n k x p (length p)
  strings-shared k x p = rw (eq-eqb k k refl)

  pub passing : (k : ℕ) (z w x : List ℕ) (p : List (List ℕ)) → class_of H session n k z w ≡ valid x p → Passing k z w x p
  unfolding class_of class_strings
  passing k z w x p e =
      let j = judged-valid k z x p (read_of n w) e in
      record { reads = j.0; leads = j.1; strings = ap (checked_strings H session n k) j.0 ∙ strings-shared k x p }

  pub passes-valid : (k : ℕ) (z w x : List ℕ) (p : List (List ℕ)) → read_of n w ≡ shared k x p → passes H session n k x p (length p) z ≡ true
      → class_of H session n k z w ≡ valid x p
  unfolding class_of
  passes-valid k z w x p e c = rw (e, eq-eqb k k refl, c)

  -- what passed, written anew
  pub rewritten : (k : ℕ) (z w x : List ℕ) (p : List (List ℕ)) → class_of H session n k z w ≡ valid x p
      → class_of H session n k z (packet_of k x p) ≡ valid x p
  rewritten k z w x p e =
      let q = passing k z w x p e in
      let f = fields-of n w k x p q.reads in
      passes-valid k z (packet_of k x p) x p
      (written_read n k x p f.low f.high f.some f.most f.counted (read_wide n w k x p q.reads)) q.leads
