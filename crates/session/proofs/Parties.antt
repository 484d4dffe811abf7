-- The good parties of a session: each is one that the map names, they have different numbers, and no more numbers are absent than the map
-- leaves unnamed; and sums over them. By induction along the parties. Assumes nothing.
use mathlib.Core.Path.{◌≡◌, refl, sym, ap, ap₂, ◌∙◌}
use mathlib.Core.Logic.{◌⊎◌, inl, inr, ◌≢◌}
use mathlib.Core.Bool.{Bool, true, false, cond}
use mathlib.Core.List.Memᴰ
use mathlib.Core.List.{List, ◌∷◌, map, Memᴰ}
use Prim.Native.Nat.{ℕ, zero, suc, ◌+◌, ◌-◌, ◌*◌, ◌≤◌, ◌<◌}
use native.Mathlib.Decide.{ℕ_discrete}
use native.Mathlib.Omega.{arith}
use borrow.Author.Tests.{eq-eqb, ne_eqb}
use lib.ListN.{length}
use Rattle.party.proofs.Ways.{Way, on, off, way, clash}
use Rattle.agreement.specs.Agreement.{among, different, absent, sum_over}
use Rattle.plan.specs.Layout.{unnamed, n_in, good_in}
use Rattle.session.specs.Session.{is_good, each_good, given_by, sent_later, sent_of, sent_from}

-- of k parties from p on, the sum of what g says of the good ones
unfoldable pub good_sum : List ℕ → (ℕ → ℕ) → ℕ → ℕ → ℕ
good_sum s g zero p = 0
good_sum s g (suc k) p = cond (is_good s p) (g p) 0 + good_sum s g k (p + 1)

-- what is said of each good one
module _ {A : Type 0} (s : List ℕ) (f : ℕ → A) where
  -- which parties they are
  pub record Named (k p : ℕ) (a : A) : Type 0 where
    pub number : ℕ
    pub low : p ≤ number
    pub high : number < p + k
    pub good : is_good s number ≡ true
    pub is : a ≡ f number

  later : (k p : ℕ) (a : A) → Named k (p + 1) a → Named (suc k) p a
  later k p a h =
      record { number = h.number; low = omega (arith, h.low); high = omega (arith, h.high); good = h.good; is = h.is }

  pub named : (k p : ℕ) (a : A) → Memᴰ a (each_good s f k p) → Named k p a
  unfolding each_good
  named zero p a h = absurd (Memᴰ.not-nil h)
  named (suc k) p a h = go (way (is_good s p)) (named k (p + 1) a)
    where
      cases : is_good s p ≡ true → (Memᴰ a (each_good s f k (p + 1)) → Named k (p + 1) a)
          → (a ≡ f p) ⊎ Memᴰ a (each_good s f k (p + 1)) → Named (suc k) p a
      cases e r (inl q) = record { number = p; low = omega arith; high = omega arith; good = e; is = q }
      cases e r (inr m) = later k p a (r m)

      go : Way (is_good s p) → (Memᴰ a (each_good s f k (p + 1)) → Named k (p + 1) a) → Named (suc k) p a
      go (on e) r = cases e r (Memᴰ.cases_cons (rw e at h))
      go (off e) r = later k p a (r (rw e at h))

  pub party-in : (k p q : ℕ) → p ≤ q → q < p + k → is_good s q ≡ true → Memᴰ (f q) (each_good s f k p)
  unfolding each_good
  party-in zero p q l h g = absurd (omega arith)
  party-in (suc k) p q l h g = go (ℕ_discrete q p) (way (is_good s p)) (λ d. party-in k (p + 1) q (omega arith) (omega arith) g)
    where
      go : Dec (q ≡ p) → Way (is_good s p) → (q ≢ p → Memᴰ (f q) (each_good s f k (p + 1))) → Memᴰ (f q) (each_good s f (suc k) p)
      go (yes e) (on a) r = rw a (Memᴰ.head (ap f e))
      go (yes e) (off a) r = clash (ap (is_good s) (sym e) ∙ g) a
      go (no d) (on a) r = rw a (Memᴰ.tail (r d))
      go (no d) (off a) r = rw a (r d)

  -- mapped, and summed
  pub mapped : {B : Type 0} (m : A → B) (g : ℕ → B) → ((q : ℕ) → m (f q) ≡ g q) → (k p : ℕ) → map m (each_good s f k p) ≡ each_good s g k p
  unfolding each_good
  mapped m g h zero p = refl
  mapped {B} m g h (suc k) p = go (way (is_good s p)) (mapped m g h k (p + 1))
    where
      go : Way (is_good s p) → map m (each_good s f k (p + 1)) ≡ each_good s g k (p + 1) → map m (each_good s f (suc k) p) ≡ each_good s g (suc k) p
      go (on e) r = rw e (ap₂ {C = List B} (λ (b : B) (l : List B). b ∷ l) (h p) r)
      go (off e) r = rw e r

  pub sum_of : (m : A → ℕ) (g : ℕ → ℕ) (k p : ℕ) → ((q : ℕ) → p ≤ q → q < p + k → is_good s q ≡ true → m (f q) ≡ g q)
      → sum_over m (each_good s f k p) ≡ good_sum s g k p
  unfolding sum_over each_good good_sum
  sum_of m g zero p h = refl
  sum_of m g (suc k) p h = go (way (is_good s p)) (sum_of m g k (p + 1) (λ q l o i. h q (omega arith) (omega arith) i))
    where
      go : Way (is_good s p) → sum_over m (each_good s f k (p + 1)) ≡ good_sum s g k (p + 1) → sum_over m (each_good s f (suc k) p) ≡ good_sum s g (suc k) p
      go (on e) r = rw e (ap₂ (λ (a b : ℕ). a + b) (h p (omega arith) (omega arith) e) r)
      go (off e) r = rw e (r ∙ omega arith)

module _ (s : List ℕ) where
  abbrev numbers_from : ℕ → ℕ → List ℕ
  numbers_from k p = each_good s (λ q. q) k p

  -- a number is borne just where the map names it
  below : (k p j : ℕ) → j < p → among j (numbers_from k p) ≡ false
  unfolding among each_good
  below zero p j l = refl
  below (suc k) p j l = go (way (is_good s p)) (below k (p + 1) j (omega arith))
    where
      go : Way (is_good s p) → among j (numbers_from k (p + 1)) ≡ false → among j (numbers_from (suc k) p) ≡ false
      go (on e) r = rw (e, ne_eqb j p (λ q. omega arith)) r
      go (off e) r = rw e r

  borne : (k p j : ℕ) → p ≤ j → j < p + k → among j (numbers_from k p) ≡ is_good s j
  unfolding among each_good
  borne zero p j l h = absurd (omega arith)
  borne (suc k) p j l h =
      go (ℕ_discrete j p) (way (is_good s p)) (λ d. borne k (p + 1) j (omega arith) (omega arith)) (below k (p + 1) j)
    where
      go : Dec (j ≡ p) → Way (is_good s p) → (j ≢ p → among j (numbers_from k (p + 1)) ≡ is_good s j)
          → (j < p + 1 → among j (numbers_from k (p + 1)) ≡ false) → among j (numbers_from (suc k) p) ≡ is_good s j
      go (yes q) (on e) r t = rw (e, eq-eqb j p q) (sym (ap (is_good s) q ∙ e))
      go (yes q) (off e) r t = rw e (t (omega arith) ∙ sym (ap (is_good s) q ∙ e))
      go (no d) (on e) r t = rw (e, ne_eqb j p d) (r d)
      go (no d) (off e) r t = rw e (r d)

  pub apart : (k p : ℕ) → different (numbers_from k p) ≡ true
  unfolding different each_good
  apart zero p = refl
  apart (suc k) p = go (way (is_good s p)) (apart k (p + 1)) (below k (p + 1) p (omega arith))
    where
      go : Way (is_good s p) → different (numbers_from k (p + 1)) ≡ true → among p (numbers_from k (p + 1)) ≡ false
          → different (numbers_from (suc k) p) ≡ true
      go (on e) r b = rw (e, b) r
      go (off e) r b = rw e r

  -- the absent numbers are those that the map does not name
  absent-unnamed : (k p : ℕ) (js : List ℕ) → ((j : ℕ) → p ≤ j → j < p + k → among j js ≡ is_good s j) → absent k p js ≡ unnamed k p (good_in s)
  unfolding absent unnamed
  absent-unnamed zero p js f = refl
  absent-unnamed (suc k) p js f =
      ap₂ (λ (b : Bool) (i : ℕ). cond b 0 1 + i) (f p (omega arith) (omega arith))
      (absent-unnamed k (p + 1) js (λ j l h. f j (omega arith) (omega arith)))

  pub bad-count : absent (n_in s) 1 (numbers_from (n_in s) 1) ≡ unnamed (n_in s) 1 (good_in s)
  bad-count = absent-unnamed (n_in s) 1 (numbers_from (n_in s) 1) (λ j l h. borne (n_in s) 1 j l h)

  -- a sum of nothing
  pub sum-none : (g : ℕ → ℕ) → ((q : ℕ) → g q ≡ 0) → (k p : ℕ) → good_sum s g k p ≡ 0
  unfolding good_sum
  sum-none g h zero p = refl
  sum-none g h (suc k) p = go (is_good s p) (sum-none g h k (p + 1))
    where
      go : (b : Bool) → good_sum s g k (p + 1) ≡ 0 → cond b (g p) 0 + good_sum s g k (p + 1) ≡ 0
      go true r = omega (arith, r, h p)
      go false r = omega (arith, r)

  -- the bytes sent, by what is sent in the sender's exchange and later
  pub sent-split : (H : List ℕ → List ℕ) (k p : ℕ)
      → sent_from H s k p ≡ good_sum s (λ q. (n_in s - 1) * length (given_by H s q)) k p + good_sum s (sent_later H s) k p
  unfolding sent_from sent_of good_sum
  sent-split H zero p = refl
  sent-split H (suc k) p = go (is_good s p) (sent-split H k (p + 1))
    where
      first : ℕ → ℕ
      first q = (n_in s - 1) * length (given_by H s q)

      go : (b : Bool) → sent_from H s k (p + 1) ≡ good_sum s first k (p + 1) + good_sum s (sent_later H s) k (p + 1)
          → cond b (first p + sent_later H s p) 0 + sent_from H s k (p + 1)
          ≡ cond b (first p) 0 + good_sum s first k (p + 1) + (cond b (sent_later H s p) 0 + good_sum s (sent_later H s) k (p + 1))
      go true r = omega (arith, r)
      go false r = omega (arith, r)
