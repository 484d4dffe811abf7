-- Laws of the lists that a session is told by: numbers that are borne or absent, sums and lists joined over parties, lengths of packets, and
-- the shares present. By induction on the lists. Assumes nothing.
use mathlib.Core.Path.{◌≡◌, refl, sym, ap, ◌∙◌, subst}
use mathlib.Core.Logic.{◌⊎◌, inl, inr, ◌≢◌}
use mathlib.Core.Bool.{Bool, true, false, cond, false≢true}
use mathlib.Core.List.Memᴰ
use mathlib.Core.List.{List, [], ◌∷◌, ◌++◌, map, Memᴰ}
use mathlib.Core.Option.{Option, some, none-ne-some}
use Prim.Native.Nat.{ℕ, zero, suc, ◌+◌, ◌-◌, ◌*◌, ◌≤◌, ◌<◌}
use native.Mathlib.Nat.{add-zero}
use native.Mathlib.Decide.{ℕ_discrete}
use native.Mathlib.Omega.{arith}
use borrow.Author.Tests.{eqb-true, eq-eqb}
use lib.Dec.{eqb}
use lib.ListN.{length, get_or, replicate}
use Rattle.buffer.specs.Splice.{tabulate}
use Rattle.erasure.specs.Rebuild.{present}
use Rattle.party.proofs.Ways.{Way, on, off, way, clash}
use Rattle.agreement.specs.Calls.{agree_root, agree_bit, step_of, Event, first, lengths}
use Rattle.agreement.specs.Agreement.{among, different, absent, sum_over, join_over}

-- lengths of packets
lengths-more : (ps : List (List ℕ)) (p : List ℕ) → lengths (ps ++ (p ∷ [])) ≡ lengths ps + length p
unfolding lengths
lengths-more [] p = omega arith
lengths-more (q ∷ ps) p = omega (arith, lengths-more ps p)

pub lengths_none : (n : ℕ) → lengths (replicate n []) ≡ 0
unfolding lengths
lengths_none zero = refl
lengths_none (suc n) = omega (arith, lengths_none n)

-- n packets of at most K bytes each; and with one of them empty
lengths-below : (n K : ℕ) (f : ℕ → List ℕ) → ((j : ℕ) → j < n → length (f j) ≤ K) → lengths (tabulate n f) ≤ n * K
unfolding lengths tabulate
lengths-below zero K f h = omega arith
lengths-below (suc n) K f h =
    omega (arith, lengths-more (tabulate n f) (f n), lengths-below n K f (λ j l. h j (omega arith)), h n (omega arith))

lengths-but : (n K i : ℕ) (f : ℕ → List ℕ) → i < n → ((j : ℕ) → j < n → length (f j) ≤ K) → f i ≡ []
    → lengths (tabulate n f) + K ≤ n * K
unfolding lengths tabulate
lengths-but zero K i f l h e = absurd (omega arith)
lengths-but (suc n) K i f l h e = go (ℕ_discrete i n) (λ k. lengths-but n K i f k (λ j o. h j (omega arith)) e)
  where
    go : Dec (i ≡ n) → (i < n → lengths (tabulate n f) + K ≤ n * K) → lengths (tabulate n f ++ (f n ∷ [])) + K ≤ suc n * K
    go (yes q) r =
        let z : length (f n) ≡ 0 = ap length (ap f (sym q) ∙ e) in
        omega (arith, lengths-more (tabulate n f) (f n), lengths-below n K f (λ j k. h j (omega arith)))
    go (no d) r = omega (arith, lengths-more (tabulate n f) (f n), r (omega arith), h n (omega arith))

less_one : (k K x : ℕ) → x + K ≤ suc k * K → x ≤ k * K
less_one k K x h = omega arith

pub lengths-others : (n K i : ℕ) (f : ℕ → List ℕ) → i < n → ((j : ℕ) → j < n → length (f j) ≤ K) → f i ≡ []
    → lengths (tabulate n f) ≤ (n - 1) * K
lengths-others n K i f l h e =
    let m : n ≡ suc (n - 1) = omega arith in
    less_one (n - 1) K (lengths (tabulate n f)) (subst (λ (k : ℕ). lengths (tabulate n f) + K ≤ k * K) m (lengths-but n K i f l h e))

-- sums and joined lists
pub sum_below : {A : Type 0} (f : A → ℕ) (K : ℕ) (l : List A) → ((a : A) → Memᴰ a l → f a ≤ K) → sum_over f l ≤ length l * K
unfolding sum_over
sum_below f K [] h = omega arith
sum_below f K (a ∷ l) h = omega (arith, sum_below f K l (λ b k. h b (Memᴰ.tail k)), h a (Memᴰ.head refl))

pub sum-none : {A : Type 0} (f : A → ℕ) (l : List A) → ((a : A) → Memᴰ a l → f a ≡ 0) → sum_over f l ≡ 0
unfolding sum_over
sum-none f [] h = refl
sum-none f (a ∷ l) h = omega (arith, sum-none f l (λ b k. h b (Memᴰ.tail k)), h a (Memᴰ.head refl))

pub in-join : {A : Type 0} (f : A → List (List ℕ)) {x : List ℕ} {a : A} {l : List A} → Memᴰ a l → Memᴰ x (f a)
    → Memᴰ x (join_over f l)
unfolding join_over
in-join f {x = x} (Memᴰ.head {x = b} {xs = l} e) k = Memᴰ.append_left (join_over f l) (subst (λ c. Memᴰ x (f c)) e k)
in-join f (Memᴰ.tail {x = b} {xs = l} h) k = Memᴰ.append_right (f b) (in-join f h k)

-- what holds of the first and of the rest holds of all
pub on-cons : {A : Type 0} (P : A → Type 0) (d : A) (l : List A) → P d → ((a : A) → Memᴰ a l → P a) → (a : A) → Memᴰ a (d ∷ l) → P a
on-cons P d l p f a (Memᴰ.head e) = subst P (sym e) p
on-cons P d l p f a (Memᴰ.tail h) = f a h

-- a search
pub find : {A : Type 0} (f : A → Bool) (l : List A)
    → ((a : A) × Memᴰ a l × (f a ≡ true)) ⊎ ((a : A) → Memᴰ a l → f a ≡ false)
find f [] = inr (λ a h. absurd (Memᴰ.not-nil h))
find {A} f (b ∷ l) = go (way (f b)) (find f l)
  where
    go : Way (f b) → ((a : A) × Memᴰ a l × (f a ≡ true)) ⊎ ((a : A) → Memᴰ a l → f a ≡ false)
        → ((a : A) × Memᴰ a (b ∷ l) × (f a ≡ true)) ⊎ ((a : A) → Memᴰ a (b ∷ l) → f a ≡ false)
    go (on e) r = inl (b, Memᴰ.head refl, e)
    go (off e) (inl r) = inl (r.0, Memᴰ.tail r.1, r.2)
    go (off e) (inr r) = inr both
      where
        both : (a : A) → Memᴰ a (b ∷ l) → f a ≡ false
        both a (Memᴰ.head q) = ap f q ∙ e
        both a (Memᴰ.tail h) = r a h

-- numbers that are borne
among_in : {A : Type 0} (f : A → ℕ) {a : A} {l : List A} → Memᴰ a l → among (f a) (map f l) ≡ true
unfolding among
among_in f (Memᴰ.head {x = b} {xs = l} e) = rw (eq-eqb _ _ (ap f e))
among_in f {a = a} (Memᴰ.tail {x = b} {xs = l} h) = go (eqb (f a) (f b)) (among_in f h)
  where
    go : (x : Bool) → among (f a) (map f l) ≡ true → cond x true (among (f a) (map f l)) ≡ true
    go true r = refl
    go false r = r

pub among-out : {A : Type 0} (f : A → ℕ) (j : ℕ) (l : List A) → among j (map f l) ≡ true → (a : A) × Memᴰ a l × (j ≡ f a)
unfolding among
among-out f j [] e = absurd (false≢true e)
among-out {A} f j (b ∷ l) e = go (way (eqb j (f b))) (among-out f j l)
  where
    go : Way (eqb j (f b)) → (among j (map f l) ≡ true → (a : A) × Memᴰ a l × (j ≡ f a)) → (a : A) × Memᴰ a (b ∷ l) × (j ≡ f a)
    go (on q) r = (b, Memᴰ.head refl, eqb-true j (f b) q)
    go (off q) r = let s = r (rw q at e) in (s.0, Memᴰ.tail s.1, s.2)

-- where all are different, two with one number are one
not_first : (x y : Bool) → cond x false y ≡ true → (x ≡ false) × (y ≡ true)
not_first true y e = absurd (false≢true e)
not_first false y e = (refl, e)

pub one_each : {A : Type 0} (f : A → ℕ) {a b : A} (l : List A) → different (map f l) ≡ true → Memᴰ a l → Memᴰ b l → f a ≡ f b
    → a ≡ b
unfolding different
one_each f [] d h k e = absurd (Memᴰ.not-nil h)
one_each {A} f {a} {b} (c ∷ l) d h k e =
    go (Memᴰ.cases_cons h) (Memᴰ.cases_cons k)
    (λ u v. one_each f l (not_first (among (f c) (map f l)) (different (map f l)) d).1 u v e)
  where
    never : {x : A} → Memᴰ x l → f c ≡ f x → a ≡ b
    never m q =
        clash (ap (λ (y : ℕ). among y (map f l)) q ∙ among_in f m) (not_first (among (f c) (map f l)) (different (map f l)) d).0

    go : (a ≡ c) ⊎ Memᴰ a l → (b ≡ c) ⊎ Memᴰ b l → (Memᴰ a l → Memᴰ b l → a ≡ b) → a ≡ b
    go (inl p) (inl q) r = p ∙ sym q
    go (inl p) (inr v) r = never v (ap f (sym p) ∙ e)
    go (inr u) (inl q) r = never u (ap f (sym q) ∙ sym e)
    go (inr u) (inr v) r = r u v

-- a sum to which only the member with number q adds, if there is one, and no more than k
pub sum_one : {A : Type 0} (own f : A → ℕ) (q k : ℕ) (l : List A) → different (map own l) ≡ true
    → ((a : A) → Memᴰ a l → own a ≢ q → f a ≡ 0) → ((a : A) → Memᴰ a l → own a ≡ q → f a ≤ k) → sum_over f l ≤ k
unfolding sum_over different
sum_one own f q k [] d others one = omega arith
sum_one {A} own f q k (c ∷ l) d others one =
    let r = not_first (among (own c) (map own l)) (different (map own l)) d in
    elim (ℕ_discrete (own c) q) [
      | yes e ↦ omega (
        arith,
        one c (Memᴰ.head refl) e,
        sum-none f l (λ a h. others a (Memᴰ.tail h)
            (λ p. clash (ap (λ (y : ℕ). among y (map own l)) (e ∙ sym p) ∙ among_in own h) r.0)),
      )
      | no n ↦ omega (
        arith,
        others c (Memᴰ.head refl) n,
        sum_one own f q k l r.1 (λ a h. others a (Memᴰ.tail h)) (λ a h. one a (Memᴰ.tail h)),
      )
    ]

-- where each number that is borne has its share, as many shares are present as numbers are not absent
pub present-borne : (gs : List (List ℕ)) (j : ℕ) (js : List ℕ)
    → ((k : ℕ) → k < length gs → among (j + k) js ≡ true → 1 ≤ length (get_or gs k []))
    → length gs ≤ length (present j gs) + absent (length gs) j js
unfolding present absent
present-borne [] j js h = omega arith
present-borne (g ∷ gs) j js h =
    go (way (eqb (length g) 0)) (way (among j js))
    (present-borne gs (j + 1) js (λ k l q. let e : j + suc k ≡ j + 1 + k = omega arith in
    h (suc k) (omega arith) (ap (λ (u : ℕ). among u js) e ∙ q)))
  where
    go : Way (eqb (length g) 0) → Way (among j js)
        → length gs ≤ length (present (j + 1) gs) + absent (length gs) (j + 1) js
        → length (g ∷ gs) ≤ length (present j (g ∷ gs)) + absent (length (g ∷ gs)) j js
    go (off e) (on a) r = rw (e, a) (omega arith)
    go (off e) (off a) r = rw (e, a) (omega arith)
    go (on e) (off a) r = rw (e, a) (omega arith)
    go (on e) (on a) r =
        let z : length g ≡ 0 = eqb-true (length g) 0 e in
        absurd (omega (arith, h 0 (omega arith) (ap (λ (u : ℕ). among u js) (add-zero j) ∙ a)))

pub same_some : {A : Type 0} {x y : A} → ◌≡◌ {A = Option A} (some x) (some y) → x ≡ y
same_some p = cc

-- calls that are the same have the same root, or bit
pub same-root : {y z : List ℕ} → agree_root y ≡ agree_root z → y ≡ z
same-root e = cc

pub one_bit : {a b : ℕ} {x y : List ℕ} → agree_bit a x ≡ agree_bit b y → a ≡ b
one_bit e = cc

-- the first event of step k is one of them, and of that step
pub first-in : (k : ℕ) (es : List Event) (e : Event) → first k es ≡ some e → Memᴰ e es × (step_of e.call ≡ k)
unfolding first
first-in k [] e q = absurd (none-ne-some e q)
first-in k (d ∷ es) e q = go (way (eqb (step_of d.call) k)) (first-in k es e)
  where
    go : Way (eqb (step_of d.call) k) → (first k es ≡ some e → Memᴰ e es × (step_of e.call ≡ k))
        → Memᴰ e (d ∷ es) × (step_of e.call ≡ k)
    go (on y) r =
        let w : d ≡ e = same_some (rw y at q) in
        (Memᴰ.head (sym w), ap (λ (v : Event). step_of v.call) (sym w) ∙ eqb-true (step_of d.call) k y)
    go (off y) r = let t = r (rw y at q) in (Memᴰ.tail t.0, t.1)
