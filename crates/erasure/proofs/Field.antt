-- The bytes are a field, so what holds of polynomials over any field holds of functions whose values are bytes: the laws are
-- proved on the type of numbers below 256, whose first projection commutes with the operations. Assumes nothing.
use mathlib.Core.Path.{◌≡◌, refl, sym, ap, subst, ◌∙◌}
use mathlib.Core.Logic.{◌≢◌}
use mathlib.Core.HLevel.{Σ_prop_path}
use Prim.Native.Nat.{ℕ, zero, suc, ◌<◌}
use native.Mathlib.Nat.{zero-lt-suc}
use native.Mathlib.Omega.{arith}
use lib.Bits.{bit_xor, xor_lt, xor_comm, xor_self, xor_zero_r}
use lib.Dec.{T, ltb, T_prop, ltb→lt, lt→ltb}
use Rattle.gf256.specs.Field.{product, inverse}
use Rattle.gf256.proofs.Xor.{xor_assoc}
use Rattle.gf256.proofs.Laws.{product_lt, product-comm, product-assoc, product-add, product-inverse, product-one, inverse-lt}
use Rattle.polynomial.specs.Polynomial.{Operations, Laws, Distinct, sum, value, basis, through}
use Rattle.polynomial.proofs.Value.{value-cong, value-horner}
use Rattle.polynomial.proofs.Interpolation.{unique, through-value}
use Rattle.polynomial.proofs.Hom.{Hom, hom-value, hom-basis, hom-through}
use Rattle.erasure.specs.Bytes.{bytes}

abbrev Byte : Type 0
Byte = (n : ℕ) × T (ltb n 256)

small : (a : Byte) → a.0 < 256
small a = ltb→lt a.0 256 a.1

make : (n : ℕ) → n < 256 → Byte
make n h = (n, lt→ltb n 256 h)

same : {a b : Byte} → a.0 ≡ b.0 → a ≡ b
same {a} {b} e = Σ_prop_path (λ n. T_prop (ltb n 256)) e

byte_ops : Operations Byte
byte_ops = record {
  add = λ a b. make (bit_xor a.0 b.0) (xor_lt 8 a.0 b.0 (small a) (small b));
  mul = λ a b. make (product a.0 b.0) (product_lt a.0 b.0 (small a));
  nought = (0, tt);
  one = (1, tt);
  inv = λ a. make (inverse a.0) (inverse-lt a.0 (small a));
}

positive : (a : Byte) → a ≢ (0, tt) → 0 < a.0
positive a h = go a.0 a.1 (λ (e : a.0 ≡ 0). h (same e))
  where
    go : (n : ℕ) → T (ltb n 256) → (n ≢ 0) → 0 < n
    go zero t k = absurd (k refl)
    go (suc n) t k = zero-lt-suc n

byte_laws : Laws byte_ops
unfolding byte_ops make
byte_laws = record {
  add_assoc = λ a b c. same (xor_assoc a.0 b.0 c.0);
  add_comm = λ a b. same (xor_comm a.0 b.0);
  add-nought = λ a. same (xor_zero_r a.0);
  add-self = λ a. same (xor_self a.0);
  mul_assoc = λ a b c. same (product-assoc a.0 b.0 c.0 (small a) (small b));
  mul_comm = λ a b. same (product-comm a.0 b.0 (small a) (small b));
  mul-add = λ a b c. same (product-add a.0 b.0 c.0 (small a) (small b) (small c));
  mul-one = λ a. same (product-one a.0 (small a));
  one-not = λ (e : byte_ops.one ≡ byte_ops.nought).
      (let z : ◌≡◌ {A = ℕ} 1 0 = ap (λ (b : Byte). b.0) e in absurd (omega arith));
  mul-inv = λ a h. same (product-inverse a.0 (positive a h) (small a));
}

number : Hom byte_ops bytes (λ (a : Byte). a.0)
unfolding byte_ops make
number = record { on-add = λ a b. refl; on-mul = λ a b. refl; on-nought = refl; on_one = refl; on-inv = λ a. refl }

-- functions whose values are bytes, as functions to the field
lift : (f : ℕ → ℕ) → ((i : ℕ) → f i < 256) → ℕ → Byte
lift f h i = make (f i) (h i)

value-lift : (n : ℕ) (c : ℕ → ℕ) (x : ℕ) (hc : (i : ℕ) → c i < 256) (hx : x < 256)
    → (value byte_ops n (lift c hc) (make x hx)).0 ≡ value bytes n c x
unfolding lift make
value-lift n c x hc hx = hom-value number n (lift c hc) (make x hx)

through-lift : (n : ℕ) (x y : ℕ → ℕ) (hx : (i : ℕ) → x i < 256) (hy : (i : ℕ) → y i < 256) (k : ℕ)
    → (through byte_ops n (lift x hx) (lift y hy) k).0 ≡ through bytes n x y k
unfolding lift make
through-lift n x y hx hy k = hom-through number n (lift x hx) (lift y hy) k

distinct-lift : (n : ℕ) (x : ℕ → ℕ) (hx : (i : ℕ) → x i < 256) → Distinct n x → Distinct n (lift x hx)
unfolding lift make
distinct-lift n x hx d i j hi hj e = d i j hi hj (ap (λ (b : Byte). b.0) e)

pub value-lt : (n : ℕ) (c : ℕ → ℕ) (x : ℕ) → ((i : ℕ) → c i < 256) → x < 256 → value bytes n c x < 256
value-lt n c x hc hx = subst (λ (t : ℕ). t < 256) (value-lift n c x hc hx) (small (value byte_ops n (lift c hc) (make x hx)))

-- the coefficients are bytes whatever the values are: those of Lagrange's polynomials are, and so is a byte times any number
basis-lt : (n : ℕ) (x : ℕ → ℕ) (i k : ℕ) → ((j : ℕ) → x j < 256) → basis bytes n x i k < 256
unfolding lift make
basis-lt n x i k hx = subst (λ (t : ℕ). t < 256) (hom-basis number n (lift x hx) i k) (small (basis byte_ops n (lift x hx) i k))

sum_lt : (n : ℕ) (f : ℕ → ℕ) → ((i : ℕ) → f i < 256) → sum bytes n f < 256
unfolding sum
sum_lt zero f h = omega arith
sum_lt (suc n) f h = xor_lt 8 (sum bytes n f) (f n) (sum_lt n f h) (h n)

pub through-lt : (n : ℕ) (x y : ℕ → ℕ) → ((i : ℕ) → x i < 256) → (k : ℕ) → through bytes n x y k < 256
unfolding through
through-lt n x y hx k = sum_lt n _ (λ i. product_lt (basis bytes n x i k) (y i) (basis-lt n x i k hx))

-- the value by Horner's rule
pub byte-horner : (n : ℕ) (c : ℕ → ℕ) (x : ℕ) → ((i : ℕ) → c i < 256) → x < 256
    → value bytes (suc n) c x ≡ bit_xor (c 0) (product x (value bytes n (λ k. c (suc k)) x))
unfolding lift make byte_ops
byte-horner n c x hc hx =
    sym (value-lift (suc n) c x hc hx)
    ∙ ap (λ (b : Byte). b.0) (value-horner byte_ops byte_laws n (lift c hc) (make x hx))
    ∙ ap (λ (t : ℕ). bit_xor (c 0) (product x t)) (value-lift n (λ k. c (suc k)) x (λ i. hc (suc i)) hx)

-- the polynomial through n points meets them
pub byte-through-value : (n : ℕ) (x y : ℕ → ℕ) → ((i : ℕ) → x i < 256) → ((i : ℕ) → y i < 256) → Distinct n x
    → (j : ℕ) → j < n → value bytes n (through bytes n x y) (x j) ≡ y j
unfolding lift make
byte-through-value n x y hx hy d j h =
    sym (value-cong bytes n (x j) (λ k l. through-lift n x y hx hy k))
    ∙ sym (hom-value number n (through byte_ops n (lift x hx) (lift y hy)) (lift x hx j))
    ∙ ap (λ (b : Byte). b.0) (through-value byte_ops byte_laws n (lift x hx) (lift y hy) (distinct-lift n x hx d) j h)

-- equal values at n distinct points: equal coefficients
pub byte-unique : (n : ℕ) (x p q : ℕ → ℕ) → ((i : ℕ) → x i < 256) → ((i : ℕ) → p i < 256) → ((i : ℕ) → q i < 256)
    → Distinct n x → ((j : ℕ) → j < n → value bytes n p (x j) ≡ value bytes n q (x j)) → (k : ℕ) → k < n → p k ≡ q k
unfolding lift make
byte-unique n x p q hx hp hq d e k h =
    ap (λ (b : Byte). b.0)
    (unique byte_ops byte_laws n (lift x hx) (lift p hp) (lift q hq) (distinct-lift n x hx d)
    (λ j l. same (value-lift n p (x j) hp (hx j) ∙ e j l ∙ sym (value-lift n q (x j) hq (hx j)))) k h)

-- from the values at n distinct points, the n coefficients
pub byte-recovers : (n : ℕ) (x p : ℕ → ℕ) → ((i : ℕ) → x i < 256) → ((i : ℕ) → p i < 256) → Distinct n x
    → (k : ℕ) → k < n → through bytes n x (λ j. value bytes n p (x j)) k ≡ p k
byte-recovers n x p hx hp d =
    let hy : (i : ℕ) → value bytes n p (x i) < 256 = λ i. value-lt n p (x i) hp (hx i) in
    byte-unique n x (through bytes n x (λ j. value bytes n p (x j))) p hx (through-lt n x (λ j. value bytes n p (x j)) hx) hp d
    (byte-through-value n x (λ j. value bytes n p (x j)) hx hy d)
