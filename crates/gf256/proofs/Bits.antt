-- Horner's rule over the bits of a, from the highest down, works out the product as it is defined. Assumes nothing.
use mathlib.Core.Path.{◌≡◌, refl, sym, ap, ◌∙◌}
use Prim.Native.Nat.{ℕ, suc, ◌+◌, ◌-◌, ◌*◌, ◌/◌, ◌%◌, ◌^◌, ◌<◌, ◌≤◌}
use native.Mathlib.Nat.{div-one}
use native.Mathlib.Omega.{arith}
use Rattle.std.proofs.lemmas.Nat.{shr-shr}
use lib.Bits.{bit_xor}
use Rattle.gf256.specs.Field.{times_x, product_of, product}
use Rattle.gf256.proofs.Laws.{product-comm}

module _ (a b : ℕ) where
  pub bits_none : 0 ≡ product_of 0 b (a / 2 ^ 8)
  unfolding product_of
  bits_none = refl

  -- the bits from k on, and the one below
  pub bits_more : (k j total : ℕ) → k ≡ j + 1 → k ≤ 8 → total ≡ product_of (8 - k) b (a / 2 ^ k)
      → bit_xor (a / 2 ^ j % 2 * b) (times_x total) ≡ product_of (8 - j) b (a / 2 ^ j)
  unfolding product_of
  bits_more k j total e l h =
      let n : 8 - j ≡ suc (8 - k) = omega arith in
      let half : a / 2 ^ k ≡ a / 2 ^ j / 2 = ap (λ (i : ℕ). a / 2 ^ i) e ∙ sym (shr-shr a j 1) in
      rw n (ap (λ (t : ℕ). bit_xor (a / 2 ^ j % 2 * b) (times_x t)) (h ∙ ap (product_of (8 - k) b) half))

  pub bits_all : (k total : ℕ) → k ≡ 0 → a < 256 → b < 256 → total ≡ product_of (8 - k) b (a / 2 ^ k) → total ≡ product a b
  unfolding product
  bits_all k total e ha hb h =
      h ∙ ap (λ (i : ℕ). product_of (8 - i) b (a / 2 ^ i)) e ∙ ap (product_of 8 b) (div-one a) ∙ product-comm b a hb ha

pub ruleset bits = (bits_none, bits_more, bits_all)
