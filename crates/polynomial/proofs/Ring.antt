-- Small consequences of the laws of a field in which a + a = 0, by rewriting from one law to the next. Assumes nothing.
use mathlib.Core.Path.{◌≡◌, sym, ap, ap₂, ◌∙◌}
use mathlib.Core.Logic.{◌≢◌}
use Rattle.polynomial.specs.Polynomial.{Operations, Laws}

module _ {A : Type 0} (F : Operations A) (L : Laws F) where
  pub nought-add : (a : A) → F.add F.nought a ≡ a
  nought-add a = L.add_comm F.nought a ∙ L.add-nought a

  -- a + (a + b) = b
  pub add-cancel : (a b : A) → F.add a (F.add a b) ≡ b
  add-cancel a b = sym (L.add_assoc a a b) ∙ ap (λ (x : A). F.add x b) (L.add-self a) ∙ nought-add b

  pub add_left_comm : (a b c : A) → F.add a (F.add b c) ≡ F.add b (F.add a c)
  add_left_comm a b c = sym (L.add_assoc a b c) ∙ ap (λ (x : A). F.add x c) (L.add_comm a b) ∙ L.add_assoc b a c

  pub mul_left_comm : (a b c : A) → F.mul a (F.mul b c) ≡ F.mul b (F.mul a c)
  mul_left_comm a b c = sym (L.mul_assoc a b c) ∙ ap (λ (x : A). F.mul x c) (L.mul_comm a b) ∙ L.mul_assoc b a c

  pub mul-nought : (a : A) → F.mul a F.nought ≡ F.nought
  mul-nought a = ap (F.mul a) (sym (L.add-self F.nought)) ∙ L.mul-add a F.nought F.nought ∙ L.add-self (F.mul a F.nought)

  pub nought-mul : (a : A) → F.mul F.nought a ≡ F.nought
  nought-mul a = L.mul_comm F.nought a ∙ mul-nought a

  pub add-mul : (a b c : A) → F.mul (F.add a b) c ≡ F.add (F.mul a c) (F.mul b c)
  add-mul a b c = L.mul_comm (F.add a b) c ∙ L.mul-add c a b ∙ ap₂ F.add (L.mul_comm c a) (L.mul_comm c b)

  -- equal where the sum is 0
  pub add-eq : (a b : A) → F.add a b ≡ F.nought → a ≡ b
  add-eq a b e = sym (L.add-nought a) ∙ ap (F.add a) (sym (L.add-self b)) ∙ sym (L.add_assoc a b b) ∙ ap (λ (x : A). F.add x b) e ∙ nought-add b

  -- no zero divisors
  pub mul-cancel : (a b : A) → a ≢ F.nought → F.mul a b ≡ F.nought → b ≡ F.nought
  mul-cancel a b h e =
      sym (L.mul-one b) ∙ ap (F.mul b) (sym (L.mul-inv a h)) ∙ sym (L.mul_assoc b a (F.inv a))
      ∙ ap (λ (x : A). F.mul x (F.inv a)) (L.mul_comm b a ∙ e) ∙ nought-mul (F.inv a)
