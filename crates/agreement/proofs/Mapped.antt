-- Laws of lists that are mapped: their members, sums and joined lists. By induction on the list. Assumes nothing.
use mathlib.Core.Path.{◌≡◌, refl, ap, ap₂, subst, sym}
use mathlib.Core.List.Memᴰ
use mathlib.Core.List.{List, [], ◌∷◌, ◌++◌, map, Memᴰ}
use Prim.Native.Nat.{ℕ, ◌+◌}
use Rattle.agreement.specs.Agreement.{sum_over, join_over}

module _ {A B : Type 0} (f : A → B) where
  pub in_map : {a : A} {l : List A} → Memᴰ a l → Memᴰ (f a) (map f l)
  in_map (Memᴰ.head e) = Memᴰ.head (ap f e)
  in_map (Memᴰ.tail h) = Memᴰ.tail (in_map h)

  -- what holds of all that are mapped holds of all that they are mapped to
  pub all_map : (P : B → Type 0) (l : List A) → ((a : A) → Memᴰ a l → P (f a)) → (b : B) → Memᴰ b (map f l) → P b
  all_map P [] h b k = absurd (Memᴰ.not-nil k)
  all_map P (a ∷ l) h b (Memᴰ.head e) = subst P (sym e) (h a (Memᴰ.head refl))
  all_map P (a ∷ l) h b (Memᴰ.tail k) = all_map P l (λ c i. h c (Memᴰ.tail i)) b k

  pub map-map : {C : Type 0} (g : B → C) (l : List A) → map g (map f l) ≡ map (λ (a : A). g (f a)) l
  map-map g [] = refl
  map-map g (a ∷ l) = ap (λ v. g (f a) ∷ v) (map-map g l)

  pub sum-map : (g : B → ℕ) (h : A → ℕ) → ((a : A) → g (f a) ≡ h a) → (l : List A) → sum_over g (map f l) ≡ sum_over h l
  unfolding sum_over
  sum-map g h e [] = refl
  sum-map g h e (a ∷ l) = ap₂ (λ (x y : ℕ). x + y) (e a) (sum-map g h e l)

  pub join-map : (g : B → List (List ℕ)) (l : List A) → join_over g (map f l) ≡ join_over (λ (a : A). g (f a)) l
  unfolding join_over
  join-map g [] = refl
  join-map g (a ∷ l) = ap (λ (v : List (List ℕ)). g (f a) ++ v) (join-map g l)

-- two maps that agree on a list
pub map_same : {A B : Type 0} (f g : A → B) (l : List A) → ((a : A) → Memᴰ a l → f a ≡ g a) → map f l ≡ map g l
map_same f g [] h = refl
map_same f g (a ∷ l) h = ap₂ (λ b v. b ∷ v) (h a (Memᴰ.head refl)) (map_same f g l (λ c k. h c (Memᴰ.tail k)))
