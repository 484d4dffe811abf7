-- A test and which way it went, to go by cases of it. Assumes nothing.
use mathlib.Core.Path.{◌≡◌, refl, sym, ◌∙◌}
use mathlib.Core.Bool.{Bool, true, false, true≢false}

pub data Way (b : Bool) : Type 0 where
  on : b ≡ true → Way b
  off : b ≡ false → Way b

pub way : (b : Bool) → Way b
way true = on refl
way false = off refl

pub clash : {A : Type 0} {b : Bool} → b ≡ true → b ≡ false → A
clash e f = absurd (true≢false (sym e ∙ f))
