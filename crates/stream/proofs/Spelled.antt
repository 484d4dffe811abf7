-- The number that bytes spell, as a fold over them. Assumes nothing.
use Rattle.std.proofs.Common.{◌≡◌, ℕ, ◌+◌, ◌*◌, ◌%◌, ◌^◌, List, [], ◌∷◌, refl, ap, ◌∙◌, arith, fold}
use Rattle.stream.specs.Number.{spelled_after}

abbrev pub step : ℕ → ℕ → ℕ
step v b = (v * 256 % 2 ^ 64 + b) % 2 ^ 64

pub fold_spelled : (v : ℕ) (s : List ℕ) → fold step v s ≡ spelled_after v s
unfolding spelled_after
fold_spelled v [] = refl
fold_spelled v (b ∷ s) =
    let e : step v b ≡ (v * 256 + b) % 2 ^ 64 = omega arith in
    fold_spelled (step v b) s ∙ ap (λ (k : ℕ). spelled_after k s) e
