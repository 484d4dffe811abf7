-- The counting of cases. Assumes nothing.
use Rattle.std.specs.Prelude.{ℕ, ◌+◌, ◌%◌, ◌^◌, Bool, cond, ◌==◌}
use Rattle.stream.specs.declared.Tally.{Tally}

-- the sum of two counts
infixl 72 ◌⊞◌
abbrev pub ◌⊞◌ : ℕ → ℕ → ℕ
x ⊞ y = (x + y) % 2 ^ 64

-- with one more case that agreed, or failed; before the first that failed all agreed, so its number follows theirs
unfoldable pub counted_of : Tally → Bool → Tally
counted_of t good =
    cond good (record { agreed = t.agreed ⊞ 1; failed = t.failed; first = t.first })
    (record { agreed = t.agreed; failed = t.failed ⊞ 1; first = cond (t.first == 0) (t.agreed ⊞ 1) t.first })
