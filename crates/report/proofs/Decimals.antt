-- Laws of decimal digits: the last one of a number is its remainder, and those before it are the digits of its tenth, if that is not 0.
-- Assumes nothing.
use Rattle.std.proofs.Common.{◌≡◌, ℕ, suc, ◌+◌, ◌/◌, ◌%◌, ◌<◌, ◌≢◌, List, ◌∷◌, ◌++◌, length, take, drop, set, sym, ap, ◌∙◌, arith, lt-ltb, le-ltb, drop_at, length-take-le}
use lib.Seq.{append_snoc, set_split}
use Rattle.report.specs.Output.{digits}

drop-set : (l : List ℕ) (i v : ℕ) → i < length l → drop i (set l i v) ≡ v ∷ drop (suc i) l
drop-set l i v h =
    ap (drop i) (set_split l i v h) ∙ drop_at (take i l) (v ∷ drop (suc i) l) i (length-take-le i l (omega arith))

-- d is the digits of x, and behind them those that are written, from place k on
module _ (d bytes : List ℕ) (k x : ℕ) (e : d ≡ digits k x ++ drop k bytes) where
  pub digits_none : k ≡ 0 → bytes ≡ d
  unfolding digits
  digits_none none = sym (e ∙ ap (λ (j : ℕ). digits j x ++ drop j bytes) none)

  -- with one more before them, there may be none left
  module _ (i : ℕ) (there : k ≡ suc i) (inside : i < length bytes) where
    pub digits_more : x / 10 ≢ 0 → d ≡ digits i (x / 10) ++ drop i (set bytes i (0x30 + x % 10))
    unfolding digits
    digits_more more =
        e ∙ ap (λ (j : ℕ). digits j x ++ drop j bytes) there
        ∙ rw (le-ltb x 10 (omega arith))
        (append_snoc (digits i (x / 10)) (0x30 + x % 10) (drop (suc i) bytes)
        ∙ ap (λ (l : List ℕ). digits i (x / 10) ++ l) (sym (drop-set bytes i (0x30 + x % 10) inside)))

    pub digits_done : x / 10 ≡ 0 → drop i (set bytes i (0x30 + x % 10)) ≡ d
    unfolding digits
    digits_done done =
        drop-set bytes i (0x30 + x % 10) inside
        ∙ sym (e ∙ ap (λ (j : ℕ). digits j x ++ drop j bytes) there ∙ rw (lt-ltb x 10 (omega arith)))
