-- The cases of document 01 that are marked P, in one table over the definitions that contracts cite. The numbers are document 01's own, but
-- for the greatest length of a message. Assumes nothing.
use Rattle.std.specs.Prelude.{◌≡◌, List, [], ◌∷◌, map, ℕ, ◌+◌, length}
use Rattle.limits.specs.Limits.{max_message}
use Rattle.sha256.specs.Sha256.{sha256}
use Rattle.erasure.specs.Cases as erasure
use Rattle.merkle.specs.Answer.{counted}
use Rattle.merkle.specs.Shares.{path_length_of}
use Rattle.merkle.specs.Answer.{Hashes}
use Rattle.party.specs.Steps.{open_of}

-- the cause of an opening with n, t, number 1 and a message, under session number 0
abbrev pub cause_of : ℕ → ℕ → List ℕ → ℕ
cause_of n t m = (open_of sha256 0 n t 1 m).cause

pub record Cases : Type 0 where
  -- the field, the shares and the rebuilding
  pub coding : erasure.Cases
  -- path lengths for n 3: 2, 2, 1
  pub path-lengths : map (path_length_of 3) (1 ∷ 2 ∷ 3 ∷ []) ≡ map (λ (k : ℕ). counted (Hashes k)) (2 ∷ 2 ∷ 1 ∷ [])
  -- n 16, t 7 taken; t 8 is cause 2. n 17 is cause 1
  pub sixteen : cause_of 16 7 [] ≡ 0
  pub eight-faults : cause_of 16 8 [] ≡ 2
  pub seventeen : cause_of 17 7 [] ≡ 1
  -- a book of the greatest length is taken, one with a byte more is cause 4
  pub longest : (m : List ℕ) → length m ≡ max_message → cause_of 3 1 m ≡ 0
  pub too_long : (m : List ℕ) → length m ≡ max_message + 1 → cause_of 3 1 m ≡ 4
