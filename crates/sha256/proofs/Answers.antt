-- What `finish` gives is the answer to the whole message: to one without blocks before its end, and to one whose first block was put together
-- from a front and the bytes behind it. Assumes nothing.
use Rattle.std.proofs.Common.{◌≡◌, ℕ, ◌+◌, ◌-◌, ◌<◌, ◌≤◌, List, ◌++◌, length, take, drop, replicate, sym, ap, ◌∙◌, ap₂, append_assoc, arith, length-append, take-append-drop, length-take-le, take_all}
use Rattle.std.proofs.lemmas.List.{take_rest}
use Rattle.limits.specs.Limits.{max_hashed}
use Rattle.sha256.specs.Sha256.{Hashed}
use Rattle.sha256.specs.Sha256.{pad, compress, initial, sha256, hash_of}
use Rattle.sha256.specs.Rest.{digest_from}
use Rattle.sha256.proofs.Blocks.{digest-block}
use Rattle.sha256.proofs.Laws.{hash-long, hash-fine}

abbrev pub answer : List ℕ → Hashed
answer d = record { cause = 0; digest = d }

-- a message without blocks before it
pub answer_whole : (m d : List ℕ) (n : ℕ) → n ≡ length m → n ≤ max_hashed → d ≡ digest_from initial m n → answer d ≡ hash_of m
unfolding sha256 pad digest_from
answer_whole m d n e h q = ap answer (q ∙ ap (digest_from initial m) e) ∙ sym (hash-fine m (omega arith))

-- the first k bytes of f with s behind them
module _ (f : List ℕ) (k : ℕ) (s : List ℕ) (long : length f ≡ 64) (few : k ≤ 64) where
  length_front : length (take k f ++ s) ≡ k + length s
  length_front = length-append (take k f) s ∙ ap (λ (j : ℕ). j + length s) (length-take-le k f (omega arith))

  pub answer_long : max_hashed < k + length s → record { cause = 4; digest = replicate 32 0 } ≡ hash_of (take k f ++ s)
  answer_long h = sym (hash-long (take k f ++ s) (omega (arith, length_front)))

  -- b is the block that they begin with, as far as it is known
  module _ (b : List ℕ) (begins : take (k + length s) b ≡ take k f ++ take (64 - k) s) (size : length b ≡ 64) (fits : k + length s ≤ max_hashed) where
    -- where they are less than a block
    pub answer_short : (d : List ℕ) → k + length s < 64 → d ≡ digest_from initial (take (k + length s) b) (k + length s)
        → answer d ≡ hash_of (take k f ++ s)
    answer_short d h q =
        let e = begins ∙ ap (λ (l : List ℕ). take k f ++ l) (take_all (64 - k) s (omega arith)) in
        answer_whole (take k f ++ s) d (k + length s) (sym length_front) fits (q ∙ ap (λ (m : List ℕ). digest_from initial m (k + length s)) e)

    -- and where they fill one
    pub answer_behind : (h d : List ℕ) → 64 ≤ k + length s → h ≡ compress initial b
        → d ≡ digest_from h (take (length s - (64 - k)) (drop (64 - k) s)) (k + length s) → answer d ≡ hash_of (take k f ++ s)
    answer_behind h d fill first q =
        let n = k + length s in
        let full : b ++ drop (64 - k) s ≡ take k f ++ s =
        ap (λ (x : List ℕ). x ++ drop (64 - k) s) (sym (take_all n b (omega arith)) ∙ begins)
        ∙ append_assoc (take k f) (take (64 - k) s) (drop (64 - k) s) ∙ ap (λ (x : List ℕ). take k f ++ x) (take-append-drop (64 - k) s)
        in
        answer_whole (take k f ++ s) d n (sym length_front) fits
        (q ∙ ap₂ (λ (x y : List ℕ). digest_from x y n) first (take_rest s (64 - k)) ∙ sym (digest-block initial b (drop (64 - k) s) n size)
        ∙ ap (λ (m : List ℕ). digest_from initial m n) full)
