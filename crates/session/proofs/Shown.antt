-- What is printed, by the answer of a rehearsal: refused, the one line; else what was written. Assumes nothing.
use mathlib.Core.Path.{◌≡◌, sym, ap, ap₂, ◌∙◌}
use mathlib.Core.Bool.{Bool, true, false, cond, not}
use mathlib.Core.List.{List}
use Prim.Native.Nat.{ℕ}
use native.Mathlib.Omega.{arith}
use lib.Dec.{eqb, ltb}
use lib.ListN.{length}
use Rattle.buffer.specs.Splice.{spliced}
use Rattle.buffer.specs.Given.{Given, gave, written}
use Rattle.buffer.specs.Given.{Written}
use Rattle.buffer.specs.Given.{Refused, Short, Done}
use Rattle.report.specs.Output.{refused_line, refused_line_of}
use Rattle.party.proofs.Ways.{Way, on, off, way}
use Rattle.session.specs.Session.{session_cause, output, rehearse_of, printed, print_of}

-- what is written is not refused
not-refused : (bs out : List ℕ) (k : ℕ) → (written bs out).answer ≡ Refused k → ⊥
unfolding written
not-refused bs out k = go (ltb (length out) (length bs))
  where
    go : (b : Bool) → (cond b (gave (Short (length bs)) out) (gave (Done (length bs)) (spliced out 0 bs))).answer ≡ Refused k → ⊥
    go true e = let z : ◌≡◌ {A = ℕ} 0 1 = cc in omega arith
    go false e = let z : ◌≡◌ {A = ℕ} 0 1 = cc in omega arith

same-cause : {j k : ℕ} → Refused j ≡ Refused k → j ≡ k
same-cause e = cc

done-apart : {n k : ℕ} → Done n ≡ Refused k → ⊥
done-apart e = let z : ◌≡◌ {A = ℕ} 0 1 = cc in omega arith

short-apart : {n k : ℕ} → Short n ≡ Refused k → ⊥
short-apart e = let z : ◌≡◌ {A = ℕ} 0 1 = cc in omega arith

module _ (H : List ℕ → List ℕ) (s out o : List ℕ) (r : Written) (e : gave r o ≡ rehearse_of H s out) where
  abbrev k : ℕ
  k = session_cause H s

  pub print-refused : (j : ℕ) → r ≡ Refused j → refused_line_of j o ≡ print_of H s out
  unfolding rehearse_of print_of printed refused_line_of
  print-refused j q = go (way (eqb k 0))
    where
      go : Way (eqb k 0) → written (refused_line j) o ≡ written (cond (not (eqb k 0)) (refused_line k) (output H s)) out
      go (on f) =
          let w : gave r o ≡ written (output H s) out = e ∙ rw f in
          absurd (not-refused (output H s) out j (sym (ap (λ (g : Given). g.answer) w) ∙ q))
      go (off f) =
          let w : gave r o ≡ gave (Refused k) out = e ∙ rw f in
          let c : j ≡ k = same-cause (sym q ∙ ap (λ (g : Given). g.answer) w) in
          rw f (ap₂ (λ (i : ℕ) (l : List ℕ). written (refused_line i) l) c (ap (λ (g : Given). g.buffer) w))

  print-other : ((j : ℕ) → r ≡ Refused j → ⊥) → gave r o ≡ print_of H s out
  unfolding rehearse_of print_of printed
  print-other h = go (way (eqb k 0))
    where
      go : Way (eqb k 0) → gave r o ≡ written (cond (not (eqb k 0)) (refused_line k) (output H s)) out
      go (on f) = e ∙ rw f
      go (off f) =
          let w : gave r o ≡ gave (Refused k) out = e ∙ rw f in
          absurd (h k (ap (λ (g : Given). g.answer) w))

module _ (H : List ℕ → List ℕ) (s out o : List ℕ) (n : ℕ) where
  pub print-done : gave (Done n) o ≡ rehearse_of H s out → gave (Done n) o ≡ print_of H s out
  print-done e = print-other H s out o (Done n) e (λ j z. done-apart z)

  pub print-short : gave (Short n) o ≡ rehearse_of H s out → gave (Short n) o ≡ print_of H s out
  print-short e = print-other H s out o (Short n) e (λ j z. short-apart z)
