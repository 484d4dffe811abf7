-- Entries of an inbox as they are written: a length put before its packet, and an entry put behind those before it. Assumes nothing.
use mathlib.Core.Path.{◌≡◌, refl, sym, ap, ap₂, ◌∙◌}
use mathlib.Core.List.{List, [], ◌∷◌, ◌++◌, append_assoc}
use Prim.Native.Nat.{ℕ, ◌+◌, ◌/◌, ◌%◌, ◌≤◌, ◌<◌}
use native.Mathlib.Nat.{zero-add}
use native.Mathlib.Numerals.{add-one}
use native.Mathlib.Omega.{arith}
use lib.ListN.{length, take, drop, length-append}
use lib.Seq.{length-take-le, take-append-le, take-take, drop_at}
use Rattle.buffer.specs.Splice.{spliced, tabulate}
use Rattle.buffer.proofs.Splice.{spliced-more}
use Rattle.packet.specs.Format.{entry_of}
use Rattle.packet.specs.Inbox.{inbox_of}
use Rattle.packet.proofs.Inbox.{inbox-more}

-- bytes put before those that were written
spliced-before : (d : List ℕ) (at : ℕ) (h p : List ℕ) → at + length h ≤ length d
    → spliced (spliced d (at + length h) p) at h ≡ spliced d at (h ++ p)
unfolding spliced
spliced-before d at h p inside =
    let back : List ℕ = drop (at + length h + length p) d in
    let front : List ℕ = take (at + length h) d in
    let long : length front ≡ at + length h = length-take-le (at + length h) d inside in
    let both : at + length h + length p ≡ at + length (h ++ p) = omega (arith, length-append h p) in
    ap₂ (λ (u v : List ℕ). u ++ (h ++ v))
    (take-append-le at front (p ++ back) (omega arith) ∙ take-take at (at + length h) d (omega arith))
    (drop_at front (p ++ back) (at + length h) long)
    ∙ ap (λ (l : List ℕ). take at d ++ l)
    (sym (append_assoc h p back) ∙ ap (λ (k : ℕ). (h ++ p) ++ drop k d) both)

-- a length before its packet
pub entry-headed : (o w : List ℕ) (len : ℕ) → 2 ≤ length o → len ≡ length w → len < 65536
    → spliced (spliced o 2 w) 0 (len / 256 % 256 ∷ len % 256 ∷ []) ≡ spliced o 0 (entry_of w)
unfolding entry_of
entry-headed o w len inside e short =
    let high : len / 256 % 256 ≡ len / 256 = omega arith in
    ap (λ (k : ℕ). spliced (spliced o 2 w) 0 (k ∷ len % 256 ∷ [])) high
    ∙ ap (λ (k : ℕ). spliced (spliced o 2 w) 0 (k / 256 ∷ k % 256 ∷ [])) e
    ∙ spliced-before o 0 (length w / 256 ∷ length w % 256 ∷ []) w inside

-- the inbox of the packets f 0, f 1, .., so far
module _ (f : ℕ → List ℕ) where
  pub inbox-none : inbox_of (tabulate 0 f) ≡ []
  unfolding tabulate inbox_of
  inbox-none = refl

  pub inbox-next : (k : ℕ) → inbox_of (tabulate (k + 1) f) ≡ inbox_of (tabulate k f) ++ entry_of (f k)
  unfolding tabulate
  inbox-next k = ap (λ (i : ℕ). inbox_of (tabulate i f)) (add-one k) ∙ inbox-more (tabulate k f) (f k)

  -- an entry written behind those before it
  pub inbox-written : (k at : ℕ) (o o' : List ℕ) → at ≡ length (inbox_of (tabulate k f)) → at ≤ length o
      → o' ≡ spliced (spliced o 0 (inbox_of (tabulate k f))) at (entry_of (f k)) → o' ≡ spliced o 0 (inbox_of (tabulate (k + 1) f))
  inbox-written k at o o' e inside w =
      let x : List ℕ = inbox_of (tabulate k f) in
      w ∙ ap (λ (i : ℕ). spliced (spliced o 0 x) i (entry_of (f k))) (e ∙ sym (zero-add (length x)))
      ∙ spliced-more o 0 x (entry_of (f k)) (omega arith) ∙ ap (spliced o 0) (sym (inbox-next k))
