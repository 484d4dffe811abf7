-- Any b of a message's shares, in their places, rebuild it, whatever stands beyond the b lowest: each column of the frame is a
-- polynomial of b coefficients, and the used shares are its values at b distinct points. Assumes nothing.
use mathlib.Core.Path.{◌≡◌, sym, ap, ◌∙◌}
use mathlib.Core.Bool.{true}
use mathlib.Core.List.{List, [], map}
use Prim.Native.Nat.{ℕ, ◌+◌, ◌-◌, ◌*◌, ◌/◌, ◌%◌, ◌<◌, ◌≤◌}
use native.Mathlib.Nat.{mod-lt, div-lt_iff_lt-mul, div-add-mod'}
use native.Mathlib.Omega.{arith}
use borrow.Author.Tests.{le-ltb}
use lib.ListN.{length, get_or, take, length-map, get_or-map}
use lib.Seq.{length-take-le}
use Rattle.limits.specs.Limits.{max_message, group_cause}
use Rattle.limits.proofs.Group.{group_of}
use Rattle.buffer.specs.Splice.{tabulate}
use Rattle.buffer.proofs.Entries.{length-bodies}
use Rattle.buffer.specs.Entries.{fills, bodies}
use Rattle.buffer.proofs.Tabulate.{tabulate-cong, tabulate-get_or}
use Rattle.polynomial.specs.Polynomial.{through}
use Rattle.polynomial.proofs.Interpolation.{through-cong}
use Rattle.erasure.specs.Bytes.{bytes}
use Rattle.buffer.specs.Bounds.{Bytes}
use Rattle.buffer.specs.Given.{written}
use Rattle.erasure.specs.Coding.{share_length, frame, share}
use Rattle.erasure.specs.Rebuild.{Point, present, point, framed, unframed, joined, recovered, answered, rebuild_of}
use Rattle.erasure.specs.Rebuild.{Recovered, message}
use Rattle.erasure.proofs.Field.{byte-recovers}
use Rattle.erasure.proofs.Other.{other_none}
use Rattle.erasure.proofs.Outcomes.{rebuild-answered}
use Rattle.erasure.proofs.Frame.{share-positive, length-frame, frame-bytes, length-share, get_or-share, unframed-frame}
use Rattle.erasure.proofs.Present.{number_lt, number-distinct, point-used}

module _ (b : ℕ) (m : List ℕ) (es : List (List ℕ)) (low : 1 ≤ b) (few : length es < 256) (small : Bytes m)
    (short : length m ≤ max_message) (enough : b ≤ length (present 1 es))
    (own : (i : ℕ) → i < b → (point (present 1 es) i).share ≡ share b (point (present 1 es) i).number m) where
  s : ℕ
  s = share_length b (length m)

  us : List Point
  us = take b (present 1 es)

  used-share : (i : ℕ) → i < b → (point us i).share ≡ share b (point (present 1 es) i).number m
  unfolding us
  used-share i h = ap (λ (p : Point). p.share) (point-used b (present 1 es) i h) ∙ own i h

  used-length : (i : ℕ) → i < b → length (point us i).share ≡ s
  unfolding s
  used-length i h = ap length (used-share i h) ∙ length-share b (point (present 1 es) i).number m

  -- byte k·s + c of the frame: coefficient k of column c
  column : (k c : ℕ) → k < b → c < s
      → through bytes b (λ i. (point us i).number) (λ i. get_or (point us i).share c 0) k ≡ get_or (frame b m) (k * s + c) 0
  unfolding s us
  column k c hk hc =
      through-cong bytes b (λ i l. ap (λ (p : Point). p.number) (point-used b (present 1 es) i l))
      (λ i l. ap (λ (x : List ℕ). get_or x c 0) (used-share i l) ∙ get_or-share b (point (present 1 es) i).number m c hc) k
      ∙ byte-recovers b (λ i. (point (present 1 es) i).number) (λ k. get_or (frame b m) (k * s + c) 0) (number_lt es few)
      (λ k. frame-bytes b m small (omega arith) (k * s + c)) (number-distinct es b enough) k hk

  framed-frame : framed b s us ≡ frame b m
  unfolding s framed
  framed-frame =
      let p : 1 ≤ s = share-positive b (length m) low in
      let f : ℕ → ℕ = λ i. through bytes b (λ m. (point us m).number) (λ m. get_or (point us m).share (i % s) 0) (i / s) in
      tabulate-cong (b * s) f (λ i. get_or (frame b m) i 0)
      (λ i h. column (i / s) (i % s) ((div-lt_iff_lt-mul p).1 h) (mod-lt i p)
      ∙ ap (λ (n : ℕ). get_or (frame b m) n 0) (div-add-mod' i s))
      ∙ ap (λ (n : ℕ). tabulate n (λ i. get_or (frame b m) i 0)) (sym (length-frame b m low))
      ∙ tabulate-get_or (frame b m) 0

  joined-used : joined b s us ≡ message m
  unfolding joined us point s
  joined-used =
      let n : length us ≡ b = length-take-le b (present 1 es) enough in
      let f : Point → ℕ = λ p. length p.share in
      let d = other_none s (map f us) (λ i h. get_or-map f us i (record { number = 0; share = [] })
      ∙ used-length i (omega (arith, length-map us f))) in
      rw d (ap (unframed b s) framed-frame ∙ unframed-frame b m low short)

  pub complete : recovered b (present 1 es) ≡ message m
  unfolding recovered us s
  complete =
      let h = le-ltb (length (present 1 es)) b enough in
      let l = ap length (own 0 low) ∙ length-share b (point (present 1 es) 0).number m in
      rw (h, l) joined-used

-- the same of n entries, and of what is written
pub rebuild-complete : (n t : ℕ) (m entries out : List ℕ) → group_cause n t ≡ 0 → fills n entries ≡ true → Bytes m
    → length m ≤ max_message → n - t ≤ length (present 1 (bodies n entries))
    → ((i : ℕ) → i < n - t
    → (point (present 1 (bodies n entries)) i).share ≡ share (n - t) (point (present 1 (bodies n entries)) i).number m)
    → rebuild_of n t entries out ≡ written m out
rebuild-complete n t m entries out g f small short enough own =
    let group = group_of n t g in
    rebuild-answered n t entries out g f
    ∙ ap (λ (r : Recovered). answered r out)
    (complete (n - t) m (bodies n entries) (omega arith) (omega (arith, length-bodies n entries)) small short enough own)
