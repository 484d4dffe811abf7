-- Two messages with the same n shares are one: their shares have one length, so each column of one frame has the values of the
-- other's at b distinct points, and a frame gives its message. Assumes nothing.
use mathlib.Core.Path.{◌≡◌, sym, ap, ap₂, subst, ◌∙◌}
use mathlib.Core.List.{List}
use Prim.Native.Nat.{ℕ, suc, ◌+◌, ◌*◌, ◌/◌, ◌%◌, ◌<◌, ◌≤◌}
use native.Mathlib.Nat.{mod-lt, div-lt_iff_lt-mul, div-add-mod'}
use native.Mathlib.Omega.{arith}
use lib.ListN.{length, get_or}
use lib.Seq.{ext_get_or}
use Rattle.limits.specs.Limits.{max_message}
use Rattle.polynomial.specs.Polynomial.{value}
use Rattle.erasure.specs.Bytes.{bytes}
use Rattle.buffer.specs.Bounds.{Bytes}
use Rattle.erasure.specs.Coding.{share_length, frame, share}
use Rattle.erasure.specs.Rebuild.{unframed, message}
use Rattle.erasure.proofs.Field.{byte-unique}
use Rattle.erasure.proofs.Frame.{share-positive, length-frame, frame-bytes, length-share, get_or-share, unframed-frame}

module _ (b n : ℕ) (m m' : List ℕ) (low : 1 ≤ b) (high : b ≤ n) (few : n < 256) (hm : Bytes m) (hm' : Bytes m')
    (short : length m ≤ max_message) (short' : length m' ≤ max_message)
    (agree : (j : ℕ) → 1 ≤ j → j ≤ n → share b j m ≡ share b j m') where
  s : ℕ
  s = share_length b (length m)

  same_length : share_length b (length m') ≡ s
  unfolding s
  same_length = sym (length-share b 1 m') ∙ sym (ap length (agree 1 (omega arith) (omega arith))) ∙ length-share b 1 m

  -- the value at number j of column c
  same-value : (c j : ℕ) → c < s → 1 ≤ j → j ≤ n
      → value bytes b (λ k. get_or (frame b m) (k * s + c) 0) j ≡ value bytes b (λ k. get_or (frame b m') (k * s + c) 0) j
  unfolding s
  same-value c j hc h l =
      sym (get_or-share b j m c hc) ∙ ap (λ (x : List ℕ). get_or x c 0) (agree j h l)
      ∙ get_or-share b j m' c (omega (arith, same_length))
      ∙ ap (λ (t : ℕ). value bytes b (λ k. get_or (frame b m') (k * t + c) 0) j) same_length

  -- 1, 2, .., which are bytes as far as they are used
  number : ℕ → ℕ
  number i = suc i % 256

  same_byte : (k c : ℕ) → k < b → c < s → get_or (frame b m) (k * s + c) 0 ≡ get_or (frame b m') (k * s + c) 0
  unfolding number
  same_byte k c hk hc =
      byte-unique b number (λ k. get_or (frame b m) (k * s + c) 0) (λ k. get_or (frame b m') (k * s + c) 0) (λ i. omega arith)
      (λ k. frame-bytes b m hm (omega arith) (k * s + c)) (λ k. frame-bytes b m' hm' (omega arith) (k * s + c))
      (λ i j hi hj e. omega arith) (λ j h. same-value c (number j) hc (omega arith) (omega arith)) k hk

  same-frame : frame b m ≡ frame b m'
  unfolding s
  same-frame =
      ext_get_or 0 (frame b m) (frame b m')
      (length-frame b m low ∙ ap (λ (t : ℕ). b * t) (sym same_length) ∙ sym (length-frame b m' low))
      (λ i h.
      let l : i < b * s = subst (λ (t : ℕ). i < t) (length-frame b m low) h in
      let p : 1 ≤ s = share-positive b (length m) low in
      ap (λ (t : ℕ). get_or (frame b m) t 0) (sym (div-add-mod' i s))
      ∙ same_byte (i / s) (i % s) ((div-lt_iff_lt-mul p).1 l) (mod-lt i p)
      ∙ ap (λ (t : ℕ). get_or (frame b m') t 0) (div-add-mod' i s))

  pub injective : m ≡ m'
  unfolding s
  injective =
      let e : message m ≡ message m' =
      sym (unframed-frame b m low short) ∙ ap₂ (unframed b) (sym same_length) same-frame ∙ unframed-frame b m' low short' in
      cc
