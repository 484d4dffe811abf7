-- After each turn each byte is the sum over the shares passed.
use Rattle.std.proofs.Common.{◌≡◌, ℕ, ◌+◌, ◌*◌, ◌/◌, ◌%◌, length, take, get_or, sym, ap, ap₂, ◌∙◌, arith, length-take-le}
use Rattle.std.specs.Int.Bits.{bit_xor}
use borrow.Author.Rules.{rules}
use native.Mathlib.Nat.{div-add-mod'}
use native.Mathlib.Numerals.{add-one}
use lib.Seq.{get_or-take}
use Rattle.limits.specs.Limits.{max_parties}
use Rattle.gf256.specs.Field.{product}
use Rattle.polynomial.specs.Polynomial.{sum, basis, through}
use Rattle.erasure.specs.Bytes.{bytes}
use Rattle.erasure.specs.Rebuild.{Point, point, framed}
use Rattle.erasure.specs.Arrays.{points, number_of}
use Rattle.erasure.proofs.Arrays.{all-zero, take-table, block-lt, byte-lt}
use Rattle.erasure.proofs.Points.{none, point_at}
use Rattle.erasure.proofs.whole_frame.Goals as goal

sum_more : (m : ℕ) (f : ℕ → ℕ) (x : ℕ) → x ≡ sum bytes m f → bit_xor x (f m) ≡ sum bytes (m + 1) f
unfolding sum
sum_more m f x e = ap (λ (y : ℕ). bit_xor y (f m)) e ∙ ap (λ (n : ℕ). sum bytes n f) (sym (add-one m))

pub loop-m-init : goal.loop-m-init
unfolding sum
loop-m-init c = (search rules, λ k i h g. c.requires.3 (k * c.args.s + i))

pub add_share-requires : goal.add_share-requires
add_share-requires c =
    let xs = c.args.shares.now in
    let b = length xs in
    let cs = c.basis_of-row.result in
    let whole : length cs ≡ max_parties = search rules in
    let long : length (take b cs) ≡ b = length-take-le b cs (omega arith) in
    let each : length (get_or xs c.loop-m.m none).bytes.now ≡ c.args.s =
    ap (λ (p : Point). length p.share) (sym (point_at xs c.loop-m.m c.loop-m-test.true)) ∙ c.requires.2 c.loop-m.m c.loop-m-test.true in
    rw (long, each) (omega arith)

pub loop-m-preserved : goal.loop-m-preserved
loop-m-preserved c = (
  c.add_share.auto.frame ∙ c.loop-m.invariant.0,
  λ k i h g.
      let l = c.loop-m in
      let s = c.args.s in
      let xs = c.args.shares.now in
      let b = length xs in
      let row = c.basis_of-row.result in
      let u = (get_or xs l.m none).bytes.now in
      let at = point_at xs l.m c.loop-m-test.true in
      let whole : length row ≡ max_parties = search rules in
      let long : length (take b row) ≡ b = length-take-le b row (omega arith) in
      let each : length u ≡ s = ap (λ (p : Point). length p.share) (sym at) ∙ c.requires.2 l.m c.loop-m-test.true in
      let f : ℕ → ℕ = λ q. product (basis bytes b (number_of xs) q k) (get_or (point (points xs) q).share i 0) in
      let z : ℕ = get_or l.frame (k * s + i) 0 in
      ap (λ n. get_or c.add_share.new.frame (k * n + i) 0) (sym each)
      ∙ c.add_share.ensures k i (omega (arith, long)) (omega (arith, each))
      ∙ ap₂ bit_xor (ap (λ n. get_or l.frame (k * n + i) 0) each)
      (ap₂ product (get_or-take b row k 0 h ∙ c.basis_of-row.ensures k (omega arith)) (ap (λ (p : Point). get_or p.share i 0) (sym at)))
      ∙ sum_more l.m f z (l.invariant.1 k i h g),
)

pub returns : goal.returns
unfolding framed through
returns c =
    let s = c.args.s in
    let xs = c.args.shares.now in
    let b = length xs in
    let all : c.loop-m.m ≡ b = omega arith in
    let f : ℕ → ℕ → ℕ → ℕ = λ i j m. product (basis bytes b (number_of xs) m i) (get_or (point (points xs) m).share j 0) in
    take-table c.loop-m.frame (b * s) (λ i. sum bytes b (f (i / s) (i % s))) (omega arith)
    (λ i h. ap (λ (n : ℕ). get_or c.loop-m.frame n 0) (sym (div-add-mod' i s))
    ∙ c.loop-m.invariant.1 (i / s) (i % s) (block-lt b s i h) (byte-lt b s i h)
    ∙ ap (λ (n : ℕ). sum bytes n (f (i / s) (i % s))) all)
