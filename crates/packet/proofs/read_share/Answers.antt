-- `packet::read_share` meets its contract: each return is one outcome of the definition, at the packet's place. Assumes nothing.
use mathlib.Core.Path.{◌≡◌, sym, ap, ◌∙◌}
use Prim.Native.Nat.{ℕ, ◌-◌}
use native.Mathlib.Omega.{arith}
use lib.ListN.{length, drop, length-drop}
use Rattle.merkle.specs.Shares.{sides_of}
use Rattle.merkle.specs.Answer.{count_said}
use Rattle.packet.specs.Format.{number_in, length_in, count_in}
use Rattle.packet.specs.Answer.{placed}
use Rattle.packet.proofs.Reading.{number_at, length_at, placed-told, count-hashes, few_hashes}
use Rattle.packet.proofs.Reading.{share-empty, share-long, share-misfit}
use Rattle.packet.proofs.read_share.Goals as goal
use Rattle.packet.proofs.read_share.Goals.{then-stated-lt1-via-then-stated-lt1, then-stated-lt1-via-else-stated-lt1+then-stated-gt-MAX_SHARE, then-stated-lt1-via-else-stated-lt1+else-stated-gt-MAX_SHARE+then-size-stated}

pub overflow_mul-count : goal.overflow_mul-count
overflow_mul-count c = omega (arith, few_hashes _ _ _ _ c.path_length.ensures (ap count_said c.in-Ok.is))

pub overflow_add-stated-else-stated-gt-MAX_SHARE : goal.overflow_add-stated-else-stated-gt-MAX_SHARE
overflow_add-stated-else-stated-gt-MAX_SHARE c = omega (arith, few_hashes _ _ _ _ c.path_length.ensures (ap count_said c.in-Ok.is))

pub returns-then-stated-lt1 : goal.returns-then-stated-lt1
returns-then-stated-lt1 c =
    let a = c.args in
    let p = drop a.at a.s.now in
    let number : number_in p ≡ c.from-number.result = omega (arith, number_at a.s.now a.at) in
    let stated : length_in p ≡ c.size_at-stated.result = length_at a.s.now a.at ∙ sym c.size_at-stated.ensures in
    let h = count-hashes _ _ c.requires.0 c.requires.1 _ c.path_length.ensures _ (ap count_said c.in-Ok.is) in
    let count : count_in a.n p ≡ c.in-Ok.count = ap (λ (j : ℕ). length (sides_of a.n j)) number ∙ sym h.2 in
    sym (ap (placed a.at) (elim c.then-stated-lt1.branch [
      | then-stated-lt1-via-then-stated-lt1 w ↦ share-empty a.n p (omega arith)
      | then-stated-lt1-via-else-stated-lt1+then-stated-gt-MAX_SHARE w ↦ share-long a.n p (omega arith)
      | then-stated-lt1-via-else-stated-lt1+else-stated-gt-MAX_SHARE+then-size-stated w ↦ share-misfit a.n p
          (λ q. omega (arith, length-drop a.at a.s.now))
    ]))

pub returns : goal.returns
returns c =
    let a = c.args in
    let p = drop a.at a.s.now in
    let number : number_in p ≡ c.from-number.result = omega (arith, number_at a.s.now a.at) in
    let stated : length_in p ≡ c.size_at-stated.result = length_at a.s.now a.at ∙ sym c.size_at-stated.ensures in
    let h = count-hashes _ _ c.requires.0 c.requires.1 _ c.path_length.ensures _ (ap count_said c.in-Ok.is) in
    let long : length p ≡ length a.s.now - a.at = length-drop a.at a.s.now in
    sym (placed-told a.n p a.at c.from-number.result c.size_at-stated.result c.in-Ok.count number stated (sym h.2)
    (omega arith) h.0 h.1 (omega arith) (omega arith) (omega arith))
