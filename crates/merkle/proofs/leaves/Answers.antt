-- `merkle::leaves` meets its contract. Assumes nothing.
use Rattle.std.proofs.Common.{◌≡◌, ℕ, ◌<◌, ◌-◌, ◌/◌, ◌++◌, List, map, length, replicate, refl, sym, ap, ◌∙◌, append-nil, arith}
use Rattle.std.proofs.lemmas.List.{take-replicate}
use native.Mathlib.Nat.{sub-zero}
use lib.ListN.{length-set}
use lib.Seq.{length-take-le}
use Rattle.limits.specs.Limits.{max_parties}
use Rattle.sha256.specs.Sha256.{sha256}
use Rattle.merkle.specs.Shares.{blank, leaf_strings}
use Rattle.merkle.proofs.Descend.{drop-replicate}
use Rattle.merkle.proofs.Judged.{even-told, even-whole, leaves-fine}
use Rattle.merkle.proofs.Rows.{share-cut, hashes-none, hashes-all, hashes-more}
use Rattle.merkle.proofs.leaves.Goals as goal

pub nonzero_div-len : goal.nonzero_div-len
nonzero_div-len c =
    let v = even-told c.in-Ok.ensures refl in omega arith

pub slice_bounds-hashes-end : goal.slice_bounds-hashes-end
slice_bounds-hashes-end c = (even-told c.in-Ok.ensures refl).high

pub slice_bounds-hash-items-end : goal.slice_bounds-hash-items-end
slice_bounds-hash-items-end c =
    let v = even-told c.in-Ok.ensures refl in
    sym (length-take-le c.args.n (replicate max_parties blank) v.high)

pub loop-j-init : goal.loop-j-init
loop-j-init c =
    let a = c.args in
    let v = even-told c.in-Ok.ensures refl in
    record {
      even = v;
      long = length-take-le a.n (replicate max_parties blank) v.high;
      made = take-replicate a.n max_parties blank v.high
          ∙ rw (sub-zero, hashes-none a.session (length a.shares.now / a.n) a.shares.now);
    }

pub loop-j-preserved : goal.loop-j-preserved
loop-j-preserved c =
    let a = c.args in
    let l = c.loop-j in
    let s = length a.shares.now / a.n in
    let below : l.j < a.n = omega arith in
    let whole = even-whole _ _ _ l.invariant.even in
    let made = rw (share-cut a.n l.j s a.shares.now below whole) at c.leaf_hash.ensures in
    record {
      even = l.invariant.even;
      long = simp length-set l.invariant.long;
      made = rw l.invariant.made (hashes-more a.session s a.shares.now a.n l.j c.leaf_hash.result below made);
    }

pub returns : goal.returns
returns c =
    let a = c.args in
    let s = length a.shares.now / a.n in
    let done : c.loop-j.j ≡ a.n = omega arith in
    let none : a.n - a.n ≡ 0 = omega arith in
    rw (c.loop-j.invariant.made, done, none, append-nil, hashes-all a.session s a.shares.now a.n refl)
    (ap (λ (l : List (List ℕ)). map sha256 (leaf_strings a.session a.n a.shares.now) ++ l) (drop-replicate a.n max_parties blank c.loop-j.invariant.even.high)
    ∙ sym (leaves-fine sha256 a.session a.n a.shares.now (sym c.in-Ok.ensures)))
