-- `merkle::path_in` meets its contract: behind the path the blanks are left. Assumes nothing.
use Rattle.std.proofs.Common.{◌-◌, ◌++◌, List, ℕ, ap, sym, ◌∙◌, arith}
use Rattle.limits.specs.Limits.{max_path}
use Rattle.limits.proofs.Ranges.{numbered-range}
use Rattle.merkle.specs.Tree.{shape}
use Rattle.merkle.specs.Hashes.{path_at}
use Rattle.merkle.specs.Shares.{blank}
use Rattle.merkle.proofs.Descend.{sides-fit, drop-replicate}
use Rattle.merkle.proofs.Outcomes.{path-at}
use Rattle.merkle.proofs.path_in.Goals as goal

pub returns : goal.returns
returns c =
    let a = c.args in
    let w = c.in-Ok.ensures in
    let s = c.in-Ok-spot.ensures in
    let j = numbered-range _ _ s.0 in
    let path = rw (s.1, s.2, s.3, w.1, w.2) at c.put_path.ensures.path in
    let count = rw (s.2, s.3, w.2) at c.put_path.ensures.count in
    let room = sides-fit a.n (a.j - 1) (omega arith) (omega arith) in
    path
    ∙ ap (λ (l : List (List ℕ)). path_at (shape a.n) (a.j - 1) 0 a.leaves.now a.nodes.now ++ l) (drop-replicate c.put_path.result max_path blank (omega (arith, room)))
    ∙ sym (path-at a.n a.j a.leaves.now a.nodes.now (omega arith) (omega arith) j.0 (omega arith) c.put_path.result count)
