-- `Tree::put_path` meets its contract: the other half's root is the last hash of the path. Assumes nothing.
use Rattle.std.proofs.Common.{◌<◌, length, length-append, ap, sym, ◌∙◌, arith}
use Rattle.merkle.specs.Tree.{shape}
use Rattle.merkle.proofs.Descend.{length-path_at, path-put}
use Rattle.merkle.proofs.Tree.+put_path.Goals as goal

pub returns-clause-path : goal.returns-clause-path
returns-clause-path t c =
    let s = c.in-Some.step.spot in
    let hs = c.args.self.leaves.now in
    let ns = c.args.self.nodes.now in
    let one = simp length-append at (ap length c.in-Some.ensures.sides) in
    let room : c.put_path-count.result < length c.args.path.now = omega arith in
    rw (c.put_path-count.ensures.path, c.in-Some.ensures.path hs ns, c.top.ensures)
    (path-put _ c.args.path.now c.put_path-count.result _
    (length-path_at (shape s.part.width) s.at s.part.first hs ns ∙ sym c.put_path-count.ensures.count) room)
