-- `packet::path_at` meets its contract: the chunks that are copied are the path's hashes. Assumes nothing.
use mathlib.Core.Path.{◌∙◌}
use native.Mathlib.Omega.{arith}
use Rattle.packet.proofs.Path.{path-copied}
use Rattle.packet.proofs.path_at.Goals as goal

pub returns : goal.returns
returns c =
    let a = c.args in
    path-copied a.s.now a.at a.count _ (omega arith) (omega arith) (c.copy_from_slice.ensures.after ∙ c.as_chunks.ensures.front)
