-- `sha256::finish` meets its contract: the whole blocks, and then the padded end. Assumes nothing.
use Rattle.std.proofs.Common.{◌∙◌}
use Rattle.sha256.proofs.Blocks.{digest_parts}
use Rattle.sha256.proofs.finish.Goals as goal

pub returns : goal.returns
returns c =
    c.digest_of.ensures
    ∙ digest_parts _ _ _ _ _ _ _ c.as_chunks.ensures.back c.hash_value-h.ensures c.pad-tail.ensures c.hash_value.ensures
