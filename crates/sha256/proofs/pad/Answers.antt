-- `sha256::pad` meets its contract: the string, and behind it the bytes of the padding. Assumes nothing.
use Rattle.std.proofs.Common.{◌∙◌}
use Rattle.sha256.proofs.Tail.{pad_end}
use Rattle.sha256.proofs.pad.Goals as goal

pub returns : goal.returns
returns c =
    pad_end c.args.rest.now _ _ c.args.n c.args.end c.requires.1 c.requires.2 c.copy_from_slice.ensures.after
    (c.copy_from_slice-2.ensures.after ∙ c.to_be_bytes-bits.ensures)
