-- `state_bytes::head_of` meets its contract: each byte is the one that stands there. Assumes nothing.
use Rattle.std.proofs.Common.{ap, ◌∙◌}
use Rattle.std.specs.Int.{to_be_bytes, w64}
use Rattle.state_bytes.proofs.Reading.{head-is}
use Rattle.state_bytes.proofs.head_of.Goals as goal

pub returns : goal.returns
returns c =
    head-is c.args.x _ _ _ _ _ _ _ _ c.low.ensures c.low-2.ensures c.low-3.ensures c.stage_number.ensures
    (c.to_be_bytes-len.ensures ∙ ap (to_be_bytes w64) c.length_for.ensures) c.to_be_bytes-held.ensures c.to_be_bytes-session.ensures c.to_be_bytes-faulty.ensures
