-- `commitment::code` meets its contract: the shares fit their array, so encoding gives them all. Assumes nothing.
use Rattle.std.proofs.Common.{ap}
use Rattle.std.specs.Prelude.{is_ok}
use Rattle.commitment.proofs.Shared.{coded-ok, coded_in}
use Rattle.commitment.proofs.code.Goals as goal

pub unwrap-size-requires : goal.unwrap-size-requires
unwrap-size-requires c = ap is_ok (coded-ok _ _ _ _ c.requires c.told-room _ _ c.encode.ensures)

pub shared_ref_as_front-result : goal.shared_ref_as_front-result
shared_ref_as_front-result c = (coded_in _ _ _ _ c.requires c.told-room _ _ c.encode.ensures _ c.unwrap-size.ensures).0

pub returns : goal.returns
returns c = (coded_in _ _ _ _ c.requires c.told-room _ _ c.encode.ensures _ c.unwrap-size.ensures).1
