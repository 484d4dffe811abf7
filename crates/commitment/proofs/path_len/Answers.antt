-- `commitment::path_len` meets its contract: a party's number always has a path. Assumes nothing.
use Rattle.std.proofs.Common.{ap, arith}
use Rattle.merkle.specs.Answer.{count_said}
use Rattle.packet.proofs.Reading.{count-hashes, few_hashes}
use Rattle.commitment.proofs.Outbox.{path-counts}
use Rattle.commitment.proofs.path_len.Goals as goal

pub unwrap-requires : goal.unwrap-requires
unwrap-requires c = path-counts _ _ (omega arith) (omega arith) (omega arith) (omega arith) _ c.path_length.ensures

pub returns : goal.returns
returns c =
    let is = ap count_said c.unwrap.ensures in
    let h = count-hashes _ _ (omega arith) (omega arith) _ c.path_length.ensures _ is in
    (h.2, few_hashes _ _ _ _ c.path_length.ensures is)
