-- `stream::number` meets its contract: the fold is over the bytes, and spells them. Assumes nothing.
use Rattle.std.proofs.Common.{◌≡◌, ◌∙◌, fold, rules}
use Rattle.stream.proofs.Spelled.{step, fold_spelled}
use Rattle.stream.proofs.number.Goals as goal

pub returns : goal.returns
returns c =
    let e : c.fold.result ≡ fold step 0 c.args.bytes.now = search rules in
    e ∙ fold_spelled 0 c.args.bytes.now
