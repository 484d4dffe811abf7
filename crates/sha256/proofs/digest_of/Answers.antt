-- `sha256::digest_of` meets its contract: after i turns the first i words are written. Assumes nothing.
use Rattle.std.proofs.Common.{◌∙◌, arith}
use Rattle.std.proofs.lemmas.Grind.{common_steps}
use Rattle.sha256.proofs.Steps.{digest_more}
use Rattle.sha256.proofs.digest_of.Goals as goal

pub loop-i-preserved : goal.loop-i-preserved
loop-i-preserved c =
    let l = c.loop-i in
    let written = c.copy_from_slice.ensures.after ∙ c.to_be_bytes.ensures in
    (grind (arith, common_steps), digest_more l.digest c.args.h _ l.i (omega arith) (omega arith) l.invariant.1 written)
