-- `capi::cipangohu_agree_bit` meets its contract: step 3 on the state that the bytes say. Assumes nothing.
use Rattle.sha256.specs.Sha256.{sha256}
use Rattle.agreement.specs.Calls.{agree_bit, made}
use Rattle.capi.proofs.Answers.{step-told}
use Rattle.capi.proofs.cipangohu_agree_bit.Goals as goal

pub returns : goal.returns
unfolding made
returns c = step-told sha256 _ (agree_bit _ _) _ c.read.ensures c.agree_bit-reply.ensures c.finish.ensures
