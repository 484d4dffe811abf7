-- `capi::cipangohu_agree_root` meets its contract: step 2 on the state that the bytes say. Assumes nothing.
use Rattle.sha256.specs.Sha256.{sha256}
use Rattle.agreement.specs.Calls.{agree_root, made}
use Rattle.capi.proofs.Answers.{step-told}
use Rattle.capi.proofs.cipangohu_agree_root.Goals as goal

pub returns : goal.returns
unfolding made
returns c = step-told sha256 _ (agree_root _) _ c.read.ensures c.agree_root-reply.ensures c.finish.ensures
