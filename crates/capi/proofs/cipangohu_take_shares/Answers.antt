-- `capi::cipangohu_take_shares` meets its contract: step 4 on the state that the bytes say. Assumes nothing.
use Rattle.sha256.specs.Sha256.{sha256}
use Rattle.agreement.specs.Calls.{take_shares, made}
use Rattle.capi.proofs.Answers.{step-told}
use Rattle.capi.proofs.cipangohu_take_shares.Goals as goal

pub returns : goal.returns
unfolding made
returns c = step-told sha256 _ (take_shares _ _) _ c.read.ensures c.take_shares-reply.ensures c.finish.ensures
