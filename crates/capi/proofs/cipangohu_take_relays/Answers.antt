-- `capi::cipangohu_take_relays` meets its contract: step 5 on the state that the bytes say. Assumes nothing.
use Rattle.sha256.specs.Sha256.{sha256}
use Rattle.agreement.specs.Calls.{take_relays, made}
use Rattle.capi.proofs.Answers.{step-told}
use Rattle.capi.proofs.cipangohu_take_relays.Goals as goal

pub returns : goal.returns
unfolding made
returns c = step-told sha256 _ (take_relays _ _) _ c.read.ensures c.take_relays-reply.ensures c.finish.ensures
