-- `capi::cipangohu_result_length` meets its contract: the result of a state that is not broken is within its limit. Assumes nothing.
use Rattle.std.proofs.Common.{rules}
use Rattle.party.proofs.Causes.{whole-stage}
use Rattle.capi.proofs.cipangohu_result_length.Goals as goal

pub ask-requires : goal.ask-requires
ask-requires c = λ h. let whole = whole-stage _ h in search rules
