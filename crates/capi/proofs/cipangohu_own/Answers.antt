-- `capi::cipangohu_own` meets its contract: the own number of a state that is not broken is one of the n, so it fits. Assumes nothing.
use Rattle.std.proofs.Common.{◌<◌, ◌^◌, arith, rules}
use Rattle.party.proofs.Causes.{fit_of}
use Rattle.state_bytes.specs.Layout.{state_of}
use Rattle.capi.proofs.cipangohu_own.Goals as goal

pub ask-requires : goal.ask-requires
ask-requires c = λ h.
    let small : (state_of c.args.state.now).seat.own < 2 ^ 32 = (let f = fit_of (state_of c.args.state.now) h in omega arith) in
    search rules
