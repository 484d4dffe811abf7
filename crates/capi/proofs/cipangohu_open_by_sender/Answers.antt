-- `capi::cipangohu_open_by_sender` meets its contract: the packet's length fits, and where there is no room for it the lent buffer is as it was. Assumes
-- nothing.
use Rattle.std.proofs.Common.{sym, ap, ◌∙◌}
use Rattle.cause.specs.Cause.{cause_of}
use Rattle.capi.proofs.Answers.{begun-fits, short-fits, short-told}
use Rattle.capi.proofs.cipangohu_open_by_sender.Goals as goal

pub pack-requires-in-Ok : goal.pack-requires-in-Ok
pack-requires-in-Ok c =
    let a = c.args in
    begun-fits a.session a.n a.t a.own a.sender a.bytes.now a.out.now _ _ _ c.open_by_sender-answer.ensures c.in-Ok.is

pub pack-requires-in-Err-answer : goal.pack-requires-in-Err-answer
pack-requires-in-Err-answer c =
    let a = c.args in
    short-fits a.session a.n a.t a.own a.sender a.bytes.now a.out.now _ _ _ c.open_by_sender-answer.ensures c.in-Err-answer.is

pub returns-in-Err-answer : goal.returns-in-Err-answer
returns-in-Err-answer c =
    let a = c.args in
    short-told a.session a.n a.t a.own a.sender a.bytes.now a.out.now _ _ _ c.open_by_sender-answer.ensures c.in-Err-answer.is a.state.now a.root.now
    _ (sym c.check_sender.ensures ∙ ap cause_of c.in_default.is) c.if-state-lt-LENGTH.false c.if-root-lt32.false c.pack-in-Err-answer.ensures
