-- `state_bytes::write` meets its contract: there is no room, or its four parts are put one behind the other. Assumes nothing.
use Rattle.std.proofs.Common.{rules}
use Rattle.state_bytes.proofs.Reading.{state-refused, state-written}
use Rattle.state_bytes.proofs.write.Goals as goal

pub returns-then-out-lt-LENGTH : goal.returns-then-out-lt-LENGTH
returns-then-out-lt-LENGTH c = state-refused c.args.x (search rules) (search rules) (search rules) c.args.out.now c.if-out-lt-LENGTH.true

pub returns : goal.returns
returns c =
    state-written c.args.x (search rules) (search rules) (search rules) c.args.out.now _ _ _ _ _ c.if-out-lt-LENGTH.false c.head_of-head.ensures
    c.put.ensures.1 c.put-2.ensures.1 c.put-3.ensures.1 c.put-4.ensures.1
