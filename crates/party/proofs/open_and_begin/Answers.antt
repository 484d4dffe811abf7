-- `party::open_and_begin` meets its contract. Assumes nothing.
use Rattle.party.proofs.open_and_begin.Goals as goal

pub returns : goal.returns
returns c = record { opening = c.open.result; says = c.open.ensures; is = c.begin.ensures }
