-- `party::Party::waiting` meets its contract: the message is put at the start of zeros. Assumes nothing.
use Rattle.std.proofs.Common.{◌≡◌, length, ◌∙◌, arith, rules}
use Rattle.limits.specs.Limits.{max_message}
use Rattle.party.specs.State.{message_in}
use Rattle.party.proofs.Kept.{put-padded, length-message}
use Rattle.party.proofs.Party.waiting.Goals as goal

pub returns : goal.returns
returns c =
    let x = c.args.self in
    let long : length x.message ≡ max_message = search rules in
    rw (c.put.ensures.1 ∙ put-padded max_message (message_in x) (omega (arith, length-message x (omega (arith, long, c.requires)), c.requires)))
