-- `party::Party::send` meets its contract: what the message gives is written where it has the agreed root. Assumes nothing.
use Rattle.std.proofs.Common.{◌≡◌, length, arith, rules}
use Rattle.sha256.specs.Sha256.{sha256}
use Rattle.limits.specs.Limits.{max_message}
use Rattle.merkle.specs.Shares.{same}
use Rattle.commitment.specs.Commitment.{message_root}
use Rattle.party.specs.State.{message_in, happy}
use Rattle.party.proofs.Causes.{fit-open}
use Rattle.party.proofs.Kept.{length-message}
use Rattle.party.proofs.Sent.{came, told-of}
use Rattle.party.proofs.Party.send.Goals as goal

pub returns : goal.returns
unfolding happy
returns c =
    let x = c.args.self in
    let m = message_in x in
    let long : length x.message ≡ max_message = search rules in
    let fine = fit-open x c.requires (length m) (omega (arith, length-message x (omega (arith, c.requires.short, long)), c.requires.short)) in
    rw c.transpose.ensures (came _ c.send.new.out c.args.out.now (same (message_root sha256 x.seat.session x.seat.n x.seat.t m) x.root) c.send.result
    (told-of x.seat m c.args.relays x.root c.send.new.out c.args.out.now fine c.send.result c.send.ensures))
