-- `party::Party::take_relays` meets its contract: each return is one outcome of step 5, by the cause and by whether the party has ended. Assumes nothing.
use Rattle.std.proofs.Common.{sym, ap, ◌∙◌}
use Rattle.sha256.specs.Sha256.{sha256}
use Rattle.party.specs.State.{overlong, result_at, result_from}
use Rattle.party.specs.declared.Stage.{Stage}
use Rattle.party.proofs.Stages.{waits}
use Rattle.party.proofs.Causes.{whole-stage, state-sound, state-fit, relays-sound}
use Rattle.party.proofs.Outcomes.{holds-none, relays-found, relays-again}
use Rattle.party.proofs.Refused.{refused-relays}
use Rattle.party.proofs.Party.take_relays.Goals as goal

pub returns-in-Err : goal.returns-in-Err
returns-in-Err c = rw c.refused.ensures (refused-relays sha256 c.in-Err.cause c.args.self c.args.inbox.now c.args.out.now c.in-Err.ensures)

pub give_again-requires : goal.give_again-requires
give_again-requires c =
    let x = c.args.self in
    sym (ap overlong c.in-Ended.is) ∙ whole-stage x (state-sound 5 x (relays-sound x c.args.inbox.now (sym c.in_default.ensures)).0).0

pub conclude-requires : goal.conclude-requires
conclude-requires c =
    let x = c.args.self in
    let r = relays-sound x c.args.inbox.now (sym c.in_default.ensures) in
    (state-fit 5 x r.0, r.1 (waits x.stage c.in-Root.is))

pub returns-in-Ended : goal.returns-in-Ended
returns-in-Ended c =
    let x = c.args.self in
    c.give_again.ensures
    ∙ sym (relays-again sha256 x c.args.inbox.now c.args.out.now (sym c.in_default.ensures) (result_from c.in-Ended.len x.message)
    (ap (λ (s : Stage). result_at s x.message) c.in-Ended.is))

pub returns-in-Root : goal.returns-in-Root
returns-in-Root c =
    let x = c.args.self in
    c.conclude.ensures
    ∙ sym (relays-found sha256 x c.args.inbox.now c.args.out.now (sym c.in_default.ensures) (holds-none x (waits x.stage c.in-Root.is)))
