-- `party::Party::open` meets its contract: a refusal with the blank state, or the message kept and its root. Assumes nothing.
use Rattle.std.proofs.Common.{[], length, refl, sym, ◌∙◌}
use mathlib.Core.Path.{ap₂}
use Rattle.sha256.specs.Sha256.{sha256}
use Rattle.limits.specs.Limits.{max_message}
use Rattle.merkle.specs.Shares.{blank}
use Rattle.merkle.specs.Answer.{Rooted}
use Rattle.commitment.proofs.Opening.{open-bounds}
use Rattle.commitment.proofs.Outcomes.{rooted-given}
use Rattle.party.specs.State.{seat_of, at_root}
use Rattle.party.specs.Answer.{Opened}
use Rattle.party.specs.declared.Stage.TheVariants.{Root}
use Rattle.party.specs.declared.Party.{Party}
use Rattle.party.proofs.Outcomes.{open-given}
use Rattle.party.proofs.Refused.{refused-open}
use Rattle.party.proofs.Kept.{put-padded, waiting_kept}
use Rattle.party.proofs.Party.open.Goals as goal

pub returns-in-Err : goal.returns-in-Err
returns-in-Err c =
    let a = c.args in
    c.refused_opening.ensures ∙ refused-open sha256 c.in-Err.cause a.session a.n a.t a.own a.message.now c.in-Err.ensures

pub returns : goal.returns
unfolding at_root
returns c =
    let a = c.args in
    let m = a.message.now in
    let b = open-bounds a.n a.t a.own (length m) (sym c.in_default.ensures) in
    ap₂ {C = Opened} (λ (x : Party) (r : Rooted). record { state = x; cause = r.cause; root = r.root })
    (waiting_kept (seat_of a.session a.n a.t a.own) Root _ m blank blank _ [] (length m) 0 0 (c.put.ensures.1 ∙ put-padded max_message m b.3) refl refl refl refl)
    (c.root.ensures ∙ rooted-given sha256 a.session a.n a.t a.own m (sym c.in_default.ensures))
    ∙ sym (open-given sha256 a.session a.n a.t a.own m (sym c.in_default.ensures))
