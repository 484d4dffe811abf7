-- `commitment::root` meets its contract: the root is that over the leaves of the message's shares. Assumes nothing.
use mathlib.Core.Path.{sym, ap, ◌∙◌}
use Rattle.sha256.specs.Sha256.{sha256}
use Rattle.merkle.specs.Shares.{leaves_of, rooted_of}
use Rattle.merkle.proofs.Outcomes.{root-made}
use Rattle.commitment.specs.Commitment.{message_root}
use Rattle.commitment.proofs.Opening.{open-coded}
use Rattle.commitment.proofs.Outcomes.{rooted-given}
use Rattle.commitment.proofs.root.Goals as goal

pub code-shares-requires : goal.code-shares-requires
code-shares-requires c = open-coded _ _ _ _ (sym c.in_ok-check_opening.ensures)

pub returns : goal.returns
unfolding message_root
returns c =
    let a = c.args in
    let fine = sym c.in_ok-check_opening.ensures in
    let w = open-coded a.seat.n a.seat.t a.seat.own a.message.now fine in
    c.root.ensures
    ∙ ap (rooted_of sha256 a.seat.n) (c.leaves-leaves.ensures ∙ ap (leaves_of sha256 a.seat.session a.seat.n) c.code-shares.ensures)
    ∙ root-made sha256 a.seat.n _ w.low w.high
    ∙ sym (rooted-given sha256 a.seat.session a.seat.n a.seat.t a.seat.own a.message.now fine)
