-- `commitment::send` meets its contract: a refusal, no bytes where the root is another one, else the relay or the outbox over the shares of the
-- message, whose leaves and nodes are hashed once. Assumes nothing.
use Rattle.std.proofs.Common.{List, ℕ, true, sym, ap, ◌∙◌}
use Rattle.sha256.specs.Sha256.{sha256}
use Rattle.buffer.specs.Given.{written}
use Rattle.commitment.specs.Commitment.{sending}
use Rattle.commitment.proofs.Answers.{err-of, happy-err}
use Rattle.commitment.proofs.Opening.{open-coded}
use Rattle.commitment.proofs.Outcomes.{send-other, send-own}
use Rattle.commitment.proofs.Sending.{made-seated, made-cut, root-ok, agreed, mail-made}
use Rattle.commitment.proofs.send.Goals as goal

pub code-all-requires : goal.code-all-requires
code-all-requires c = open-coded _ _ _ _ (sym c.in_ok-check_opening.ensures)

pub unwrap-top-requires : goal.unwrap-top-requires
unwrap-top-requires c =
    let a = c.args in
    root-ok sha256 a.seat.session a.seat.n a.seat.t a.seat.own a.message.now (sym c.in_ok-check_opening.ensures) _ c.code-all.ensures _ c.leaves-leaves.ensures
    _ c.nodes-nodes.ensures _ c.root_in.ensures

pub nonzero_div-shares : goal.nonzero_div-shares
nonzero_div-shares c =
    let a = c.args in
    (made-seated sha256 a.seat.session a.seat.n a.seat.t a.seat.own a.message.now (sym c.in_ok-check_opening.ensures) _ c.code-all.ensures _ c.leaves-leaves.ensures).0

pub invariant_of-shares : goal.invariant_of-shares
invariant_of-shares c =
    let a = c.args in
    let fine = sym c.in_ok-check_opening.ensures in record {
      seated = made-seated sha256 a.seat.session a.seat.n a.seat.t a.seat.own a.message.now fine _ c.code-all.ensures _ c.leaves-leaves.ensures;
      cut = made-cut sha256 a.seat.session a.seat.n a.seat.t a.seat.own a.message.now fine _ c.code-all.ensures _ c.leaves-leaves.ensures;
      hashed = (c.leaves-leaves.ensures, c.nodes-nodes.ensures);
    }

pub returns-in_err-len : goal.returns-in_err-len
returns-in_err-len c =
    let a = c.args in
    let fine = sym c.in_ok-check_opening.ensures in
    let told = agreed sha256 a.seat.session a.seat.n a.seat.t a.seat.own a.message.now fine _ c.code-all.ensures _ c.leaves-leaves.ensures
    _ c.nodes-nodes.ensures _ c.root_in.ensures _ c.unwrap-top.ensures a.root.now _ c.same.ensures.0 c.same.ensures.1 in
    let mail = mail-made sha256 a.seat.session a.seat.n a.seat.t a.seat.own a.message.now fine _ c.code-all.ensures _ c.leaves-leaves.ensures a.relays in
    happy-err _ _ _ _ c.in_err-len.ensures _ (err-of _ _ c.from_residual-in_err-len.ensures.1)
    ∙ ap (λ (bs : List ℕ). sending true (written bs a.out.now)) mail
    ∙ sym (send-own sha256 a.seat.session a.seat.n a.seat.t a.seat.own a.message.now a.relays a.root.now a.out.now fine (sym told ∙ c.if-not-same.false))

pub returns : goal.returns
returns c =
    let a = c.args in
    let fine = sym c.in_ok-check_opening.ensures in
    let told = agreed sha256 a.seat.session a.seat.n a.seat.t a.seat.own a.message.now fine _ c.code-all.ensures _ c.leaves-leaves.ensures
    _ c.nodes-nodes.ensures _ c.root_in.ensures _ c.unwrap-top.ensures a.root.now _ c.same.ensures.0 c.same.ensures.1 in
    let mail = mail-made sha256 a.seat.session a.seat.n a.seat.t a.seat.own a.message.now fine _ c.code-all.ensures _ c.leaves-leaves.ensures a.relays in
    ap (sending true) (c.in_ok-len.ensures ∙ ap (λ (bs : List ℕ). written bs a.out.now) mail)
    ∙ sym (send-own sha256 a.seat.session a.seat.n a.seat.t a.seat.own a.message.now a.relays a.root.now a.out.now fine (sym told ∙ c.if-not-same.false))

pub returns-then-not-same : goal.returns-then-not-same
returns-then-not-same c =
    let a = c.args in
    let fine = sym c.in_ok-check_opening.ensures in
    let told = agreed sha256 a.seat.session a.seat.n a.seat.t a.seat.own a.message.now fine _ c.code-all.ensures _ c.leaves-leaves.ensures
    _ c.nodes-nodes.ensures _ c.root_in.ensures _ c.unwrap-top.ensures a.root.now _ c.same.ensures.0 c.same.ensures.1 in
    sym (send-other sha256 a.seat.session a.seat.n a.seat.t a.seat.own a.message.now a.relays a.root.now a.out.now fine (sym told ∙ c.if-not-same.true))
