-- `commitment::rebuild_with_root` meets its contract: a refusal, that of rebuilding or of the root included, or the message found, in a lent buffer. Assumes nothing.
use Rattle.std.proofs.Common.{Bool, take, sym, ap, ◌∙◌, arith}
use Rattle.std.specs.Prelude.{cond}
use lib.Seq.{length-take-le}
use Rattle.erasure.specs.Rebuild.{cause, message, answered}
use Rattle.sha256.specs.Sha256.{sha256}
use Rattle.limits.proofs.Group.{group_of}
use Rattle.commitment.proofs.Answers.{err-of}
use Rattle.commitment.proofs.Rebuild.{found-fits, with-root-cause, found-rooted, with-root-judged}
use Rattle.commitment.proofs.rebuild_with_root.Goals as goal

pub returns-in_err-len : goal.returns-in_err-len
returns-in_err-len c =
    let a = c.args in
    with-root-cause a.n a.t a.entries.now (sym c.in_ok-check_group.ensures) _ _ _ c.blank-message.ensures c.rebuild.ensures sha256 a.session a.given.now
    (omega arith) a.out.now _ c.in_err-len.was _ (err-of _ _ c.from_residual-in_err-len.ensures.1)

pub slice_bounds-message-end : goal.slice_bounds-message-end
slice_bounds-message-end c =
    found-fits _ _ _ (sym c.in_ok-check_group.ensures) _ _ _ c.blank-message.ensures c.rebuild.ensures _ c.in_ok-len.was

pub slice_bounds-root-end : goal.slice_bounds-root-end
slice_bounds-root-end c =
    sym (length-take-le _ _ (found-fits _ _ _ (sym c.in_ok-check_group.ensures) _ _ _ c.blank-message.ensures c.rebuild.ensures _ c.in_ok-len.was))

pub unwrap-coded-requires : goal.unwrap-coded-requires
unwrap-coded-requires c =
    let a = c.args in
    let fine = sym c.in_ok-check_group.ensures in
    found-rooted a.n a.t a.entries.now fine _ _ _ c.blank-message.ensures c.rebuild.ensures sha256 _ _ _ c.in_ok-len.was
    (omega (arith, (group_of a.n a.t fine).faults)) _ c.root.ensures

pub slice_bounds-message-end-2 : goal.slice_bounds-message-end-2
slice_bounds-message-end-2 c =
    found-fits _ _ _ (sym c.in_ok-check_group.ensures) _ _ _ c.blank-message.ensures c.rebuild.ensures _ c.in_ok-len.was

pub slice_bounds-give-end : goal.slice_bounds-give-end
slice_bounds-give-end c =
    sym (length-take-le _ _ (found-fits _ _ _ (sym c.in_ok-check_group.ensures) _ _ _ c.blank-message.ensures c.rebuild.ensures _ c.in_ok-len.was))

pub returns : goal.returns
returns c =
    let a = c.args in
    c.give.ensures
    ∙ sym (with-root-judged a.n a.t a.entries.now (sym c.in_ok-check_group.ensures) _ _ _ c.blank-message.ensures c.rebuild.ensures sha256 a.session a.given.now
    (omega arith) a.out.now _ c.in_ok-len.was _ c.root.ensures _ c.unwrap-coded.ensures _ c.same.ensures.0 c.same.ensures.1
    ∙ ap (λ (b : Bool). answered (cond b (message (take c.in_ok-len.len c.rebuild.new.out)) (cause 15)) a.out.now) c.if-not-same.false)

pub returns-then-not-same : goal.returns-then-not-same
returns-then-not-same c =
    let a = c.args in
    sym (with-root-judged a.n a.t a.entries.now (sym c.in_ok-check_group.ensures) _ _ _ c.blank-message.ensures c.rebuild.ensures sha256 a.session a.given.now
    (omega arith) a.out.now _ c.in_ok-len.was _ c.root.ensures _ c.unwrap-coded.ensures _ c.same.ensures.0 c.same.ensures.1
    ∙ ap (λ (b : Bool). answered (cond b (message (take c.in_ok-len.len c.rebuild.new.out)) (cause 15)) a.out.now) c.if-not-same.true)
