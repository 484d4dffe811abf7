-- `session::rehearse` meets its contract: the plan's cause, then the rule's, and else the output. Assumes nothing.
use Rattle.std.proofs.Common.{sym, ap, ◌∙◌, List, ℕ}
use Rattle.sha256.specs.Sha256.{sha256}
use Rattle.cause.proofs.Numbers.{number-nonzero}
use Rattle.buffer.specs.Given.{written}
use Rattle.buffer.proofs.Given.{gave-because}
use Rattle.plan.specs.Plan.{Plan}
use Rattle.session.proofs.Text.{cause-is, away-plan, away-unlawful, played}
use Rattle.session.proofs.rehearse.Goals as goal

pub returns-in_err-parts : goal.returns-in_err-parts
returns-in_err-parts c =
    let s = c.args.bytes.now in
    let out = c.args.out.now in
    let k = ap (λ (x : Plan). x.cause) c.in_err-parts.ensures.0 ∙ cause-is s in
    gave-because _ _ _ out c.from_residual.ensures.1 k ∙ sym (away-plan sha256 s out (λ h. number-nonzero _ (k ∙ h)))

pub returns-then-is_unlawful : goal.returns-then-is_unlawful
returns-then-is_unlawful c =
    let s = c.args.bytes.now in
    let k = sym (cause-is s) ∙ ap (λ (x : Plan). x.cause) (sym c.in_ok-parts.ensures.0) in
    sym (away-unlawful sha256 s c.args.out.now k (sym c.is_unlawful.ensures ∙ c.if-is_unlawful.true))

pub returns : goal.returns
returns c =
    let s = c.args.bytes.now in
    let out = c.args.out.now in
    let k = sym (cause-is s) ∙ ap (λ (x : Plan). x.cause) (sym c.in_ok-parts.ensures.0) in
    c.give.ensures ∙ ap (λ (l : List ℕ). written l out) c.play-len.ensures.1
    ∙ sym (played sha256 s out k (sym c.is_unlawful.ensures ∙ c.if-is_unlawful.false))
