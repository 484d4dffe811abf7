-- `Vote::agreed_bit` meets its contract: the bit that is given, or that of the lowest-numbered good party. Assumes nothing.
use mathlib.Core.Path.{sym, ap, ◌∙◌}
use Prim.Native.Nat.{ℕ}
use native.Mathlib.Omega.{arith}
use Rattle.sha256.specs.Sha256.{sha256}
use Rattle.session.proofs.Rule.{known}
use lib.ListN.{get_or}
use Rattle.plan.specs.Layout.{bit_option}
use Rattle.plan.proofs.Accepted.{field-there}
use Rattle.session.specs.Session.{step2}
use Rattle.session.proofs.Rule.{option-named, field_is, bit-given, bit-own}
use Rattle.session.proofs.Vote.agreed_bit.Goals as goal

pub bounds-self-at : goal.bounds-self-at
bounds-self-at c =
    let k = known c.args.self.now.play in
    omega (
      arith,
      c.field_at-at.ensures ∙ field_is _ _ k bit_option,
      field-there _ k.laid 1 (omega arith)
          (sym (c.names.ensures ∙ option-named _ _ k bit_option) ∙ c.if-names.true),
    )

pub returns-then-names : goal.returns-then-names
returns-then-names c =
    let k = known c.args.self.now.play in
    let s = c.args.self.now.play.bytes.now in
    ap (λ (i : ℕ). get_or s i 0) (c.field_at-at.ensures ∙ field_is _ _ k bit_option)
    ∙ sym (bit-given sha256 s (sym (c.names.ensures ∙ option-named _ _ k bit_option) ∙ c.if-names.true))

pub returns : goal.returns
returns c =
    let k = known c.args.self.now.play in
    let s = c.args.self.now.play.bytes.now in
    c.own_bit.ensures ∙ ap (λ (q : ℕ). (step2 sha256 s q).value) c.lowest_good-q.ensures
    ∙ sym (bit-own sha256 s (sym (c.names.ensures ∙ option-named _ _ k bit_option) ∙ c.if-names.false))
