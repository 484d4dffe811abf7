-- `Play::agreed_root` meets its contract: the 32 bytes that are given, or the root of the lowest-numbered good party. Assumes nothing.
use mathlib.Core.Path.{◌≡◌, sym, ap, ap₂, ◌∙◌}
use mathlib.Core.Bool.{true}
use Prim.Native.Nat.{ℕ, ◌+◌, ◌-◌, ◌≤◌}
use native.Mathlib.Omega.{arith}
use Rattle.sha256.specs.Sha256.{sha256}
use Rattle.session.proofs.Rule.{known}
use lib.ListN.{length, take, drop}
use Rattle.session.specs.declared.Opening.{Opening}
use Rattle.plan.specs.Layout.{root_option}
use Rattle.plan.proofs.Accepted.{field-there}
use Rattle.session.specs.Session.{opened}
use Rattle.session.specs.declared.Play.{Play}
use Rattle.session.proofs.Rule.{option-named, field_is, root-given, root-own}
use Rattle.plan.specs.Layout.{has_root, field_at}
use Rattle.session.proofs.Play.agreed_root.Goals as goal

inside : (p : Play) (at : ℕ) → at ≡ field_at p.parts.options root_option → has_root p.bytes.now ≡ true → at + 32 ≤ length p.bytes.now
inside p at e h =
    let k = known p in
    omega (arith, e ∙ field_is _ _ k root_option, field-there p.bytes.now k.laid 0 (omega arith) h)

pub overflow_add-end : goal.overflow_add-end
overflow_add-end c =
    let k = known c.args.self.now in
    omega (arith, inside c.args.self.now _ c.field_at-at.ensures (sym (c.names.ensures ∙ option-named _ _ k root_option) ∙ c.if-names.true), k.length-fits)

pub slice_bounds-copy_from_slice-end-then-names : goal.slice_bounds-copy_from_slice-end-then-names
slice_bounds-copy_from_slice-end-then-names c =
    let k = known c.args.self.now in
    inside c.args.self.now _ c.field_at-at.ensures (sym (c.names.ensures ∙ option-named _ _ k root_option) ∙ c.if-names.true)

pub returns-then-names : goal.returns-then-names
returns-then-names c =
    let k = known c.args.self.now in
    let s = c.args.self.now.bytes.now in
    let at = c.field_at-at.result in
    let e : at + 32 - at ≡ 32 = omega arith in
    c.copy_from_slice.ensures.after
    ∙ ap₂ (λ (k x : ℕ). take k (drop x s)) e (c.field_at-at.ensures ∙ field_is _ _ k root_option)
    ∙ sym (root-given sha256 s (sym (c.names.ensures ∙ option-named _ _ k root_option) ∙ c.if-names.true))

pub returns : goal.returns
returns c =
    let k = known c.args.self.now in
    let s = c.args.self.now.bytes.now in
    ap (λ (x : Opening). x.root) c.opened.ensures
    ∙ ap (λ (q : ℕ). (opened sha256 s q).root) c.lowest_good-q.ensures
    ∙ sym (root-own sha256 s (sym (c.names.ensures ∙ option-named _ _ k root_option) ∙ c.if-names.false))
