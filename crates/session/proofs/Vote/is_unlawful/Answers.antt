-- `Vote::is_unlawful` meets its contract: each return is one of the rule's four tests. Assumes nothing.
use mathlib.Core.Path.{◌≡◌, sym, ◌∙◌}
use mathlib.Core.Bool.{false}
use native.Mathlib.Omega.{arith}
use Rattle.sha256.specs.Sha256.{sha256}
use Rattle.session.proofs.Rule.{known}
use borrow.Author.Tests.{lt-ltb, le-ltb}
use Rattle.plan.specs.Layout.{unnamed, n_in, t_in, good_in, bit_option}
use Rattle.session.specs.Private.{no_bit}
use Rattle.session.proofs.Rule.{option-named, bit-beyond, bit-low, bit-none, unlawful-many, unlawful-bit, unlawful-root, unlawful-vote}
use Rattle.session.proofs.Vote.is_unlawful.Goals.{then-names+else-bit-gt1, else-names}
use Rattle.session.proofs.Vote.is_unlawful.Goals as goal

pub returns-then-parts-count_bad : goal.returns-then-parts-count_bad
returns-then-parts-count_bad c =
    let s = c.args.self.now.play.bytes.now in
    sym (unlawful-many sha256 s (lt-ltb (t_in s) (unnamed (n_in s) 1 (good_in s))
    (omega (arith, c.if-parts-count_bad.true, c.count_bad.ensures, (known c.args.self.now.play).t-is))))

pub returns-then-bit-gt1 : goal.returns-then-bit-gt1
returns-then-bit-gt1 c =
    let s = c.args.self.now.play.bytes.now in
    let k = known c.args.self.now.play in
    sym (unlawful-bit sha256 s
    (le-ltb (t_in s) (unnamed (n_in s) 1 (good_in s)) (omega (arith, c.if-parts-count_bad.false, c.count_bad.ensures, k.t-is)))
    (bit-beyond sha256 s (sym (c.names.ensures ∙ option-named _ _ k bit_option) ∙ c.if-names.true) (omega (arith, c.if-bit-gt1.true, c.requires))))

pub returns-then-has_other_root : goal.returns-then-has_other_root
returns-then-has_other_root c =
    let s = c.args.self.now.play.bytes.now in
    let k = known c.args.self.now.play in
    let none : no_bit s ≡ false = elim c.if-names.branch [
      | then-names+else-bit-gt1 w ↦
          bit-low sha256 s (sym (c.names.ensures ∙ option-named _ _ k bit_option) ∙ w.if-names.true) (omega (arith, w.if-bit-gt1.false, c.requires))
      | else-names w ↦ bit-none s (sym (c.names.ensures ∙ option-named _ _ k bit_option) ∙ w.if-names.false)
    ] in
    c.if-has_other_root.true
    ∙ sym (unlawful-root sha256 s
    (le-ltb (t_in s) (unnamed (n_in s) 1 (good_in s)) (omega (arith, c.if-parts-count_bad.false, c.count_bad.ensures, k.t-is))) none
    (sym c.has_other_root.ensures ∙ c.if-has_other_root.true))

pub returns-else-has_other_root : goal.returns-else-has_other_root
returns-else-has_other_root c =
    let s = c.args.self.now.play.bytes.now in
    let k = known c.args.self.now.play in
    let none : no_bit s ≡ false = elim c.if-names.branch [
      | then-names+else-bit-gt1 w ↦
          bit-low sha256 s (sym (c.names.ensures ∙ option-named _ _ k bit_option) ∙ w.if-names.true) (omega (arith, w.if-bit-gt1.false, c.requires))
      | else-names w ↦ bit-none s (sym (c.names.ensures ∙ option-named _ _ k bit_option) ∙ w.if-names.false)
    ] in
    c.has_other_bit.ensures
    ∙ sym (unlawful-vote sha256 s
    (le-ltb (t_in s) (unnamed (n_in s) 1 (good_in s)) (omega (arith, c.if-parts-count_bad.false, c.count_bad.ensures, k.t-is))) none
    (sym c.has_other_root.ensures ∙ c.if-has_other_root.false))
