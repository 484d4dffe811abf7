-- The shares in use are the points used, and each return is one outcome of the definition.
use Rattle.std.proofs.Common.{take, sym, ap, ◌∙◌, arith}
use Rattle.cause.specs.declared.Cause.TheVariants as cause
use Rattle.erasure.specs.Rebuild.{present, answered}
use Rattle.erasure.specs.Arrays.{slices}
use Rattle.erasure.proofs.Arrays.{all-zero}
use Rattle.erasure.proofs.Outcomes.{recovered-few, none-because}
use Rattle.erasure.proofs.Points.{even-lengths, used-count, used-joined, used-framed}
use Rattle.erasure.proofs.recover.Goals as goal

pub returns-in_err-lowest : goal.returns-in_err-lowest
returns-in_err-lowest c =
    let out = c.args.out.now in
    let none = c.in_err-lowest.ensures in
    none-because _ cause.TooFew _ _ out none.ok_part none.value c.from_residual.ensures.1
    ∙ ap (λ r. answered r out) (sym (recovered-few c.args.b (present 1 (slices c.args.shares.now)) (rw none.ok_part at c.lowest_present.ensures)))

pub returns-in_err-s : goal.returns-in_err-s
returns-in_err-s c =
    let b = c.args.b in
    let out = c.args.out.now in
    let none = c.in_err-s.ensures in
    let h = rw c.in_ok-lowest.ensures.ok_part at c.lowest_present.ensures in
    none-because _ cause.NoMessage _ _ out none.ok_part none.value c.from_residual-in_err-s.ensures.1
    ∙ ap (λ r. answered r out)
    (sym (used-joined b (present 1 (slices c.args.shares.now)) (take b c.in_ok-lowest.lowest.shares) c.requires.0 h.0 h.1
    ∙ rw none.ok_part at c.size_of.ensures))

pub whole_frame-requires : goal.whole_frame-requires
whole_frame-requires c =
    let b = c.args.b in
    let us = take b c.in_ok-lowest.lowest.shares in
    let h = rw c.in_ok-lowest.ensures.ok_part at c.lowest_present.ensures in
    let even = rw c.in_ok-s.ensures.ok_part at c.size_of.ensures in
    let n = used-count b (present 1 (slices c.args.shares.now)) us c.requires.0 h.0 h.1 in
    (omega (arith, n), even.2, even-lengths us c.in_ok-s.s even.1, all-zero 3090)

pub returns-in_err-message : goal.returns-in_err-message
returns-in_err-message c =
    let b = c.args.b in
    let out = c.args.out.now in
    let none = c.in_err-message.ensures in
    let h = rw c.in_ok-lowest.ensures.ok_part at c.lowest_present.ensures in
    let even = rw c.in_ok-s.ensures.ok_part at c.size_of.ensures in
    none-because _ cause.NoMessage _ _ out none.ok_part none.value c.from_residual-in_err-message.ensures.1
    ∙ ap (λ r. answered r out)
    (sym (used-framed b (present 1 (slices c.args.shares.now)) (take b c.in_ok-lowest.lowest.shares) c.requires.0 h.0 h.1
    c.in_ok-s.s c.whole_frame.new.frame even.0 even.1 c.whole_frame.ensures
    ∙ rw none.ok_part at c.message_in.ensures))

pub returns : goal.returns
returns c =
    let b = c.args.b in
    let h = rw c.in_ok-lowest.ensures.ok_part at c.lowest_present.ensures in
    let even = rw c.in_ok-s.ensures.ok_part at c.size_of.ensures in
    c.give.ensures
    ∙ ap (λ r. answered r c.args.out.now)
    (sym (used-framed b (present 1 (slices c.args.shares.now)) (take b c.in_ok-lowest.lowest.shares) c.requires.0 h.0 h.1
    c.in_ok-s.s c.whole_frame.new.frame even.0 even.1 c.whole_frame.ensures
    ∙ rw c.in_ok-message.ensures.ok_part at c.message_in.ensures))
