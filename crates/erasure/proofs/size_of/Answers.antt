-- The shares are unequal, or no message has shares so long.
use Rattle.std.proofs.Common.{length, sym, ◌∙◌}
use Rattle.erasure.specs.Arrays.{points}
use Rattle.erasure.proofs.Frame.{long-share, long-frame}
use Rattle.erasure.proofs.Outcomes.{joined-uneven, joined-even}
use Rattle.erasure.proofs.Points.{size_at}
use Rattle.erasure.proofs.size_of.Goals as goal
use Rattle.erasure.proofs.size_of.Goals.{then-uneven-via-then-uneven, then-uneven-via-else-uneven+then-s-gt-MAX_SHARE, then-uneven-via-else-uneven+else-s-gt-MAX_SHARE+then-shares-s-gt-MAX_FRAME}

pub returns-then-uneven : goal.returns-then-uneven
returns-then-uneven c =
    let us = c.args.shares.now in
    let b = length us in
    let test = sym c.uneven.ensures in
    rw (size_at us c.requires.0) (elim c.then-uneven.branch [
      | then-uneven-via-then-uneven w ↦ joined-uneven b _ (points us) (test ∙ w.if-uneven.true)
      | then-uneven-via-else-uneven+then-s-gt-MAX_SHARE w ↦
          joined-even b _ (points us) (test ∙ w.if-uneven.false) ∙ long-share b _ _ c.requires.0 w.if-s-gt-MAX_SHARE.true
      | then-uneven-via-else-uneven+else-s-gt-MAX_SHARE+then-shares-s-gt-MAX_FRAME w ↦
          joined-even b _ (points us) (test ∙ w.if-uneven.false)
          ∙ long-frame b _ _ c.requires.0 c.requires.1 w.if-shares-s-gt-MAX_FRAME.true
    ])

pub returns : goal.returns
returns c = (sym (size_at c.args.shares.now c.requires.0), sym c.uneven.ensures ∙ c.if-uneven.false, c.if-shares-s-gt-MAX_FRAME.false)
