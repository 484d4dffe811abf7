-- Rounding up is the division of one less than the divisor more.
use Rattle.erasure.specs.Coding.{share_length}
use Rattle.erasure.proofs.Frame.{rounded_up}
use Rattle.erasure.proofs.share_length.Goals as goal
use Rattle.std.proofs.Common.{◌∙◌}

pub returns : goal.returns
unfolding share_length
returns c = c.div_ceil.ensures ∙ rounded_up _ _ c.requires.0
