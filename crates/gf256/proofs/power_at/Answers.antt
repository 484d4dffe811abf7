-- The table is that of the powers: it is compared whole with those that antt computes by multiplication with 0x03.
use Rattle.gf256.specs.Field.{product, times_x}
use Rattle.gf256.proofs.Tables.{powers, from, powers-at}
use Rattle.gf256.proofs.power_at.Goals as goal

pub returns : goal.returns
unfolding powers from product times_x
returns c = powers-at c.args.i c.requires
