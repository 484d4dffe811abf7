-- The table is that of the exponents: it is compared whole with the places of the bytes among the powers that antt computes.
use Rattle.gf256.specs.Field.{product, times_x}
use Rattle.gf256.proofs.Tables.{exponents, places, place, powers, from, exponent-at}
use Rattle.gf256.proofs.exponent_of.Goals as goal

pub returns : goal.returns
unfolding exponents places place powers from product times_x
returns c = rw (c.from-2.ensures, c.from.ensures) (exponent-at c.args.a c.requires c.ranges.a.fits)
