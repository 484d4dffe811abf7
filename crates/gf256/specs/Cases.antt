-- The worked cases of the field, as document 01 gives them. Assumes nothing.
use Rattle.std.specs.Prelude.{◌≡◌, refl}
use Rattle.gf256.specs.Field.{times_x, product, power, inverse}

-- the product of 0x57 and 0x83 is 0xC1 (FIPS 197, 4.2)
pub product-case : product 0x57 0x83 ≡ 0xC1
unfolding product times_x
product-case = refl

-- the inverse of 0x02 is 0x8D
pub inverse-case : inverse 0x02 ≡ 0x8D
unfolding inverse power product times_x
inverse-case = refl
