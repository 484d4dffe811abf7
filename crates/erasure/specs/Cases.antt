-- The cases of document 01 on the field and the coder that are marked P, in one table, which the definitions satisfy by computation.
-- Assumes nothing.
use Rattle.std.specs.Prelude.{◌≡◌, refl, List, [], ◌∷◌, ℕ, drop, replicate}
use Rattle.gf256.specs.Field.{times_x, product, power, inverse}
use Rattle.gf256.specs.Cases.{product-case, inverse-case}
use Rattle.limits.specs.Limits.{parties, group_cause}
use Rattle.buffer.specs.Splice.{spliced, tabulate}
use Rattle.buffer.specs.Entries.{size, body, rest, fills, bodies}
use Rattle.polynomial.specs.Polynomial.{sum, pow, value, factor, unit, numerator, denominator, basis, through}
use Rattle.buffer.specs.Given.{gave, written}
use Rattle.erasure.specs.Coding.{share_length, headed, frame, block, share_byte, share_of, share, shares, encode_of}
use Rattle.erasure.specs.Rebuild.{present, point, framed, other, unframed, joined, recovered, rebuild_of}
use Rattle.buffer.specs.Given.{Done}

-- the message 0x41 0x42, and the entries of its shares 2 and 3 alone, for n 3 and t 1
abbrev ab : List ℕ
ab = 0x41 ∷ 0x42 ∷ []

abbrev two-and-three : List ℕ
two-and-three = 0 ∷ 0 ∷ 0 ∷ 2 ∷ 0x82 ∷ 0x86 ∷ 0 ∷ 2 ∷ 0xC3 ∷ 0xC4 ∷ []

pub record Cases : Type 0 where
  -- 0x57 times 0x83 = 0xC1; inverse of 0x02 is 0x8D
  pub product-of : product 0x57 0x83 ≡ 0xC1
  pub inverse-of : inverse 0x02 ≡ 0x8D
  -- n 3, t 1, book 0x41 0x42: shares 41 40, 82 86, C3 C4
  pub three : encode_of 3 1 ab (replicate 6 9) ≡ gave (Done 6) (0x41 ∷ 0x40 ∷ 0x82 ∷ 0x86 ∷ 0xC3 ∷ 0xC4 ∷ [])
  -- shares 2 and 3 of it alone rebuild it
  pub rebuilt : rebuild_of 3 1 two-and-three (7 ∷ 8 ∷ 9 ∷ []) ≡ gave (Done 2) (0x41 ∷ 0x42 ∷ 9 ∷ [])
  -- n 5, t 2, same book: share 4 is 1F 11, share 5 is 5E 53 (they stand behind three shares of two bytes)
  pub five : (encode_of 5 2 ab (replicate 10 9)).answer ≡ Done 10
  pub five-last : drop 6 (encode_of 5 2 ab (replicate 10 9)).buffer ≡ 0x1F ∷ 0x11 ∷ 0x5E ∷ 0x53 ∷ []
  -- n 2, t 0, book 0x41: shares 41 01, 82 01
  pub two : encode_of 2 0 (0x41 ∷ []) (replicate 4 9) ≡ gave (Done 4) (0x41 ∷ 0x01 ∷ 0x82 ∷ 0x01 ∷ [])
  -- empty book, n 3, t 1: three shares of one zero byte
  pub empty : encode_of 3 1 [] (replicate 3 9) ≡ gave (Done 3) (0 ∷ 0 ∷ 0 ∷ [])

pub cases : Cases
unfolding encode_of shares share share_of share_byte share_length frame headed block tabulate value sum pow product times_x power inverse rebuild_of parties group_cause
    fills bodies size body rest present point recovered joined framed other unframed written spliced through basis numerator denominator
    factor unit
cases = record {
  product-of = product-case;
  inverse-of = inverse-case;
  three = refl;
  rebuilt = refl;
  five = refl;
  five-last = refl;
  two = refl;
  empty = refl;
}
