-- The side of a sibling, as the private functions tell it. No public contract cites this file. Assumes nothing.
use Rattle.std.specs.Prelude.{Bool, true, false}
use Rattle.merkle.specs.Tree.{Side, on_left, on_right}

-- by whether it stands on the right
abbrev pub side_of : Bool → Side
side_of true = on_right
side_of false = on_left
