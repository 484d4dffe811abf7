-- What the arguments of the private functions stand for. No public contract cites this file. Assumes nothing.
use Rattle.std.specs.Prelude.{true, List, [], ◌++◌, ◌≡◌, ℕ, zero, suc, ◌+◌, ◌<◌, ◌≤◌, length, map}
use Rattle.std.specs.Borrow.{Bor}
use Rattle.erasure.specs.Coding.{share_of}
use Rattle.erasure.specs.Rebuild.{Point, point, place_at, lies}
use Rattle.erasure.specs.declared.Place.{Place}
use Rattle.erasure.specs.declared.Share.{Share}

-- shares 1 to n of a frame of b blocks of s bytes
unfoldable pub shares_of : ℕ → ℕ → ℕ → List ℕ → List ℕ
shares_of zero b s f = []
shares_of (suc n) b s f = shares_of n b s f ++ share_of b s f (suc n)

-- len bytes from a place on lie whole in the first f bytes or in the g behind these: where they begin in the first, they end there
abbrev pub InOne : ℕ → ℕ → ℕ → ℕ → Type 0
InOne f g from len = (from < f → from + len ≤ f) × (from + len ≤ f + g)

-- shares 1 to n lie so or are missing, and none is longer than an entry
abbrev pub Lie : ℕ → ℕ → ℕ → List Place → Type 0
Lie n f g places = (i : ℕ) → i < n → lies f g (place_at places i).from (place_at places i).len ≡ true

-- what slices have
abbrev pub slices : List (Bor (List ℕ)) → List (List ℕ)
slices xs = map (λ x. x.now) xs

-- the points that shares with their numbers are, and the number of each
abbrev pub points : List Share → List Point
points xs = map (λ x. record { number = x.number; share = x.bytes.now }) xs

abbrev pub number_of : List Share → ℕ → ℕ
number_of xs m = (point (points xs) m).number

-- the length of the first of them
abbrev pub size_of : List Share → ℕ
size_of xs = length (point (points xs) 0).share
