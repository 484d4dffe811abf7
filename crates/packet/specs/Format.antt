-- The bytes of a packet (document 01, "Packets and boxes of packets"), and what bytes say as one. Both ways are proved to be inverse: what
-- `packet_of` gives is read back by `read_of` (`written_read`), and bytes read as a share are `packet_of` of it (`read-written`).
-- Assumes nothing.
use Rattle.std.specs.Prelude.{cond, not, ◌&&◌, ◌||◌, List, [], ◌∷◌, ◌++◌, ℕ, zero, suc, ◌+◌, ◌*◌, ◌/◌, ◌%◌, ltb, eqb, length, get_or, take, drop}
use Rattle.limits.specs.Limits.{max_share, numbered}
use Rattle.merkle.specs.Shares.{sides_of}

-- lists one behind the other, such as the hashes of a path
unfoldable pub chained : List (List ℕ) → List ℕ
chained [] = []
chained (h ∷ hs) = h ++ chained hs

-- the first k hashes, of 32 bytes each, in a list of bytes
unfoldable pub hashes : ℕ → List ℕ → List (List ℕ)
hashes zero s = []
hashes (suc k) s = take 32 s ∷ hashes k (drop 32 s)

-- a share's packet: the map with its values 1, 2 and 4; the number; the length in two bytes and the share; the path
unfoldable pub packet_of : ℕ → List ℕ → List (List ℕ) → List ℕ
packet_of number share path = 0x07 ∷ number ∷ length share / 256 ∷ length share % 256 ∷ (share ++ chained path)

-- an entry of an inbox or an outbox: the packet's length in two bytes, and the packet
unfoldable pub entry_of : List ℕ → List ℕ
entry_of p = length p / 256 ∷ length p % 256 ∷ p

-- what bytes say as a packet
pub data Reading : Type 0 where
  silence unreadable : Reading
  shared : ℕ → List ℕ → List (List ℕ) → Reading

-- the number and the share's length that a packet of map 7 states, and the path's length that n and the number give
abbrev pub number_in : List ℕ → ℕ
number_in p = get_or p 1 0

abbrev pub length_in : List ℕ → ℕ
length_in p = get_or p 2 0 * 256 + get_or p 3 0

abbrev pub count_in : ℕ → List ℕ → ℕ
count_in n p = length (sides_of n (number_in p))

-- a packet of map 7 among n parties is unreadable if its fields' heads are not all there, its number is not that of a party, its
-- share's length is not 1 to max_share, or it is not just as long as its fields
unfoldable pub share_in : ℕ → List ℕ → Reading
share_in n p =
    cond (ltb (length p) 4 || not (numbered n (number_in p)) || ltb (length_in p) 1 || ltb max_share (length_in p)
    || not (eqb (length p) (4 + length_in p + 32 * count_in n p)))
    unreadable
    (shared (number_in p) (take (length_in p) (drop 4 p)) (hashes (count_in n p) (drop (4 + length_in p) p)))

-- no bytes, or the map 0 alone, is silence; a packet of any other map than 7 is unreadable
unfoldable pub read_of : ℕ → List ℕ → Reading
read_of n p =
    cond (eqb (length p) 0) silence
    (cond (eqb (get_or p 0 0) 7) (share_in n p)
    (cond (eqb (get_or p 0 0) 0 && eqb (length p) 1) silence
    unreadable))
