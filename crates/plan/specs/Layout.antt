-- The layout of a plan (document 01, "The rehearsal"): n, t, an option map, the fields of the options that it names, a map of good parties, their
-- books, and for each exchange the blocks of the bad parties. Where one party sends (document 02, No. 5), its book alone is listed, if it is good; if it is
-- not, no book is, and a block of its own stands before the first exchange. A plan may give the sitting's number (No. 6). Assumes nothing.
use Rattle.std.specs.Prelude.{Bool, true, false, cond, not, ◌&&◌, ◌||◌, List, [], ◌∷◌, ℕ, zero, suc, ◌+◌, ◌-◌, ◌^◌, ltb, leb, eqb, length, get_or, take, drop}
use Rattle.std.proofs.Math.Option.{Option, none, some}
use Rattle.limits.specs.Limits.{max_message, numbered}
use Rattle.buffer.specs.Entries.{size, body, rest}
use Rattle.bitmap.specs.Bitmap.{names, up_to, only}
use Rattle.buffer.specs.Numbers.{number}

-- a map has two bytes
abbrev pub map_width : ℕ
map_width = 2

-- q is one of n parties, and a map names it
abbrev pub member : ℕ → ℕ → ℕ → Bool
member n map q = numbered n q && names map q

-- how many of k parties from p on a map does not name
unfoldable pub unnamed : ℕ → ℕ → ℕ → ℕ
unnamed zero p g = 0
unnamed (suc k) p g = cond (names g p) 0 1 + unnamed k (p + 1) g

-- the lowest party from p on, of k, that a map names; 0 if there is none
unfoldable pub lowest : ℕ → ℕ → ℕ → ℕ
lowest zero p g = 0
lowest (suc k) p g = cond (names g p) p (lowest k (p + 1) g)

-- all of the first k numbers pass a test
unfoldable pub every : (ℕ → Bool) → ℕ → Bool
every test zero = true
every test (suc k) = test (k + 1) && every test k

-- of n parties, all that the map r names are named by g too
abbrev pub within : ℕ → ℕ → ℕ → Bool
within n r g = every (λ p. cond (names r p) (names g p) true) n

abbrev pub and_then : Option (List ℕ) → (List ℕ → Option (List ℕ)) → Option (List ℕ)
and_then none f = none
and_then (some s) f = f s

abbrev pub or_empty : Option (List ℕ) → List ℕ
or_empty none = []
or_empty (some s) = s

-- of the first k numbers, those that `takes` tells take a step each, one after the other: what stands behind them, none if a step finds nothing
unfoldable pub walk : (ℕ → Bool) → (List ℕ → Option (List ℕ)) → ℕ → List ℕ → Option (List ℕ)
walk takes step zero s = some s
walk takes step (suc k) s = cond (takes (k + 1)) (and_then (walk takes step k s) step) (walk takes step k s)

-- an entry; the entries of the first k parties, one for each that a map names; and what stands behind them, none if one runs short
unfoldable pub skip_entry : List ℕ → Option (List ℕ)
skip_entry s = cond (ltb (length s) (2 + size s)) none (some (rest s))

abbrev pub skip_entries : ℕ → ℕ → List ℕ → Option (List ℕ)
skip_entries k map s = walk (names map) skip_entry k s

-- the bytes of party q's entry, which stands behind those of lower parties; no bytes if it has none
unfoldable pub party_entry : ℕ → ℕ → ℕ → List ℕ → List ℕ
party_entry n map q s = cond (member n map q) (body (or_empty (skip_entries (q - 1) map s))) []

-- no book among them is over the greatest length
abbrev pub books_fit : ℕ → ℕ → List ℕ → Bool
books_fit n map s = every (λ p. leb (length (party_entry n map p s)) max_message) n

-- a bad party's block: a map of receivers, who are good parties up to n, and an entry for each; what stands behind it
unfoldable pub skip_block : ℕ → ℕ → List ℕ → Option (List ℕ)
skip_block n g s =
    cond (ltb (length s) map_width || not (up_to n (size s)) || not (within n (size s) g)) none (skip_entries n (size s) (drop map_width s))

-- what it has for party i; no bytes if it does not name i
abbrev pub block_entry : ℕ → ℕ → List ℕ → List ℕ
block_entry n i s = party_entry n (size s) i (drop map_width s)

-- the blocks of the first k parties, one for each bad one; and an exchange, the blocks of all n
abbrev pub skip_blocks : ℕ → ℕ → ℕ → List ℕ → Option (List ℕ)
skip_blocks k n g s = walk (λ p. not (names g p)) (skip_block n g) k s

abbrev pub skip_exchange : ℕ → ℕ → List ℕ → Option (List ℕ)
skip_exchange n g s = skip_blocks n n g s

-- what bad party q sends to party i in it, by q's block, which stands behind those of lower bad parties
unfoldable pub packet_from : ℕ → ℕ → ℕ → ℕ → List ℕ → List ℕ
packet_from n g q i s = cond (numbered n q && not (names g q)) (block_entry n i (or_empty (skip_blocks (q - 1) n g s))) []

-- Options are numbered from 1 and named by the option map, as parties are by theirs: a root, then a bit, then a sender, then the session's number. The bytes
-- of the field of each, in this order.
abbrev pub fields : List ℕ
fields = 32 ∷ 1 ∷ 1 ∷ 4 ∷ []

abbrev pub root_option : ℕ
root_option = 1

abbrev pub bit_option : ℕ
bit_option = 2

abbrev pub sender_option : ℕ
sender_option = 3

abbrev pub session_option : ℕ
session_option = 4

-- the bytes of the fields of those of the first k options that a map names
unfoldable pub field_bytes : ℕ → ℕ → ℕ
field_bytes zero options = 0
field_bytes (suc k) options = field_bytes k options + cond (names options (k + 1)) (get_or fields k 0) 0

-- the offset of option k's field: n, t, the option map and the fields of lower options stand before it
abbrev pub field_at : ℕ → ℕ → ℕ
field_at options k = 3 + field_bytes (k - 1) options

-- the parts of a plan s: n, t and the options; the field of an option; the map of good parties, behind all fields; and what stands from the
-- books on
abbrev pub n_in : List ℕ → ℕ
n_in s = get_or s 0 0

abbrev pub t_in : List ℕ → ℕ
t_in s = get_or s 1 0

abbrev pub options_in : List ℕ → ℕ
options_in s = get_or s 2 0

abbrev pub field_in : ℕ → List ℕ → List ℕ
field_in k s = take (get_or fields (k - 1) 0) (drop (field_at (options_in s) k) s)

abbrev pub has_root : List ℕ → Bool
has_root s = names (options_in s) root_option

abbrev pub root_in : List ℕ → List ℕ
root_in s = field_in root_option s

abbrev pub has_bit : List ℕ → Bool
has_bit s = names (options_in s) bit_option

abbrev pub bit_in : List ℕ → ℕ
bit_in s = get_or s (field_at (options_in s) bit_option) 0

abbrev pub has_sender : List ℕ → Bool
has_sender s = names (options_in s) sender_option

abbrev pub sender_in : List ℕ → ℕ
sender_in s = get_or s (field_at (options_in s) sender_option) 0

abbrev pub has_session : List ℕ → Bool
has_session s = names (options_in s) session_option

abbrev pub session_in : List ℕ → ℕ
session_in s = number (drop (field_at (options_in s) session_option) s)

-- the session's number, which is document 02's sitting number (No. 6): the one that is given, or 0
unfoldable pub session_of : List ℕ → ℕ
session_of s = cond (has_session s) (session_in s) 0

abbrev pub good_at : List ℕ → ℕ
good_at s = field_at (options_in s) (length fields + 1)

abbrev pub good_in : List ℕ → ℕ
good_in s = size (drop (good_at s) s)

abbrev pub books_in : List ℕ → List ℕ
books_in s = drop (good_at s + map_width) s

-- there is a sender and it is a good party; there is one and it is not, as where its number is none of the n parties'
abbrev pub good_sender : List ℕ → Bool
good_sender s = has_sender s && member (n_in s) (good_in s) (sender_in s)

abbrev pub bad_sender : List ℕ → Bool
bad_sender s = has_sender s && not (member (n_in s) (good_in s) (sender_in s))

-- the map of those whose books are listed: all good parties, a good sender alone, or none where the sender is bad
unfoldable pub holders : List ℕ → ℕ
holders s = cond (has_sender s) (cond (good_sender s) (only (sender_in s)) 0) (good_in s)

-- what stands behind the books; there, what a bad sender sends to party i, no bytes if there is none; and what stands behind its block
unfoldable pub behind_books : List ℕ → List ℕ
behind_books s = or_empty (skip_entries (n_in s) (holders s) (books_in s))

unfoldable pub sender_packet : ℕ → List ℕ → List ℕ
sender_packet i s = cond (bad_sender s) (block_entry (n_in s) i (behind_books s)) []

abbrev pub skip_sender : List ℕ → List ℕ → Option (List ℕ)
skip_sender s x = cond (bad_sender s) (skip_block (n_in s) (good_in s) x) (some x)

-- how many exchanges there are, and what stands behind e of them
abbrev pub exchanges : ℕ
exchanges = 2

abbrev pub skip_exchanges : ℕ → ℕ → ℕ → List ℕ → Option (List ℕ)
skip_exchanges e n g s = walk (λ k. true) (skip_exchange n g) e s

-- from exchange e on, counted from 0: the first one stands behind the books and a bad sender's block
unfoldable pub exchange_in : ℕ → List ℕ → List ℕ
exchange_in e s = or_empty (skip_exchanges e (n_in s) (good_in s) (or_empty (skip_sender s (behind_books s))))

abbrev pub exchange_at : ℕ → List ℕ → ℕ
exchange_at e s = length s - length (exchange_in e s)

-- the plan is well laid out behind n and t: the fields and the map of good parties are there, the options are known, that map names none
-- beyond n, the entries and blocks are all there, and no byte is left over
unfoldable pub end_of : List ℕ → Option (List ℕ)
end_of s =
    cond
    (ltb (length s) (good_at s + map_width) || not (ltb (options_in s) (2 ^ length fields)) || not (up_to (n_in s) (good_in s))) none
    (and_then (and_then (skip_entries (n_in s) (holders s) (books_in s)) (skip_sender s)) (skip_exchanges exchanges (n_in s) (good_in s)))

abbrev pub empty : Option (List ℕ) → Bool
empty none = false
empty (some s) = eqb (length s) 0

unfoldable pub laid_out : List ℕ → Bool
laid_out s = empty (end_of s)
