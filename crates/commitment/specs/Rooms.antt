-- How long what a party writes can be: no packet is over max_packet, no outbox over max_outbox (proved: `Rooms`). All shares of one message
-- together are not over max_shares, so an outbox is far below as many of the longest packets. Assumes nothing.
use Rattle.std.specs.Prelude.{ℕ, ◌+◌, ◌*◌}
use Rattle.limits.specs.Limits.{max_parties, max_share, max_path}

abbrev pub max_packet : ℕ
max_packet = 4 + max_share + 32 * max_path

abbrev pub max_shares : ℕ
max_shares = 2 * (max_share + max_parties)

-- beside its share, each entry has its length, map, number, share length and path
abbrev pub max_outbox : ℕ
max_outbox = max_shares + max_parties * (6 + 32 * max_path)
