-- The bytes of an inbox or an outbox (document 01, "Packets and boxes of packets"). Assumes nothing.
use Rattle.std.specs.Prelude.{List, [], ◌∷◌, ◌++◌, ℕ}
use Rattle.packet.specs.Format.{entry_of}

-- a packet of up to max_entry bytes for each of the senders (or receivers) from 1 on, one behind the other, each with its length in two
-- bytes before it; of no bytes where nothing is sent
unfoldable pub inbox_of : List (List ℕ) → List ℕ
inbox_of [] = []
inbox_of (p ∷ ps) = entry_of p ++ inbox_of ps
