-- What a party sends from the shares of a message, with the hash that the code uses. No public contract cites this file. Assumes nothing.
use Rattle.std.specs.Prelude.{Bool, cond, List, ℕ}
use Rattle.sha256.specs.Sha256.{sha256}
use Rattle.commitment.specs.Private.{relay_for, entry_for, outbox_up_to}
use Rattle.commitment.specs.declared.shares.Shares.{Shares}

-- its relay; its outbox's entry for party j, the entries for parties 1 to k, and all
abbrev pub relay : Shares → List ℕ
relay s = relay_for sha256 s.seat.n s.seat.own s.len s.all.now s.leaves.now

abbrev pub entry : Shares → ℕ → List ℕ
entry s = entry_for sha256 s.seat.n s.seat.own s.len s.all.now s.leaves.now

abbrev pub outbox_to : Shares → ℕ → List ℕ
outbox_to s k = outbox_up_to sha256 k s.seat.n s.seat.own s.len s.all.now s.leaves.now

abbrev pub outbox : Shares → List ℕ
outbox s = outbox_to s s.seat.n

-- what it sends: its relay, or else its outbox
abbrev pub mail : Bool → Shares → List ℕ
mail relays s = cond relays (relay s) (outbox s)
