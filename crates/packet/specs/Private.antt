-- What the writer lays down, and what the laws of a walk over an inbox say of a packet in it. No public contract of this crate cites this file. Assumes
-- nothing.
use Rattle.std.specs.Prelude.{◌≡◌, List, ◌∷◌, ◌++◌, ℕ, ◌+◌, ◌*◌, ◌/◌, ◌%◌, ◌≤◌, length, take, drop}
use Rattle.limits.specs.Limits.{max_share, max_path}
use Rattle.buffer.specs.Entries.{size}
use Rattle.packet.specs.Format.{hashes}
use Rattle.packet.specs.Class.{Class, silent, faulty, valid}
use Rattle.packet.specs.Packet.{Packet}
use Rattle.packet.specs.Packet as packet
use Rattle.packet.specs.Judged.{Judged}
use Rattle.packet.specs.Judged as judged

-- a share's packet, with the bytes of its path as they stand one behind the other
abbrev pub laid : ℕ → List ℕ → List ℕ → List ℕ
laid number share path = 0x07 ∷ number ∷ length share / 256 ∷ length share % 256 ∷ (share ++ path)

-- the packet of the entry at a place of s
abbrev pub body_at : ℕ → List ℕ → List ℕ
body_at at s = take (size (drop at s)) (drop (at + 2) s)

-- the judgement of a packet of a class
abbrev pub verdict_for : Class → Judged
verdict_for silent = judged.Silent
verdict_for faulty = judged.Faulty
verdict_for (valid share path) = judged.Valid

-- a share and its path, by their place in a list of bytes
pub record Lies (s : List ℕ) (share : List ℕ) (path : List (List ℕ)) (from len count : ℕ) : Type 0 where
  pub some : 1 ≤ len
  pub most : len ≤ max_share
  pub few : count ≤ max_path
  pub inside : from + len + 32 * count ≤ length s
  pub share_lies : share ≡ take len (drop from s)
  pub path-lies : path ≡ hashes count (drop (from + len) s)

-- a packet in which no share was read
abbrev pub NoShare : Packet → Type 0
NoShare (packet.Refused k) = Unit {0}
NoShare packet.Silence = Unit {0}
NoShare (packet.Share number from len count) = ⊥

-- a class that steps 4 and 5 do not take, and one that they take, with the share at a place of s
abbrev pub PassedOver : Class → Type 0
PassedOver silent = Unit {0}
PassedOver faulty = Unit {0}
PassedOver (valid share path) = ⊥

abbrev pub TakenAt : List ℕ → ℕ → ℕ → ℕ → Class → Type 0
TakenAt s from len count silent = ⊥
TakenAt s from len count faulty = ⊥
TakenAt s from len count (valid share path) = Lies s share path from len count
