-- What the private functions suppose and give. The hash of the tree is a parameter H. No public contract cites this file. Assumes nothing.
use Rattle.std.specs.Prelude.{cond, List, [], ◌++◌, ℕ, zero, suc, ◌-◌, ◌*◌, ◌≤◌, ◌<◌, eqb, length, take, drop}
use Rattle.limits.specs.Limits.{max_parties, max_message}
use Rattle.merkle.specs.Shares.{sides_of, path_of}
use Rattle.packet.specs.Format.{packet_of, entry_of}

-- a message among n parties with fault limit t, within the limits
pub record Coded (n t : ℕ) (m : List ℕ) : Type 0 where
  pub low : 1 ≤ n
  pub high : n ≤ max_parties
  pub faults : 2 * t < n
  pub short : length m ≤ max_message

module _ (H : List ℕ → List ℕ) where
  -- the entry for party j: its share with its path, but no bytes for the own number
  unfoldable pub entry_with : ℕ → ℕ → List (List ℕ) → ℕ → List ℕ → List ℕ
  entry_with n own leaves j share = entry_of (cond (eqb j own) [] (packet_of j share (take (length (sides_of n j)) (path_of H n j leaves))))

  -- the same with its share among shares of s bytes that lie one behind the other
  abbrev pub entry_for : ℕ → ℕ → ℕ → List ℕ → List (List ℕ) → ℕ → List ℕ
  entry_for n own s shares leaves j = entry_with n own leaves j (take s (drop ((j - 1) * s) shares))

  -- the own relay, with the own share among them
  unfoldable pub relay_for : ℕ → ℕ → ℕ → List ℕ → List (List ℕ) → List ℕ
  relay_for n own s shares leaves =
      cond (eqb n 1) []
      (packet_of own (take s (drop ((own - 1) * s) shares)) (take (length (sides_of n own)) (path_of H n own leaves)))

  -- the entries for parties 1 to k, one behind the other
  unfoldable pub outbox_up_to : ℕ → ℕ → ℕ → ℕ → List ℕ → List (List ℕ) → List ℕ
  outbox_up_to zero n own s shares leaves = []
  outbox_up_to (suc k) n own s shares leaves = outbox_up_to k n own s shares leaves ++ entry_for n own s shares leaves (suc k)
