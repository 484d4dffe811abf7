-- What a private function gives for the end of a message. No public contract cites this file. Assumes nothing.
use Rattle.std.specs.Prelude.{ℕ, ◌/◌, List, ◌++◌, length}
use Rattle.sha256.specs.Sha256.{padding, hash_value, digest_of}

-- the digest of a message of n bytes that ends with s, where H is the hash value of the blocks before s
unfoldable pub digest_from : List ℕ → List ℕ → ℕ → List ℕ
digest_from H s n = let padded = s ++ padding n in digest_of (hash_value H (length padded / 64) padded)
