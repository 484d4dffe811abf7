-- The greatest numbers of document 01, the ranges of n and of a party's number, and causes 1 and 2. Assumes nothing.
use Rattle.std.specs.Prelude.{ℕ, ◌+◌, ◌*◌, Bool, cond, not, ◌&&◌, leb}
use Rattle.limits.specs.declared.Greatest.{Greatest}

-- the number of parties is 1 to max_parties
abbrev pub max_parties : ℕ
max_parties = 16

-- a message (document 01: book) has 0 to max_message bytes
abbrev pub max_message : ℕ
max_message = 3072

-- a share has 1 to max_share bytes
abbrev pub max_share : ℕ
max_share = max_message + 2

-- an audit path has up to max_path hashes
abbrev pub max_path : ℕ
max_path = 4

-- a string that is hashed has up to max_hashed bytes
abbrev pub max_hashed : ℕ
max_hashed = 65535

-- an entry of an inbox has up to max_entry bytes behind its length, which has two bytes
abbrev pub max_entry : ℕ
max_entry = 65535

-- a plan has up to max_plan bytes
abbrev pub max_plan : ℕ
max_plan = 60000

abbrev pub greatest : Greatest
greatest =
    record {
      parties = max_parties;
      message = max_message;
      share = max_share;
      path = max_path;
      hashed = max_hashed;
      entry = max_entry;
      plan = max_plan;
    }

-- n is 1 to max_parties
unfoldable pub parties : ℕ → Bool
parties n = leb 1 n && leb n max_parties

-- j is the number of one of n parties: 1 to n
unfoldable pub numbered : ℕ → ℕ → Bool
numbered n j = leb 1 j && leb j n

-- cause 1: n out of its range; cause 2: 2·t ≥ n; 0: neither
unfoldable pub group_cause : ℕ → ℕ → ℕ
group_cause n t = cond (not (parties n)) 1 (cond (leb n (2 * t)) 2 0)
