-- A packet judged, by a hash, against the session's number, n, the number demanded of it and the agreed root. Steps 4 and 5 take valid packets alone, and note
-- who sent a faulty one. Assumes nothing.
use Rattle.std.specs.Prelude.{cond, ◌&&◌, List, [], ℕ, eqb, length}
use Rattle.merkle.specs.Shares.{passes, strings_of}
use Rattle.packet.specs.Format.{Reading, silence, unreadable, shared, read_of}

-- silent; valid, with its share and path; or faulty: unreadable, with a share of another number, or with a path that does not lead to the root
pub data Class : Type 0 where
  silent faulty : Class
  valid : List ℕ → List (List ℕ) → Class

module _ (H : List ℕ → List ℕ) where
  abbrev pub judged : ℕ → ℕ → ℕ → List ℕ → Reading → Class
  judged session n j root silence = silent
  judged session n j root unreadable = faulty
  judged session n j root (shared number share path) =
      cond (eqb number j && passes H session n j share path (length path) root) (valid share path) faulty

  unfoldable pub class_of : ℕ → ℕ → ℕ → List ℕ → List ℕ → Class
  class_of session n j root packet = judged session n j root (read_of n packet)

  -- the strings hashed in judging a packet: those of the path check, which is made where the number is the one demanded
  abbrev pub checked_strings : ℕ → ℕ → ℕ → Reading → List (List ℕ)
  checked_strings session n j silence = []
  checked_strings session n j unreadable = []
  checked_strings session n j (shared number share path) = cond (eqb number j) (strings_of H session n j share path (length path)) []

  unfoldable pub class_strings : ℕ → ℕ → ℕ → List ℕ → List (List ℕ)
  class_strings session n j packet = checked_strings session n j (read_of n packet)
