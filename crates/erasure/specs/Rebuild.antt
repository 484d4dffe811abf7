-- The message again from n entries, or from n shares where they lie (document 01, "Rebuild", and causes 8, 11, 12 and 9). Assumes nothing.
use Rattle.std.specs.Prelude.{Bool, true, false, cond, not, ◌&&◌, ◌||◌, List, [], ◌∷◌, ◌++◌, map, ℕ, zero, suc, ◌+◌, ◌-◌, ◌*◌, ◌/◌, ◌%◌, leb, ltb, eqb, length, get_or, take, drop}
use Rattle.limits.specs.Limits.{max_message, max_entry, group_cause}
use Rattle.buffer.specs.Splice.{tabulate}
use Rattle.buffer.specs.Entries.{size, body, rest, fills, bodies}
use Rattle.polynomial.specs.Polynomial.{through}
use Rattle.erasure.specs.Bytes.{bytes}
use Rattle.buffer.specs.Given.{Given, gave, written}
use Rattle.erasure.specs.Coding.{share_length}
use Rattle.erasure.specs.declared.Place.{Place}
use Rattle.buffer.specs.Given.{Refused}

-- a share with its number
pub record Point : Type 0 where
  pub number : ℕ
  pub share : List ℕ

-- the shares present among entries numbered from j on: a length of 0 is a missing one
unfoldable pub present : ℕ → List (List ℕ) → List Point
present j [] = []
present j (e ∷ es) = cond (eqb (length e) 0) (present (j + 1) es) (record { number = j; share = e } ∷ present (j + 1) es)

unfoldable pub point : List Point → ℕ → Point
point ps i = get_or ps i (record { number = 0; share = [] })

-- the frame that has the used shares, all of s bytes: byte c of its block k, which is frame byte k·s + c, is coefficient k of the
-- polynomial through the points (share number, byte c of the share)
unfoldable pub framed : ℕ → ℕ → List Point → List ℕ
framed b s us =
    tabulate (b * s) (λ i. through bytes b (λ m. (point us m).number) (λ m. get_or (point us m).share (i % s) 0) (i / s))

-- a number other than x stands among these
unfoldable pub other : ℕ → List ℕ → Bool
other x [] = false
other x (y ∷ ys) = not (eqb y x) || other x ys

-- a cause, or the message found
pub data Recovered : Type 0 where
  cause : ℕ → Recovered
  message : List ℕ → Recovered

-- the message in a frame f of b blocks of s bytes: an entry, and filling behind it. Cause 12: the frame is under two bytes, L is over
-- the limit, s is not as L gives, or the filling is not all zero
unfoldable pub unframed : ℕ → ℕ → List ℕ → Recovered
unframed b s f =
    cond (ltb (length f) 2 || ltb max_message (size f) || not (eqb s (share_length b (size f))) || other 0 (rest f)) (cause 12)
    (message (body f))

-- the message of b used shares, the first of s bytes. Cause 12: they are unequal in length, or their frame is none
unfoldable pub joined : ℕ → ℕ → List Point → Recovered
joined b s us = cond (other s (map (λ p. length p.share) us)) (cause 12) (unframed b s (framed b s us))

-- the b lowest-numbered present shares are used; fewer are cause 11
unfoldable pub recovered : ℕ → List Point → Recovered
recovered b ps = cond (ltb (length ps) b) (cause 11) (joined b (length (point ps 0).share) (take b ps))

abbrev pub answered : Recovered → List ℕ → Given
answered (cause k) out = gave (Refused k) out
answered (message m) out = written m out

-- the message in a lent buffer: causes 1 and 2, then 8, 11, 12; and 9, which applies only where a message was found
unfoldable pub rebuild_of : ℕ → ℕ → List ℕ → List ℕ → Given
rebuild_of n t es out =
    cond (not (eqb (group_cause n t) 0)) (gave (Refused (group_cause n t)) out)
    (cond (not (fills n es)) (gave (Refused 8) out)
    (answered (recovered (n - t) (present 1 (bodies n es))) out))

-- where share i + 1 lies
abbrev pub place_at : List Place → ℕ → Place
place_at places i = get_or places i (record { from = 0; len = 0 })

-- share i + 1 where it lies in s
abbrev pub part_at : List ℕ → List Place → ℕ → List ℕ
part_at s places i = take (place_at places i).len (drop (place_at places i).from s)

-- shares 1 to n where they lie
unfoldable pub parts_at : ℕ → List ℕ → List Place → List (List ℕ)
parts_at n s places = tabulate n (part_at s places)

-- len bytes from an offset on are none; or they are no more than an entry may have, and lie whole in the first f bytes or in the g behind these
unfoldable pub lies : ℕ → ℕ → ℕ → ℕ → Bool
lies f g from len =
    eqb len 0 || (leb len max_entry && (leb (from + len) f || (leb f from && leb (from + len) (f + g))))

-- shares 1 to n lie so
unfoldable pub all_lie : ℕ → ℕ → ℕ → List Place → Bool
all_lie zero f g places = true
all_lie (suc n) f g places = all_lie n f g places && lies f g (place_at places n).from (place_at places n).len

-- the same as `rebuild_of`, of shares where they lie in x and in y behind it: cause 8 where one does not
unfoldable pub rebuild_at_of : ℕ → ℕ → List ℕ → List ℕ → List Place → List ℕ → Given
rebuild_at_of n t x y places out =
    cond (not (eqb (group_cause n t) 0)) (gave (Refused (group_cause n t)) out)
    (cond (not (all_lie n (length x) (length y) places)) (gave (Refused 8) out)
    (answered (recovered (n - t) (present 1 (parts_at n (x ++ y) places))) out))
