-- The theorems of the coder at work on one message: n 3, t 1, message 0x41 0x42, with shares 1 and 2 in their places and rubbish
-- of another length in place 3. So their premises can be met, and nobody drops a theorem unseen. Assumes nothing.
use mathlib.Core.Path.{◌≡◌, refl, ap, ◌∙◌}
use mathlib.Core.List.{List, [], ◌∷◌, ◌++◌}
use Prim.Native.Nat.{ℕ, zero, suc, ◌<◌, ◌≤◌}
use native.Mathlib.Omega.{arith}
use lib.Dec.{lit<, lit≤}
use lib.ListN.{length, get_or}
use Rattle.limits.specs.Limits.{max_message}
use Rattle.limits.proofs.Group.{group-fine}
use Rattle.gf256.specs.Field.{times_x, product}
use Rattle.buffer.specs.Splice.{tabulate}
use Rattle.polynomial.specs.Polynomial.{sum, pow, value}
use Rattle.buffer.specs.Bounds.{Bytes}
use Rattle.buffer.specs.Given.{written}
use Rattle.erasure.specs.Coding.{share_length, headed, frame, block, share_byte, share_of, share}
use Rattle.erasure.specs.Rebuild.{Recovered, point, present, recovered, message, answered, part_at, rebuild_at_of}
use Rattle.erasure.specs.Arrays.{Lie}
use Rattle.erasure.specs.declared.Place.{Place}
use Rattle.erasure.proofs.Complete.{complete}
use Rattle.erasure.proofs.Sound.{sound}
use Rattle.erasure.proofs.Injective.{injective}
use Rattle.erasure.proofs.Placed.{in-one-lies, part-first, part-second, rebuild-at-fine}

abbrev ab : List ℕ
ab = 0x41 ∷ 0x42 ∷ []

abbrev entries : List (List ℕ)
entries = (0x41 ∷ 0x40 ∷ []) ∷ (0x82 ∷ 0x86 ∷ []) ∷ (0xEE ∷ []) ∷ []

pub two_bytes : (a b : ℕ) → a < 256 → b < 256 → Bytes (a ∷ b ∷ [])
two_bytes a b ha hb zero = ha
two_bytes a b ha hb (suc zero) = hb
two_bytes a b ha hb (suc (suc i)) = lit< tt

-- the shares in places 1 and 2 are the message's own
own : (i : ℕ) → i < 2 → (point (present 1 entries) i).share ≡ share 2 (point (present 1 entries) i).number ab
unfolding point present share share_of share_byte share_length frame headed block tabulate value sum pow product times_x
own zero h = refl
own (suc zero) h = refl
own (suc (suc i)) h = absurd (omega arith)

pub rebuilt : recovered 2 (present 1 entries) ≡ message ab
unfolding present
rebuilt = complete 2 ab entries (lit≤ tt) (lit< tt) (two_bytes 0x41 0x42 (lit< tt) (lit< tt)) (lit≤ tt) (lit≤ tt) own

-- the same where they lie: share 1 in the first of two strings, the others in the second
abbrev first : List ℕ
first = 0x41 ∷ 0x40 ∷ 0x07 ∷ []

abbrev second : List ℕ
second = 0xEE ∷ 0x82 ∷ 0x86 ∷ []

abbrev places : List Place
places = record { from = 0; len = 2 } ∷ record { from = 4; len = 2 } ∷ record { from = 3; len = 1 } ∷ []

lie : Lie 3 3 3 places
lie zero h = in-one-lies 3 3 0 2 (lit≤ tt) (λ q. lit≤ tt, lit≤ tt)
lie (suc zero) h = in-one-lies 3 3 4 2 (lit≤ tt) (λ q. absurd (omega arith), lit≤ tt)
lie (suc (suc zero)) h = in-one-lies 3 3 3 1 (lit≤ tt) (λ q. absurd (omega arith), lit≤ tt)
lie (suc (suc (suc i))) h = absurd (omega arith)

each : (i : ℕ) → i < 3 → part_at (first ++ second) places i ≡ get_or entries i []
each zero h = part-first first second 0 2 (lit≤ tt)
each (suc zero) h = part-second first second 4 2 (lit≤ tt)
each (suc (suc zero)) h = part-second first second 3 1 (lit≤ tt)
each (suc (suc (suc i))) h = absurd (omega arith)

pub rebuilt-at : (out : List ℕ) → rebuild_at_of 3 1 first second places out ≡ written ab out
rebuilt-at out =
    rebuild-at-fine 3 1 first second places out entries (group-fine 3 1 (lit≤ tt) (lit≤ tt) (lit< tt)) lie refl each
    ∙ ap (λ (r : Recovered). answered r out) rebuilt

used-bytes : (i : ℕ) → i < 2 → Bytes (point (present 1 entries) i).share
unfolding point present
used-bytes zero h = two_bytes 0x41 0x40 (lit< tt) (lit< tt)
used-bytes (suc zero) h = two_bytes 0x82 0x86 (lit< tt) (lit< tt)
used-bytes (suc (suc i)) h = absurd (omega arith)

pub rebuilt-has : (i : ℕ) → i < 2 → (point (present 1 entries) i).share ≡ share 2 (point (present 1 entries) i).number ab
rebuilt-has = (sound 2 ab entries (lit≤ tt) (lit< tt) rebuilt used-bytes).1

pub only : (m : List ℕ) → Bytes m → length m ≤ max_message → ((j : ℕ) → 1 ≤ j → j ≤ 3 → share 2 j ab ≡ share 2 j m) → ab ≡ m
only m small short e =
    injective 2 3 ab m (lit≤ tt) (lit≤ tt) (lit< tt) (two_bytes 0x41 0x42 (lit< tt) (lit< tt)) small (lit≤ tt) short e
