use Rattle.std.proofs.Common.{◌≡◌, ℕ, ◌<◌, ◌≤◌, length, get_or}
use Rattle.limits.specs.Limits.{max_parties}
use Rattle.erasure.specs.Rebuild.{place_at}
use Rattle.party.specs.Private.{Lies_as}
use Rattle.party.specs.declared.Finding.TheVariants.{Silent}
use Rattle.party.proofs.places.Given as goal

abbrev pub invariant-loop-i : goal.invariant-loop-i
invariant-loop-i l =
    record {
      count : length l.places ≡ max_parties;
      lie : (k : ℕ) → k < l.i → Lies_as (get_or l.found k Silent) (place_at l.places k);
      none : (k : ℕ) → l.i ≤ k → (place_at l.places k).len ≡ 0;
    }
