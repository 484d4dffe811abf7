-- The strings at which agreement needs the hash, beside all that were hashed: of a happy party those of its message's coding, of another those of the
-- path checks of the relays that it takes shares from, its own relay among them. Assumes nothing.
use mathlib.Core.Path.{◌≡◌}
use mathlib.Core.Bool.{Bool, true, false, cond}
use mathlib.Core.List.{List, Memᴰ}
use Prim.Native.Nat.{ℕ, ◌-◌}
use lib.Dec.{eqb}
use Rattle.erasure.specs.Coding.{shares}
use Rattle.merkle.specs.Shares.{same, coding_strings}
use Rattle.packet.specs.Class.{valid, class_of, class_strings}
use Rattle.commitment.specs.Commitment.{message_root}
use Rattle.agreement.specs.Calls.{Call, heard, wrote, first_of}
use Rattle.agreement.specs.Agreement.{Good}

-- a party that opened with the message m is happy with the agreed root z
abbrev pub glad : (List ℕ → List ℕ) → ℕ → ℕ → ℕ → List ℕ → List ℕ → Bool
glad H session n t m z = same (message_root H session n t m) z

abbrev pub is_glad : (List ℕ → List ℕ) → ℕ → ℕ → ℕ → List ℕ → Good → Bool
is_glad H session n t z A = glad H session n t A.message z

module _ (H : List ℕ → List ℕ) (session n t i : ℕ) (m : List ℕ) (calls : List Call) where
  -- party j's relay, as party i has it: its own as it wrote it, another's as it heard it
  abbrev pub relay_from : ℕ → List ℕ
  relay_from j = cond (eqb j i) (wrote (first_of H session n t i m calls 4)) (heard n j (first_of H session n t i m calls 5))

  pub data Needs (z s : List ℕ) : Type 0 where
    coding : glad H session n t m z ≡ true → Memᴰ s (coding_strings H session n (shares n (n - t) m)) → Needs z s
    check : glad H session n t m z ≡ false → (j : ℕ) (x : List ℕ) (p : List (List ℕ)) → class_of H session n j z (relay_from j) ≡ valid x p
        → Memᴰ s (class_strings H session n j (relay_from j)) → Needs z s

-- of some good party
abbrev pub Needed : (List ℕ → List ℕ) → ℕ → ℕ → ℕ → List Good → List ℕ → List ℕ → Type 0
Needed H session n t good z s = (A : Good) × Memᴰ A good × Needs H session n t A.own A.message A.calls z s
