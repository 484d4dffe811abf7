-- The maps of parties seen to be faulty, for any hash: a map names a sender exactly if one of its packets was faulty, and it names neither the party itself
-- nor anyone beyond n, so that no state with such a map is broken by it. By the laws of maps. Assumes nothing.
use mathlib.Core.Path.{◌≡◌, refl, ap, ap₂, ◌∙◌}
use mathlib.Core.Bool.{Bool, true, false, cond, ◌||◌}
use mathlib.Core.List.{List}
use Prim.Native.Nat.{ℕ, ◌-◌, ◌/◌, ◌%◌, ◌^◌, ◌≤◌, ◌<◌}
use native.Mathlib.Nat.{div-eq_of_lt, one-le-pow}
use native.Mathlib.Omega.{arith}
use borrow.Author.Tests.{lt-ltb, eq-eqb}
use lib.Dec.{eqb}
use Rattle.bitmap.specs.Bitmap.{names}
use Rattle.bitmap.proofs.Collected.{map-small, map-names}
use Rattle.party.specs.State.{has_ended, stray}
use Rattle.party.specs.Steps.{sent_faulty, faulty_in, faulty_shares, faulty_relays, faulty_of}
use Rattle.party.specs.Private.{Fit}
use Rattle.party.specs.declared.Party.{Party}

-- a map that a party with this number may hold among n parties
pub record Holds (n own f : ℕ) : Type 0 where
  pub named : f < 2 ^ n
  pub others : names f own ≡ false

-- the empty one
pub names-none : (p : ℕ) → names 0 p ≡ false
names-none p =
    let e : 0 / 2 ^ (p - 1) ≡ 0 = div-eq_of_lt (one-le-pow (p - 1) 2 (omega arith)) in
    ap (λ (q : ℕ). eqb (q % 2) 1) e

pub holds-empty : (n own : ℕ) → Holds n own 0
holds-empty n own = record { named = one-le-pow n 2 (omega arith); others = names-none own }

-- a state with such a map is not broken by it
pub holds-fine : (x : Party) → Holds x.seat.n x.seat.own x.faulty → stray x ≡ false
holds-fine x h = rw (lt-ltb x.faulty (2 ^ x.seat.n) h.named) h.others

pub holds-fit : (x : Party) → Fit x → Holds x.seat.n x.seat.own x.faulty
holds-fit x f = record { named = f.named; others = f.others }

module _ (H : List ℕ → List ℕ) where
  -- the own entry never counts
  pub own-entry : (session n own : ℕ) (z inbox : List ℕ) (number : ℕ) → sent_faulty H session n own z inbox number own ≡ false
  unfolding sent_faulty
  own-entry session n own z inbox number = rw (eq-eqb own own refl)

  module _ (x : Party) (inbox : List ℕ) where
    -- whom the first inbox brings into the map, and whom the second
    pub shares-name : (p : ℕ) → 1 ≤ p → p ≤ x.seat.n → names (faulty_shares H x inbox) p ≡ faulty_in H x inbox x.seat.own p
    unfolding faulty_shares
    shares-name p a b = map-names (faulty_in H x inbox x.seat.own) x.seat.n p a b

    pub relays-name : (p : ℕ) → 1 ≤ p → p ≤ x.seat.n → names (faulty_relays H x inbox) p ≡ names x.faulty p || faulty_in H x inbox p p
    unfolding faulty_relays
    relays-name p a b = map-names (λ p. names x.faulty p || faulty_in H x inbox p p) x.seat.n p a b

    module _ (f : Fit x) where
      pub holds-shares : Holds x.seat.n x.seat.own (faulty_shares H x inbox)
      unfolding faulty_shares
      holds-shares = record {
        named = map-small (faulty_in H x inbox x.seat.own) x.seat.n;
        others = shares-name x.seat.own f.first f.last
            ∙ own-entry x.seat.session x.seat.n x.seat.own x.root inbox x.seat.own;
      }

      pub holds-relays : Holds x.seat.n x.seat.own (faulty_relays H x inbox)
      unfolding faulty_relays
      holds-relays = record {
        named = map-small (λ p. names x.faulty p || faulty_in H x inbox p p) x.seat.n;
        others = relays-name x.seat.own f.first f.last
            ∙ ap₂ ◌||◌ f.others (own-entry x.seat.session x.seat.n x.seat.own x.root inbox x.seat.own);
      }

      pub holds-given : Holds x.seat.n x.seat.own (faulty_of H x inbox)
      unfolding faulty_of
      holds-given = go (has_ended x.stage)
        where
          go : (b : Bool) → Holds x.seat.n x.seat.own (cond b x.faulty (faulty_relays H x inbox))
          go true = holds-fit x f
          go false = holds-relays
