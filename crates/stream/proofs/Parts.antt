-- What is told of a part: one law for a buffer that is shorter, one for any other, and what follows. By the tests of the definition. Assumes nothing.
use Rattle.std.proofs.Common.{◌≡◌, ℕ, ◌<◌, ◌≤◌, Bool, true, false, ltb, sym, refl, ap, ◌∙◌, arith, ltb-false, ltb-true, le-ltb, lt-ltb, eqb-true}
use Rattle.stream.specs.Parts.{Part, part_of, start_of, Told}

module _ (room len got : ℕ) where
  pub start_over : room < len → start_of room len got ≡ record { len = 0; got = 0; whole = false }
  unfolding start_of
  start_over h = rw (lt-ltb room len h)

  pub start_fits : len ≤ room → start_of room len got ≡ part_of len got
  unfolding start_of
  start_fits h = rw (le-ltb room len h)

-- a part fits its buffer, and all bytes of a whole one came
pub start_told : (room len : ℕ) (r : Part) → r.got ≤ r.len → r ≡ start_of room len r.got → (r.len ≤ room) × Told r
start_told room len r few e = go (ltb room len) refl
  where
    go : (b : Bool) → ltb room len ≡ b → (r.len ≤ room) × Told r
    go true q =
        let k = e ∙ start_over room len r.got (ltb-true room len q) in
        let l : r.len ≡ 0 = ap (λ (x : Part). x.len) k in
        (omega (arith, l), record { few = few; all = λ w. omega (arith, l, few) })
    go false q =
        let k = e ∙ start_fits room len r.got (ltb-false room len q) in
        let l : r.len ≡ len = ap (λ (x : Part). x.len) k in (
          omega (arith, l, ltb-false room len q),
          record { few = few; all = λ w. eqb-true r.got len (sym (ap (λ (x : Part). x.whole) k) ∙ w) ∙ sym l },
        )
