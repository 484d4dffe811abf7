-- `party::marked` meets its contract: after i turns the map is that of the first i senders. Assumes nothing.
use Rattle.std.proofs.Common.{◌≡◌, Bool, true, false, cond, ◌||◌, List, ℕ, ◌+◌, ◌-◌, ◌*◌, ◌%◌, ◌^◌, get_or, refl, sym, ap, ◌∙◌, add-zero, add-one, arith}
use mathlib.Core.Path.{ap₂}
use lib.Pow.{pow_mono}
use Rattle.std.proofs.lemmas.Nat.{one_shl}
use Rattle.limits.specs.Limits.{max_parties}
use Rattle.bitmap.specs.Bitmap.{names, map_of}
use Rattle.bitmap.proofs.Collected.{map-small}
use Rattle.party.specs.Private.{found_faulty, marks}
use Rattle.party.specs.declared.Finding.{Finding}
use Rattle.party.specs.declared.Finding.TheVariants.{Silent}
use Rattle.party.proofs.marked.Goals as goal
use Rattle.party.proofs.marked.Goals.{then-names, then-names-via-then-names, then-names-via-else-names+then-is_faulty, else-names+else-is_faulty}

-- sender i + 1 is marked or not, by what was found
marks-is : (before : ℕ) (fs : List Finding) (i : ℕ) (named faulty : Bool) → named ≡ names before (i + 1) → faulty ≡ found_faulty (get_or fs i Silent)
    → marks before fs (i + 1) ≡ named || faulty
marks-is before fs i named faulty p q =
    ap (λ (k : ℕ). names before (i + 1) || found_faulty (get_or fs k Silent)) (let e : i + 1 - 1 ≡ i = omega arith in e)
    ∙ sym (ap₂ ◌||◌ p q)

-- and the map grows by its value or not
marks-more : (test : ℕ → Bool) (i map more : ℕ) (b : Bool) → test (i + 1) ≡ b → map ≡ map_of test i → more ≡ map + cond b (2 ^ i) 0
    → more ≡ map_of test (i + 1)
unfolding map_of
marks-more test i map more b e h q =
    q ∙ ap₂ ◌+◌ h (ap (λ (t : Bool). cond t (2 ^ i) 0) (sym e)) ∙ sym (ap (map_of test) (add-one i))

pub loop-i-init : goal.loop-i-init
unfolding map_of
loop-i-init c = refl

pub overflow_add-map : goal.overflow_add-map
overflow_add-map c =
    omega (
      arith,
      c.loop-i.invariant,
      map-small (marks c.args.before c.args.found.now) c.loop-i.i,
      one_shl c.loop-i.i 32 (omega arith),
      pow_mono {i = c.loop-i.i} {j = max_parties} (omega arith),
    )

pub loop-i-preserved : goal.loop-i-preserved
loop-i-preserved c =
    let fs = c.args.found.now in
    let i = c.loop-i.i in
    let before = c.args.before in
    let value : (1 * 2 ^ i) % 2 ^ 32 ≡ 2 ^ i = one_shl i 32 (omega arith) in
    let grows = marks-more (marks before fs) i c.loop-i.map c.if-names.map in
    elim c.if-names.branch [
      | then-names w ↦ elim w.then-names.branch [
        | then-names-via-then-names u ↦ grows true (marks-is before fs i true (found_faulty (get_or fs i Silent)) (sym u.if-names.true ∙ c.names.ensures) refl)
            c.loop-i.invariant (w.map-is ∙ ap (λ (k : ℕ). c.loop-i.map + k) value)
        | then-names-via-else-names+then-is_faulty u ↦ grows true (marks-is before fs i false true (sym u.if-names.false ∙ c.names.ensures) (sym u.if-is_faulty.true ∙ u.is_faulty.ensures))
            c.loop-i.invariant (w.map-is ∙ ap (λ (k : ℕ). c.loop-i.map + k) value)
      ]
      | else-names+else-is_faulty w ↦ grows false (marks-is before fs i false false (sym w.if-names.false ∙ c.names.ensures) (sym w.if-is_faulty.false ∙ w.is_faulty.ensures))
          c.loop-i.invariant (w.map-is ∙ sym (add-zero c.loop-i.map))
    ]
