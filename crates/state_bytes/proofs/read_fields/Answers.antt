-- `state_bytes::read_fields` meets its contract: each field is the one that the bytes say. Assumes nothing.
use Rattle.std.proofs.Common.{◌≡◌, ℕ, ◌%◌, ◌^◌, ◌<◌, refl, sym, ap, ◌∙◌, rules}
use native.Mathlib.Nat.{mod-eq_of_lt}
use Rattle.state_bytes.proofs.Reading.{fields-are}
use Rattle.state_bytes.proofs.read_fields.Goals as goal

-- a number that four bytes say is below two to the 32
told : (k m : ℕ) → k < 2 ^ 32 → k ≡ m → k ≡ m % 2 ^ 32
told k m small e = sym (mod-eq_of_lt small) ∙ ap (λ (i : ℕ). i % 2 ^ 32) e

pub returns : goal.returns
returns c =
    fields-are c.args.bytes.now _ c.size_at-len.result _ _ _ _ _ _ _ _ _ _ _ refl c.size_at-len.ensures
    (told _ _ (search rules) c.number_at.ensures) c.from.ensures c.from-2.ensures c.from-3.ensures c.stage_of.ensures c.array_at.ensures
    c.length_of.ensures c.array_at-2.ensures c.array_at-3.ensures c.size_at.ensures (told _ _ (search rules) c.number_at-2.ensures)
