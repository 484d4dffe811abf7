use Rattle.std.proofs.Common.{◌≡◌, ℕ, ◌<◌, ◌≤◌, get_or}
use Rattle.std.specs.Int.Bits.{bit_xor}
use Rattle.gf256.specs.Field.{product}
use Rattle.erasure.proofs.add_block.Given as goal

abbrev pub invariant-loop-c : goal.invariant-loop-c
invariant-loop-c l =
    ((i : ℕ) → i < l.c → get_or l.row i 0 ≡ bit_xor (get_or l.block i 0) (product l.j (get_or l.initial.row i 0)))
    × ((i : ℕ) → l.c ≤ i → get_or l.row i 0 ≡ get_or l.initial.row i 0)
