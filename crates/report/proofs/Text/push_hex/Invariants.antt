use Rattle.std.proofs.Common.{◌≡◌, ◌+◌, ◌*◌, ◌++◌, length, take}
use Rattle.report.specs.Output.{hex}
use Rattle.report.proofs.Text.push_hex.Given as goal

abbrev pub invariant-loop-byte : goal.invariant-loop-byte
invariant-loop-byte _ l =
    (length l.self ≡ length l.initial.self + 2 * l.byte-index) × (l.self ≡ l.initial.self ++ hex (take l.byte-index l.message))
