use Rattle.std.proofs.Common.{◌≡◌, ◌*◌, length, take}
use Rattle.sha256.specs.Sha256.{digest_of}
use Rattle.sha256.proofs.digest_of.Given as goal

abbrev pub invariant-loop-i : goal.invariant-loop-i
invariant-loop-i l = (length l.digest ≡ 32) × (take (4 * l.i) l.digest ≡ digest_of (take l.i l.fn.h))
