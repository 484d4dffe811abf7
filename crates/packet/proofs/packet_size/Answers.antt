-- `packet::packet_size` meets its contract: a path has few hashes, so the length fits two bytes. Assumes nothing.
use mathlib.Core.Path.{refl}
use native.Mathlib.Omega.{arith}
use Rattle.packet.proofs.Reading.{few_hashes}
use Rattle.packet.proofs.packet_size.Goals as goal

pub overflow_mul-result : goal.overflow_mul-result
overflow_mul-result c = omega (arith, few_hashes _ _ _ _ c.in_ok-right.ensures refl)

pub overflow_add-result-2 : goal.overflow_add-result-2
overflow_add-result-2 c = omega (arith, few_hashes _ _ _ _ c.in_ok-right.ensures refl)

pub overflow_cast-result : goal.overflow_cast-result
overflow_cast-result c = omega (arith, few_hashes _ _ _ _ c.in_ok-right.ensures refl)
