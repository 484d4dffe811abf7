-- `merkle::split_of` meets its contract: it is a power of two below n, and its double is not. Assumes nothing.
use Rattle.std.proofs.Common.{◌≡◌, ◌*◌, ◌%◌, ◌^◌, refl, ◌∙◌, arith}
use Rattle.merkle.proofs.Descend.{split-only}
use Rattle.merkle.proofs.split_of.Goals as goal

pub returns-clause-value : goal.returns-clause-value
returns-clause-value c =
    let k = 2 ^ c.ilog2.result in
    let fits : 1 * k % 2 ^ 64 ≡ k = omega arith in
    fits ∙ split-only c.args.n k c.ilog2.result refl (omega arith) (omega arith)
