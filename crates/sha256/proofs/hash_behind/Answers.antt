-- `sha256::hash_behind` meets its contract: a message that is too long, one that is shorter than a block, or a first block and then the rest.
-- Assumes nothing.
use Rattle.std.proofs.Common.{arith, rules}
use Rattle.sha256.specs.Sha256.{initial}
use Rattle.sha256.proofs.Answers.{answer_long, answer_short, answer_behind}
use Rattle.sha256.proofs.hash_behind.Goals as goal

pub returns-then-k-rest : goal.returns-then-k-rest
returns-then-k-rest c = answer_long c.args.front c.args.k c.args.rest.now (search rules) (omega arith) (omega arith)

pub returns-then-n-lt64 : goal.returns-then-n-lt64
unfolding initial
returns-then-n-lt64 c =
    answer_short c.args.front c.args.k c.args.rest.now (search rules) (omega arith) _ c.first_block-first.ensures (search rules) (omega arith)
    _ (omega arith) c.finish.ensures

pub returns : goal.returns
unfolding initial
returns c =
    answer_behind c.args.front c.args.k c.args.rest.now (search rules) (omega arith) _ c.first_block-first.ensures (search rules) (omega arith)
    _ _ (omega arith) c.compress-h.ensures c.finish-2.ensures
