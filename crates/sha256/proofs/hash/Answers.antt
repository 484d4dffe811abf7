-- `sha256::hash` meets its contract: a message that is too long, or one without blocks before it. Assumes nothing.
use Rattle.std.proofs.Common.{sym, refl, arith}
use Rattle.sha256.specs.Sha256.{initial}
use Rattle.sha256.proofs.Laws.{hash-long}
use Rattle.sha256.proofs.Answers.{answer_whole}
use Rattle.sha256.proofs.hash.Goals as goal

pub returns-then-n-gt-MAX_HASHED : goal.returns-then-n-gt-MAX_HASHED
returns-then-n-gt-MAX_HASHED c = sym (hash-long _ (omega arith))

pub returns : goal.returns
unfolding initial
returns c = answer_whole _ _ _ refl (omega arith) c.finish.ensures
