-- `Vote::own_bit` meets its contract: the bit of the answer of step 2. Assumes nothing.
use mathlib.Core.Path.{ap, ◌∙◌}
use Rattle.sha256.specs.Sha256.{sha256}
use Rattle.party.specs.Steps.{Stepped}
use Rattle.session.specs.Private.{own_bit}
use Rattle.session.proofs.Rule.{bit-told}
use Rattle.session.proofs.Vote.own_bit.Goals as goal

pub returns : goal.returns
returns c =
    c.bit_of.ensures ∙ ap (λ (r : Stepped). own_bit r.answer) c.ballot-answer.ensures ∙ bit-told sha256 c.args.self.now.play.bytes.now c.args.q
