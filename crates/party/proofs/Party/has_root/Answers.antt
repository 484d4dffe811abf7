-- `party::Party::has_root` meets its contract: the message has a root, and the roots are compared byte by byte. Assumes nothing.
use Rattle.std.proofs.Common.{length, ap, ◌∙◌}
use Rattle.merkle.specs.Shares.{same}
use Rattle.commitment.proofs.Shared.{same-is}
use Rattle.party.proofs.Rooting.{rooted, root-is}
use Rattle.party.proofs.Causes.{fit-open}
use Rattle.party.proofs.Party.has_root.Goals as goal

pub unwrap-root-requires : goal.unwrap-root-requires
unwrap-root-requires c = rooted c.args.self.seat c.args.message.now (fit-open c.args.self c.requires.0 (length c.args.message.now) c.requires.1) _ c.root.ensures

pub returns : goal.returns
returns c =
    let x = c.args.self in
    same-is c.unwrap-root.result x.root c.same.result c.same.ensures.0 c.same.ensures.1
    ∙ ap (λ r. same r x.root)
    (root-is x.seat c.args.message.now (fit-open x c.requires.0 (length c.args.message.now) c.requires.1) _ c.root.ensures _ c.unwrap-root.ensures)
