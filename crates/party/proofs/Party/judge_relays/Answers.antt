-- `party::Party::judge_relays` meets its contract: what was found of all packets tells where the shares lie, and the map. Assumes nothing.
use Rattle.std.proofs.Common.{◌∙◌, None, subst, arith, rules}
use Rattle.std.proofs.lemmas.List.{get_or-take, length-take-le}
use Rattle.erasure.specs.Rebuild.{place_at}
use Rattle.party.specs.Private.{Lies_as}
use Rattle.party.specs.declared.Finding.{Finding}
use Rattle.party.specs.declared.Finding.TheVariants.{Silent}
use Rattle.sha256.specs.Sha256.{sha256}
use Rattle.party.specs.Steps.{faulty_relays}
use Rattle.party.proofs.Found.{faulty-found}
use Rattle.party.proofs.Gather.{gathered-found}
use Rattle.party.proofs.Party.judge_relays.Goals as goal

pub returns : goal.returns
unfolding faulty_relays
returns c =
    let x = c.args.self in
    let s = c.args.inbox.now in
    let g = c.findings-found.ensures in (
      gathered-found sha256 x c.requires.0 s _ g c.places-places.result (search rules) (search rules) (λ i l.
          subst (λ (f : Finding). Lies_as f (place_at c.places-places.result i)) (get_or-take x.seat.n c.findings-found.result i Silent l)
          (c.places-places.ensures i (omega (arith, length-take-le x.seat.n c.findings-found.result (omega (arith, g.count, c.requires.0.high)))))),
      c.marked.ensures ∙ faulty-found sha256 x.seat x.root s None _ g c.requires.0.high x.faulty,
    )
