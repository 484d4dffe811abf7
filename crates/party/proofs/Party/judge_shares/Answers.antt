-- `party::Party::judge_shares` meets its contract: what was found of all packets tells the share to take and the map. Assumes nothing.
use Rattle.std.proofs.Common.{ap, ◌∙◌, ◌||◌, Bool, Some}
use Rattle.sha256.specs.Sha256.{sha256}
use Rattle.bitmap.proofs.Collected.{map_same}
use Rattle.party.specs.Steps.{faulty_shares, sent_faulty}
use Rattle.party.proofs.Found.{first-found, faulty-found}
use Rattle.party.proofs.Faulty.{names-none}
use Rattle.party.proofs.Party.judge_shares.Goals as goal

pub returns : goal.returns
unfolding faulty_shares
returns c =
    let x = c.args.self in
    let s = c.args.inbox.now in
    let g = c.findings-found.ensures in (
      rw c.first_place.ensures (first-found sha256 x.seat x.root s _ g c.requires.0.high),
      c.marked.ensures ∙ faulty-found sha256 x.seat x.root s (Some x.seat.own) _ g c.requires.0.high 0
          ∙ map_same _ _ x.seat.n (λ p a b. ap (λ (t : Bool). t || sent_faulty sha256 x.seat.session x.seat.n x.seat.own x.root s x.seat.own p) (names-none p)),
    )
