-- `Play::ended` meets its contract: step 5 of the party after step 4, on its second inbox. Assumes nothing.
use mathlib.Core.Path.{ap, ap₂, ◌∙◌}
use mathlib.Core.List.{List}
use Prim.Native.Nat.{ℕ}
use Rattle.sha256.specs.Sha256.{sha256}
use Rattle.party.specs.Steps.{take_relays_of}
use Rattle.party.specs.declared.Party.{Party}
use Rattle.session.specs.Session.{wrote_in, step4, second_inbox, step5}
use Rattle.session.proofs.Inboxes.{inbox-is}
use Rattle.session.proofs.Play.ended.Goals as goal

pub returns : goal.returns
unfolding second_inbox step5
returns c =
    let a = c.args in
    let s = a.self.now.bytes.now in
    let x : Party = (step4 sha256 s a.q).state in
    c.take_relays.ensures
    ∙ ap₂ (λ (y : Party) (i : List ℕ). take_relays_of sha256 y i a.out.now) c.requires.2
    (c.inbox-len.ensures.1
    ∙ inbox-is s 1 (λ p. wrote_in (step4 sha256 s p)) a.relays.now.slots a.relays.now.lens a.q c.requires.3)
    ∙ ap (take_relays_of sha256 x (second_inbox sha256 s a.q)) c.requires.4
