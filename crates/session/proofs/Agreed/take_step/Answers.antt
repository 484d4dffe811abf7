-- `Agreed::take_step` meets its contract: step 3, or step 4 on the party's first inbox. Assumes nothing.
use mathlib.Core.Path.{sym, ap, ap₂, subst, ◌∙◌}
use mathlib.Core.List.{List}
use Prim.Native.Nat.{ℕ}
use Rattle.sha256.specs.Sha256.{sha256}
use Rattle.party.specs.Steps.{agree_bit_of, take_shares_of}
use Rattle.party.specs.declared.Party.{Party}
use Rattle.session.specs.Session.{wrote_in, step2, step3, first_inbox, step4}
use Rattle.session.specs.Private.{step_for, state_for, Behind}
use Rattle.session.specs.declared.Step.{Step}
use Rattle.session.proofs.Inboxes.{inbox-is}
use Rattle.session.proofs.Agreed.take_step.Goals as goal

pub returns-in-Outbox : goal.returns-in-Outbox
unfolding step3
returns-in-Outbox c =
    let a = c.args in
    let s = a.self.now.play.bytes.now in
    let x : Party = (step2 sha256 s a.q).state in
    c.agree_bit.ensures
    ∙ ap (λ (y : Party). agree_bit_of sha256 y c.from.result a.out.now) (c.requires.3 ∙ ap (λ (t : Step). state_for t s a.q) c.in-Outbox.is)
    ∙ ap₂ (λ (i : ℕ) (o : List ℕ). agree_bit_of sha256 x i o) (c.from.ensures ∙ a.self.now.bit_is) c.requires.4
    ∙ ap (λ (t : Step). step_for t s a.q) (sym c.in-Outbox.is)

pub returns-in-Relay : goal.returns-in-Relay
unfolding first_inbox step4
returns-in-Relay c =
    let a = c.args in
    let s = a.self.now.play.bytes.now in
    let x : Party = (step3 sha256 s a.q).state in
    c.take_shares.ensures
    ∙ ap₂ (λ (y : Party) (i : List ℕ). take_shares_of sha256 y i a.out.now) (c.requires.3 ∙ ap (λ (t : Step). state_for t s a.q) c.in-Relay.is)
    (c.inbox-len.ensures.1
    ∙ inbox-is s 0 (λ p. wrote_in (step3 sha256 s p)) _ _ a.q (subst (λ (t : Step). Behind s t) c.in-Relay.is c.requires.0))
    ∙ ap (take_shares_of sha256 x (first_inbox sha256 s a.q)) c.requires.4
    ∙ ap (λ (t : Step). step_for t s a.q) (sym c.in-Relay.is)
