-- `party::Party::agree_bit` meets its contract: each way out is an outcome of the definition. Assumes nothing.
use Rattle.std.proofs.Common.{◌≡◌, ◌≢◌, List, [], ℕ, refl, sym, ap, ◌∙◌, arith, rules}
use mathlib.Core.Path.{ap₂}
use Rattle.sha256.specs.Sha256.{sha256}
use Rattle.party.specs.State.{nothing, message_in, at_first, waiting}
use Rattle.party.specs.Steps.{bit_cause, writes, outbox_of, agree_bit_of}
use Rattle.party.specs.Private.{Fit}
use Rattle.party.specs.declared.Party.{Party}
use Rattle.party.specs.declared.Stage.TheVariants.{First}
use Rattle.party.proofs.Causes.{state-fit, bit-sound}
use Rattle.party.proofs.Outcomes.{bit-end, bit-first, writes-given}
use Rattle.party.proofs.Refused.{refused-bit}
use Rattle.party.proofs.Kept.{waits_on, ended-kept}
use Rattle.party.proofs.Silence.{outbox-silent, outbox-mail}
use Rattle.party.proofs.Party.agree_bit.Goals as goal

fit : (x : Party) (bit : ℕ) → 0 ≡ bit_cause x bit → Fit x
fit x bit e = state-fit 3 x (bit-sound x bit (sym e)).0

-- what follows on bit 1, from the state that waits for the first inbox and what is sent
first : (x : Party) (bit : ℕ) (out sent : List ℕ) (next : Party) → 0 ≡ bit_cause x bit → bit ≢ 0 → next ≡ waiting x.seat First (message_in x) x.root [] 0
    → outbox_of sha256 x 1 ≡ sent → writes x next sent out ≡ agree_bit_of sha256 x bit out
unfolding at_first
first x bit out sent next fine some is given =
    let one : bit ≡ 1 = omega (arith, (bit-sound x bit (sym fine)).1) in
    ap₂ (λ (y : Party) (bs : List ℕ). writes x y bs out) is (sym given) ∙ sym (bit-first sha256 x bit out (sym fine) one)

pub returns-in-Err : goal.returns-in-Err
returns-in-Err c = rw c.refused.ensures (refused-bit sha256 c.in-Err.cause c.args.self c.args.bit c.args.out.now c.in-Err.ensures)

pub silent-requires : goal.silent-requires
silent-requires c = (fit c.args.self c.args.bit c.in_default.ensures).high

pub returns-then-bit-eq0 : goal.returns-then-bit-eq0
returns-then-bit-eq0 c =
    let x = c.args.self in
    c.silent.ensures
    ∙ ap₂ (λ (y : Party) (bs : List ℕ). writes x y bs c.args.out.now) (c.ended-next.ensures ∙ ended-kept x.seat nothing 0 _ refl) (sym (outbox-silent sha256 x 0 refl))
    ∙ sym (bit-end sha256 x c.args.bit c.args.out.now (sym c.in_default.ensures) c.if-bit-eq0.true)

pub waiting-next-requires : goal.waiting-next-requires
waiting-next-requires c = (fit c.args.self c.args.bit c.in_default.ensures).short

pub send-sent-requires : goal.send-sent-requires
send-sent-requires c = fit c.args.self c.args.bit c.in_default.ensures

pub silent-requires-in_default-sent : goal.silent-requires-in_default-sent
silent-requires-in_default-sent c = (fit c.args.self c.args.bit c.in_default.ensures).high

pub returns-in_default-sent : goal.returns-in_default-sent
returns-in_default-sent c =
    let x = c.args.self in
    let f = fit x c.args.bit c.in_default.ensures in
    c.silent-in_default-sent.ensures ∙ ap (writes x c.waiting-next.result _) c.in_default-sent.ensures.1
    ∙ first x c.args.bit c.args.out.now _ c.waiting-next.result c.in_default.ensures c.if-bit-eq0.false
    (c.waiting-next.ensures ∙ waits_on x First _ x.root _ [] 0 0 f.short (search rules) refl refl refl) (outbox-silent sha256 x 1 c.in_default-sent.ensures.0)

pub returns : goal.returns
returns c =
    let x = c.args.self in
    let f = fit x c.args.bit c.in_default.ensures in
    rw c.after.ensures (writes-given x c.waiting-next.result _ c.args.out.now c.in-Some.written c.send-sent.new.out c.in-Some.ensures.1)
    ∙ first x c.args.bit c.args.out.now _ c.waiting-next.result c.in_default.ensures c.if-bit-eq0.false
    (c.waiting-next.ensures ∙ waits_on x First _ x.root _ [] 0 0 f.short (search rules) refl refl refl) (outbox-mail sha256 x c.in-Some.ensures.0)
