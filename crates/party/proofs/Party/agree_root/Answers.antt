-- `party::Party::agree_root` meets its contract: a refusal, or the state that waits for the bit. Assumes nothing.
use Rattle.std.proofs.Common.{◌≡◌, Bool, List, [], ℕ, refl, sym, ap, ◌∙◌, arith, rules}
use mathlib.Core.Path.{ap₂}
use Rattle.sha256.specs.Sha256.{sha256}
use Rattle.party.specs.State.{happy, at_bit}
use Rattle.party.specs.Steps.{root_cause, with_root, Stepped, gives}
use Rattle.party.specs.Private.{Fit}
use Rattle.party.specs.Answer.{Happy}
use Rattle.party.specs.declared.Party.{Party}
use Rattle.party.specs.declared.Stage.TheVariants.{Bit}
use Rattle.party.proofs.Causes.{state-fit, root-sound}
use Rattle.party.proofs.Outcomes.{root-given}
use Rattle.party.proofs.Refused.{refused-root}
use Rattle.party.proofs.Kept.{put_whole, waits_on}
use Rattle.party.proofs.Faulty.{names-none, holds-empty}
use Rattle.party.proofs.Party.agree_root.Goals as goal

fit : (x : Party) (z : List ℕ) → 0 ≡ root_cause x z → Fit x
fit x z e = state-fit 2 x (root-sound x z (sym e)).0

pub returns-in-Err : goal.returns-in-Err
returns-in-Err c = rw c.refused.ensures (refused-root sha256 c.in-Err.cause c.args.self c.args.root.now c.in-Err.ensures)

pub waiting-state-requires : goal.waiting-state-requires
waiting-state-requires c = (fit c.args.self c.args.root.now c.in_default.ensures).short

pub happy-requires : goal.happy-requires
happy-requires c =
    let x = c.args.self in
    let f = fit x c.args.root.now c.in_default.ensures in
    rw c.waiting-state.ensures (record {
      low = f.low;
      high = f.high;
      faults = f.faults;
      first = f.first;
      last = f.last;
      short = f.short;
      few = omega arith;
      named = (holds-empty x.seat.n x.seat.own).named;
      others = names-none x.seat.own;
    })

pub returns : goal.returns
unfolding at_bit
returns c =
    let x = c.args.self in
    let z = c.args.root.now in
    let f = fit x z c.in_default.ensures in
    let state : c.waiting-state.result ≡ with_root x z = c.waiting-state.ensures
    ∙ waits_on x Bit _ z _ [] 0 0 f.short (search rules) (c.put.ensures.1 ∙ put_whole 32 z (root-sound x z (sym c.in_default.ensures)).1) refl refl in
    ap₂ {C = Stepped} (λ (y : Party) (h : Bool). gives y (Happy h) []) state (c.happy.ensures ∙ ap (happy sha256) state)
    ∙ sym (root-given sha256 x z (sym c.in_default.ensures))
