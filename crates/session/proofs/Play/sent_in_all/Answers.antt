-- `Play::sent_in_all` meets its contract: the sender's packet as often as there are others, and what the party sent later. Assumes nothing.
use mathlib.Core.Path.{ap, ap₂, ◌∙◌}
use Prim.Native.Nat.{ℕ, ◌+◌, ◌-◌, ◌*◌, ◌≤◌}
use native.Mathlib.Omega.{arith}
use Rattle.sha256.specs.Sha256.{sha256}
use Rattle.session.proofs.Rule.{known}
use native.Mathlib.Nat.{mul-le-mul}
use lib.ListN.{length}
use Rattle.limits.specs.Limits.{max_parties}
use Rattle.packet.specs.Message.{max_message_packet}
use Rattle.plan.specs.Layout.{n_in}
use Rattle.session.specs.Session.{given_by, sent_of}
use Rattle.session.specs.declared.Play.{Play}
use Rattle.session.proofs.Play.sent_in_all.Goals as goal

-- what it gave in its opening, to all others
first : (p : Play) (x : ℕ) → x ≤ max_message_packet → (p.parts.n - 1) * x ≤ max_parties * max_message_packet
first p x h =
    let k = known p in
    let others : p.parts.n - 1 ≤ max_parties = omega (arith, k.n-is, k.high) in
    mul-le-mul {n₂ = max_parties} others h

pub overflow_sub-first : goal.overflow_sub-first
overflow_sub-first c = let k = known c.args.self.now in omega (arith, k.n-is, k.low)

pub overflow_mul-first : goal.overflow_mul-first
overflow_mul-first c = omega (arith, first c.args.self.now c.given.result c.given.ensures.0)

pub overflow_add-result : goal.overflow_add-result
overflow_add-result c = omega (arith, first c.args.self.now c.given.result c.given.ensures.0, c.sent_by.ensures.1)

pub returns : goal.returns
unfolding sent_of
returns c =
    let p = c.args.self.now in
    let s = p.bytes.now in
    let w = c.sent_by.ensures in (
      ap₂ (λ (k x : ℕ). (k - 1) * x + c.sent_by.result) (known p).n-is c.given.ensures.1
          ∙ ap (λ (k : ℕ). (n_in s - 1) * length (given_by sha256 s c.args.q) + k) w.0,
      omega (arith, first p c.given.result c.given.ensures.0, w.1),
    )
