-- `Play::inbox` meets its contract: there is no cause for which the exchange could be turned away. Assumes nothing.
use mathlib.Core.Path.{◌≡◌, ap, ap₂, ◌∙◌}
use mathlib.Core.List.{List}
use Prim.Native.Nat.{ℕ, ◌+◌, ◌-◌, ◌≤◌}
use native.Mathlib.Omega.{arith}
use Rattle.session.proofs.Rule.{known}
use native.Mathlib.Nat.{mul-le-mul_right}
use lib.ListN.{length, take, drop}
use Rattle.limits.specs.Limits.{max_parties}
use Rattle.cause.specs.Cause.{number}
use Rattle.buffer.specs.Given.{said}
use Rattle.buffer.proofs.Parts.{part-rest}
use Rattle.plan.specs.Layout.{n_in, good_in, exchange_in, exchange_at}
use Rattle.plan.specs.Plan.{Plan, parts_said, exchange_of}
use Rattle.plan.proofs.Tails.{exchange-there, exchange-short, exchange-of}
use Rattle.exchange.specs.Exchange.{inbox_to, slot_of, max_inbox}
use Rattle.exchange.specs.Private.{Lawful}
use Rattle.exchange.specs.declared.Mail.{Mail}
use Rattle.exchange.proofs.Rooms.{inbox-filled}
use Rattle.session.specs.Session.{max_outbox, whole_in}
use Rattle.session.specs.declared.Play.{Play}
use Rattle.session.proofs.Rule.{taken}
use Rattle.session.proofs.Play.inbox.Goals as goal

there : (p : Play) (e at : ℕ) → at ≡ exchange_of (parts_said p.parts) e p.bytes.now → at ≡ exchange_at e p.bytes.now
there p e at h = h ∙ ap (λ (x : Plan). exchange_of x e p.bytes.now) p.read ∙ exchange-of e p.bytes.now (taken p)

-- the exchange as it is given on, and its blocks
abbrev M : Play → ℕ → Mail
M p e = record { n = p.parts.n; good = p.parts.good; size = max_outbox; whole = whole_in e }

abbrev Blocks : Play → ℕ → List ℕ
Blocks p at = take (length p.bytes.now - at) (drop at p.bytes.now)

blocks : (p : Play) (e at : ℕ) → at ≡ exchange_of (parts_said p.parts) e p.bytes.now → Blocks p at ≡ exchange_in e p.bytes.now
blocks p e at h =
    part-rest p.bytes.now at ∙ ap (λ (x : ℕ). drop x p.bytes.now) (there p e at h) ∙ exchange-there e p.bytes.now

lawful : (p : Play) (e at i : ℕ) → at ≡ exchange_of (parts_said p.parts) e p.bytes.now → 1 ≤ i → i ≤ n_in p.bytes.now → Lawful (M p e) (Blocks p at) i
lawful p e at i h low high =
    let k = known p in
    record {
      some = omega (arith, k.n-is, k.low);
      few = omega (arith, k.n-is, k.high);
      first = low;
      last = omega (arith, k.n-is);
      short = omega arith;
      planned = omega (arith, ap length (blocks p e at h), exchange-short e p.bytes.now, k.length-fits);
    }

room : (p : Play) (e : ℕ) → max_inbox p.parts.n max_outbox ≤ max_inbox max_parties max_outbox
room p e =
    let k = known p in
    let few : p.parts.n ≤ max_parties = omega (arith, k.n-is, k.high) in
    omega (arith, mul-le-mul_right (max_outbox + 2) few)

pub slice_bounds-fill-count : goal.slice_bounds-fill-count
slice_bounds-fill-count c = omega (arith, there c.args.self.now c.number-e.result _ c.exchange_at-at.ensures)

pub slice_bounds-fill-start : goal.slice_bounds-fill-start
slice_bounds-fill-start c = omega (arith, there c.args.self.now c.number-e.result _ c.exchange_at-at.ensures)

pub returns : goal.returns
returns c =
    let p = c.args.self.now in
    let s = p.bytes.now in
    let k = known p in
    let a = c.args in
    let e = c.number-e.result in
    let at = c.exchange_at-at.result in
    let h = c.exchange_at-at.ensures in
    let sent = a.sent.now in
    let w = inbox-filled (M p e) sent.slots sent.lens (Blocks p at) a.i (lawful p e at a.i h c.requires.0 c.requires.1) a.out.now
    (omega (arith, room p e, c.requires.2)) (said c.fill.result) _ c.fill.ensures in
    let v = c.value_of.ensures number in
    let slots : ℕ → List ℕ = slot_of max_outbox sent.slots sent.lens in (
      omega (arith, v, w.0),
      ap (λ (y : ℕ). take y c.fill.new.out) v ∙ w.1
          ∙ ap₂ (λ (n g : ℕ). inbox_to n g (whole_in e) slots (Blocks p at) a.i) k.n-is k.good-is
          ∙ ap (λ (y : List ℕ). inbox_to (n_in s) (good_in s) (whole_in e) slots y a.i) (blocks p e at h)
          ∙ ap (λ (x : ℕ). inbox_to (n_in s) (good_in s) (whole_in x) slots (exchange_in x s) a.i) c.number-e.ensures,
    )
