-- `Play::sent_by` meets its contract: the packets in the party's slot, and its relay as often as there are others. Assumes nothing.
use mathlib.Core.Path.{◌≡◌, ap, ap₂, ◌∙◌}
use mathlib.Core.Bool.{true, cond}
use mathlib.Core.List.{List}
use Prim.Native.Nat.{ℕ, ◌+◌, ◌-◌, ◌*◌, ◌≤◌}
use native.Mathlib.Omega.{arith}
use Rattle.sha256.specs.Sha256.{sha256}
use Rattle.session.proofs.Rule.{known}
use native.Mathlib.Nat.{mul-le-mul}
use lib.Dec.{eqb}
use lib.ListN.{length, get_or, take, drop, length-take}
use Rattle.limits.specs.Limits.{max_parties}
use Rattle.buffer.specs.Entries.{bodies}
use Rattle.buffer.proofs.Parts.{part-ends}
use Rattle.agreement.specs.Calls.{lengths}
use Rattle.plan.specs.Layout.{n_in, good_in}
use Rattle.exchange.proofs.Slots.{slot-of}
use Rattle.session.specs.Session.{is_good, max_outbox, wrote_in, agreed_bit, step3, step4}
use Rattle.session.specs.Private.{Dealt, Sizes}
use Rattle.session.specs.declared.Outgoing.{Outgoing}
use Rattle.session.specs.declared.Play.{Play}
use Rattle.session.proofs.Sums.{sent_is}
use Rattle.session.proofs.Play.sent_by.Goals as goal

module _ (p : Play) (q : ℕ) (boxes relays : Outgoing)
    (r : Dealt p.bytes.now boxes × Sizes p.bytes.now relays × (1 ≤ q) × (q ≤ n_in p.bytes.now) × (is_good p.bytes.now q ≡ true)) where
  abbrev s : List ℕ
  s = p.bytes.now

  abbrev Len : ℕ
  Len = get_or boxes.lens (q - 1) 0

  abbrev Size : ℕ
  Size = get_or relays.lens (q - 1) 0

  -- the party's slot, and the length of its relay
  slot : (Len ≤ max_outbox) × (take Len (drop ((q - 1) * max_outbox) boxes.slots) ≡ wrote_in (step3 sha256 s q))
  slot = slot-of (good_in s) max_outbox (λ i. wrote_in (step3 sha256 s i)) (n_in s) q boxes.slots boxes.lens r.0 r.2 r.3 r.4

  relay : (Size ≤ max_outbox) × (Size ≡ cond (eqb (agreed_bit sha256 s) 0) 0 (length (wrote_in (step4 sha256 s q))))
  relay =
      let e : q - 1 + 1 ≡ q = omega (arith, r.2) in
      let w = r.1 (q - 1) (omega (arith, r.2, r.3)) (ap (is_good s) e ∙ r.4) in
      (w.0, w.1 ∙ ap (λ (i : ℕ). cond (eqb (agreed_bit sha256 s) 0) 0 (length (wrote_in (step4 sha256 s i)))) e)

  relays-fit : (p.parts.n - 1) * Size ≤ max_parties * max_outbox
  relays-fit =
      let others : p.parts.n - 1 ≤ max_parties = omega (arith, (known p).n-is, (known p).high) in
      mul-le-mul {n₂ = max_parties} others relay.0

  -- what was counted in the slot
  packets : (x : ℕ)
      → (x ≡ lengths (bodies p.parts.n (take ((q - 1) * max_outbox + Len - (q - 1) * max_outbox) (drop ((q - 1) * max_outbox) boxes.slots))))
      × (x ≤ length (take ((q - 1) * max_outbox + Len - (q - 1) * max_outbox) (drop ((q - 1) * max_outbox) boxes.slots)))
      → (x ≡ lengths (bodies (n_in s) (wrote_in (step3 sha256 s q)))) × (x ≤ max_outbox)
  packets x w =
      let from = (q - 1) * max_outbox in
      let e = part-ends boxes.slots from Len in (
        w.0 ∙ ap₂ (λ (k : ℕ) (y : List ℕ). lengths (bodies k y)) (known p).n-is (e ∙ slot.1),
        omega (arith, w.1, ap length e, length-take Len (drop from boxes.slots), slot.0),
      )

pub overflow_mul-from : goal.overflow_mul-from
overflow_mul-from c = omega (arith, c.requires.3, (known c.args.self.now).high)

pub offset_bounds-boxes-j : goal.offset_bounds-boxes-j
offset_bounds-boxes-j c = omega (arith, c.requires.3, (known c.args.self.now).high)

pub bounds-boxes-j : goal.bounds-boxes-j
bounds-boxes-j c = omega (arith, c.requires.2, c.requires.3, (known c.args.self.now).high)

pub overflow_add-end : goal.overflow_add-end
overflow_add-end c =
    let a = c.args in
    omega (arith, c.requires.3, (known a.self.now).high, (slot a.self.now a.q a.boxes.now a.relays.now c.requires).0)

pub overflow_sub-relayed : goal.overflow_sub-relayed
overflow_sub-relayed c = omega (arith, (known c.args.self.now).n-is, (known c.args.self.now).low)

pub offset_bounds-relays-j : goal.offset_bounds-relays-j
offset_bounds-relays-j c = omega (arith, c.requires.3, (known c.args.self.now).high)

pub bounds-relays-j : goal.bounds-relays-j
bounds-relays-j c = omega (arith, c.requires.2, c.requires.3, (known c.args.self.now).high)

pub overflow_mul-relayed : goal.overflow_mul-relayed
overflow_mul-relayed c = let a = c.args in omega (arith, relays-fit a.self.now a.q a.boxes.now a.relays.now c.requires)

pub slice_bounds-packet_bytes-end : goal.slice_bounds-packet_bytes-end
slice_bounds-packet_bytes-end c =
    let a = c.args in
    omega (arith, c.requires.2, c.requires.3, (known a.self.now).high, (slot a.self.now a.q a.boxes.now a.relays.now c.requires).0)

pub overflow_add-result : goal.overflow_add-result
overflow_add-result c =
    let a = c.args in
    omega (arith, (packets a.self.now a.q a.boxes.now a.relays.now c.requires _ c.packet_bytes.ensures).1, relays-fit a.self.now a.q a.boxes.now a.relays.now c.requires)

pub returns : goal.returns
returns c =
    let a = c.args in
    let p = a.self.now in
    let w = packets p a.q a.boxes.now a.relays.now c.requires _ c.packet_bytes.ensures in (
      ap₂ ◌+◌ w.0 (ap₂ (λ (k x : ℕ). (k - 1) * x) (known p).n-is (relay p a.q a.boxes.now a.relays.now c.requires).1) ∙ sent_is sha256 p.bytes.now a.q,
      omega (arith, w.1, relays-fit p a.q a.boxes.now a.relays.now c.requires),
    )
