-- `exchange::Inbox::entries` meets its contract: after p turns the entries of the first p senders are written, one after the other. Assumes nothing.
use Rattle.std.proofs.Common.{◌≡◌, ◌∙◌, refl, sym, ap, List, ℕ, ◌++◌, ◌+◌, ◌-◌, ◌≤◌, ◌<◌, length, take, drop, length-append, length-drop, arith}
use Rattle.std.proofs.Math.Nat.{mul-le-mul}
use Rattle.limits.specs.Limits.{max_parties, max_entry, max_plan}
use Rattle.buffer.specs.Splice.{spliced, tabulate}
use Rattle.buffer.proofs.Splice.{spliced-none}
use Rattle.buffer.proofs.Parts.{part-rest, tail-spliced}
use Rattle.packet.specs.Format.{entry_of}
use Rattle.packet.specs.Inbox.{inbox_of}
use Rattle.packet.proofs.Parts.{entry-length}
use Rattle.exchange.specs.Exchange.{inbox_to, max_inbox}
use Rattle.exchange.specs.Private.{sent_by}
use Rattle.exchange.specs.declared.Mail.{Mail}
use Rattle.exchange.proofs.Writing.{inbox-none, inbox-next, inbox-written}
use Rattle.exchange.proofs.Rooms.{inbox-room}
use Rattle.exchange.proofs.Inbox.entries.Goals as goal

-- there is room for the entry of a turn
room : (m : Mail) (slots lens blocks : List ℕ) (i p at : ℕ) → p < m.n → length blocks ≤ max_plan
    → at ≡ length (inbox_of (tabulate p (λ k. sent_by m slots lens blocks i (k + 1))))
    → at + (2 + length (sent_by m slots lens blocks i (p + 1))) ≤ max_inbox m.n m.size
room m slots lens blocks i p at h l e = omega (arith, inbox-room m slots lens blocks i p h, e, l)

-- an entry, written into the part of the buffer from an offset on
put-there : (o y x : List ℕ) (at : ℕ) → y ≡ spliced (take (length o - at) (drop at o)) 0 x
    → take at o ++ (y ++ drop (length o - at) (drop at o)) ≡ spliced o at x
put-there o y x at e =
    ap (λ (z : List ℕ). take at o ++ (z ++ drop (length o - at) (drop at o))) (e ∙ ap (λ (z : List ℕ). spliced z 0 x) (part-rest o at))
    ∙ tail-spliced o x at (length o - at) refl

pub loop-p-init : goal.loop-p-init
loop-p-init c =
    let x = c.args.self.now in
    let none = inbox-none (λ k. sent_by x.mail x.slots.now x.lens.now x.blocks.now x.i (k + 1)) in
    (sym (ap length none), sym (ap (spliced c.args.out.now 0) none ∙ spliced-none c.args.out.now 0))

pub slice_bounds-entry-count : goal.slice_bounds-entry-count
slice_bounds-entry-count c =
    let x = c.args.self.now in
    let l = c.loop-p in
    let r = room x.mail x.slots.now x.lens.now x.blocks.now x.i l.p l.at c.loop-p-test.true x.lawful.planned l.invariant.0 in
    omega (arith, r, c.requires)

pub slice_bounds-entry-start : goal.slice_bounds-entry-start
slice_bounds-entry-start c =
    let x = c.args.self.now in
    let l = c.loop-p in
    let r = room x.mail x.slots.now x.lens.now x.blocks.now x.i l.p l.at c.loop-p-test.true x.lawful.planned l.invariant.0 in
    omega (arith, r, c.requires)

pub entry-at-requires : goal.entry-at-requires
entry-at-requires c =
    let x = c.args.self.now in
    let l = c.loop-p in
    let r = room x.mail x.slots.now x.lens.now x.blocks.now x.i l.p l.at c.loop-p-test.true x.lawful.planned l.invariant.0 in
    (omega arith, omega arith, omega (arith, r, c.requires, ap length (part-rest l.out l.at), length-drop l.at l.out))

pub overflow_add-at : goal.overflow_add-at
overflow_add-at c =
    let x = c.args.self.now in
    let l = c.loop-p in
    let r = room x.mail x.slots.now x.lens.now x.blocks.now x.i l.p l.at c.loop-p-test.true x.lawful.planned l.invariant.0 in
    let h : x.mail.size + 2 ≤ max_entry + 2 = omega (arith, x.lawful.short) in
    omega (arith, r, mul-le-mul {n₂ = max_parties} x.lawful.few h, c.entry-at.ensures.0, entry-length (sent_by x.mail x.slots.now x.lens.now x.blocks.now x.i (l.p + 1)))

pub loop-p-preserved : goal.loop-p-preserved
loop-p-preserved c =
    let x = c.args.self.now in
    let l = c.loop-p in
    let f : ℕ → List ℕ = λ k. sent_by x.mail x.slots.now x.lens.now x.blocks.now x.i (k + 1) in
    let r = room x.mail x.slots.now x.lens.now x.blocks.now x.i l.p l.at c.loop-p-test.true x.lawful.planned l.invariant.0 in
    let e = c.entry-at.ensures in
    let q = put-there l.out c.entry-at.new.out (entry_of (f l.p)) l.at e.1 in (
      omega (arith, l.invariant.0, e.0, ap length (inbox-next f l.p), length-append (inbox_of (tabulate l.p f)) (entry_of (f l.p))),
      inbox-written f l.p l.at c.args.out.now _ l.invariant.0 (omega (arith, r, c.requires))
          (q ∙ ap (λ (y : List ℕ). spliced y l.at (entry_of (f l.p))) l.invariant.1),
    )

pub returns : goal.returns
unfolding inbox_to
returns c =
    let x = c.args.self.now in
    let e : c.loop-p.p ≡ x.mail.n = omega arith in
    let w = ap (λ (k : ℕ). inbox_of (tabulate k (λ j. sent_by x.mail x.slots.now x.lens.now x.blocks.now x.i (j + 1)))) e in
    (c.loop-p.invariant.0 ∙ ap length w, c.loop-p.invariant.1 ∙ ap (spliced c.args.out.now 0) w)
