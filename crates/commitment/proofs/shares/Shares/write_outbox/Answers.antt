-- `commitment::shares::Shares::write_outbox` meets its contract: after k turns the first k entries are written, one behind the other. Assumes nothing.
use mathlib.Core.Path.{refl, sym, ap, ap₂, ◌∙◌}
use mathlib.Core.List.{List, ◌++◌}
use Prim.Native.Nat.{ℕ, ◌+◌, ◌-◌, ◌≤◌}
use native.Mathlib.Omega.{arith}
use borrow.Author.Rules.{rules}
use lib.ListN.{length, take, drop, length-drop}
use Rattle.sha256.specs.Sha256.{sha256}
use Rattle.buffer.specs.Splice.{spliced}
use Rattle.buffer.proofs.Splice.{spliced-none}
use Rattle.buffer.proofs.Parts.{part-rest, tail-spliced}
use Rattle.commitment.specs.Private.{entry_for}
use Rattle.commitment.proofs.Outbox.{outbox-none, outbox-length, outbox_room, outbox-spliced}
use Rattle.commitment.proofs.shares.Shares.write_outbox.Goals as goal

pub loop-k-init : goal.loop-k-init
loop-k-init c =
    let s = c.args.self.now in
    let out = c.args.out.now in
    let e = outbox-none sha256 s.seat.n s.seat.own s.len s.all.now s.leaves.now in
    (sym (ap length e), sym (ap (spliced out 0) e ∙ spliced-none out 0))

pub slice_bounds-write_entry-count : goal.slice_bounds-write_entry-count
slice_bounds-write_entry-count c =
    let s = c.args.self.now in
    let room = outbox_room sha256 s.seat.n s.seat.own s.len s.all.now s.leaves.now c.loop-k.k (length c.args.out.now) c.loop-k-test.true c.requires in
    omega arith

pub slice_bounds-write_entry-start : goal.slice_bounds-write_entry-start
slice_bounds-write_entry-start c =
    let s = c.args.self.now in
    let room = outbox_room sha256 s.seat.n s.seat.own s.len s.all.now s.leaves.now c.loop-k.k (length c.args.out.now) c.loop-k-test.true c.requires in
    let at : c.loop-k.at ≤ length c.loop-k.out = omega arith in search rules

pub write_entry-at-requires : goal.write_entry-at-requires
write_entry-at-requires c =
    let s = c.args.self.now in
    let room = outbox_room sha256 s.seat.n s.seat.own s.len s.all.now s.leaves.now c.loop-k.k (length c.args.out.now) c.loop-k-test.true c.requires in
    let o = c.loop-k.out in
    (omega arith, omega arith, omega (arith, ap length (part-rest o c.loop-k.at), length-drop c.loop-k.at o))

pub overflow_add-at : goal.overflow_add-at
overflow_add-at c =
    let s = c.args.self.now in
    let room = outbox_room sha256 s.seat.n s.seat.own s.len s.all.now s.leaves.now c.loop-k.k (length c.args.out.now) c.loop-k-test.true c.requires in
    omega (arith, c.write_entry-at.ensures.0)

pub loop-k-preserved : goal.loop-k-preserved
loop-k-preserved c =
    let s = c.args.self.now in
    let room = outbox_room sha256 s.seat.n s.seat.own s.len s.all.now s.leaves.now c.loop-k.k (length c.args.out.now) c.loop-k-test.true c.requires in
    let o = c.loop-k.out in
    let at = c.loop-k.at in
    let k = c.loop-k.k in
    let entry = entry_for sha256 s.seat.n s.seat.own s.len s.all.now s.leaves.now (k + 1) in (
      ap₂ (λ (i m : ℕ). i + m) c.loop-k.invariant.0 c.write_entry-at.ensures.0
          ∙ sym (outbox-length sha256 s.seat.n s.seat.own s.len s.all.now s.leaves.now k),
      ap (λ (d : List ℕ). take at o ++ (d ++ drop (length o - at) (drop at o)))
          (c.write_entry-at.ensures.1 ∙ ap (λ (d : List ℕ). spliced d 0 entry) (part-rest o at))
          ∙ tail-spliced o entry at (length o - at) refl
          ∙ ap (λ (d : List ℕ). spliced d at entry) c.loop-k.invariant.1
          ∙ outbox-spliced sha256 s.seat.n s.seat.own s.len s.all.now s.leaves.now c.args.out.now k at c.loop-k.invariant.0 (omega arith),
    )
