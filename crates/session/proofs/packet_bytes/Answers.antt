-- `session::packet_bytes` meets its contract: the bytes of all packets are those counted and those still to come. Assumes nothing.
use mathlib.Core.Path.{◌≡◌}
use Prim.Native.Nat.{◌+◌, ◌-◌}
use native.Mathlib.Omega.{arith}
use native.Mathlib.Nat.{sub-zero}
use lib.ListN.{drop}
use Rattle.buffer.specs.Entries.{size}
use Rattle.session.proofs.Sums.{packets-end, packets-none, packets-more, packets-last}
use Rattle.session.proofs.packet_bytes.Goals as goal

pub returns-then-outbox-at-lt2 : goal.returns-then-outbox-at-lt2
returns-then-outbox-at-lt2 c =
    let l = c.loop-k in
    let a = c.args in
    (omega (arith, l.invariant.2, packets-none (a.n - l._k) l.at a.outbox.now (omega arith)), omega arith)

pub returns-then-left-size : goal.returns-then-left-size
returns-then-left-size c =
    let l = c.loop-k in
    let a = c.args in
    (omega (arith, l.invariant.2, packets-last (a.n - (l._k + 1)) (a.n - l._k) l.at a.outbox.now (omega arith) (omega arith)), omega arith)

pub loop-k-preserved : goal.loop-k-preserved
loop-k-preserved c =
    let l = c.loop-k in
    let a = c.args in
    let e : c.size_at-size.result ≡ size (drop l.at a.outbox.now) = c.size_at-size.ensures in (
      omega arith,
      omega arith,
      rw e (omega (arith, l.invariant.2, packets-more (a.n - (l._k + 1)) (a.n - l._k) l.at a.outbox.now (omega arith) (omega arith))),
    )

pub returns : goal.returns
returns c =
    let l = c.loop-k in
    let a = c.args in
    (omega (arith, l.invariant.2, packets-end (a.n - l._k) l.at a.outbox.now (omega arith)), omega arith)

pub loop-k-init : goal.loop-k-init
loop-k-init c = (omega arith, omega arith, rw sub-zero (omega arith))
