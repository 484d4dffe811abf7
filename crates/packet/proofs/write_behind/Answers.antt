-- `packet::write_behind` meets its contract: what stands in front, head, share and path are put one behind the other. Assumes nothing.
use mathlib.Core.Path.{◌≡◌, sym, ap₂, ◌∙◌}
use mathlib.Core.List.{List, ◌++◌}
use Prim.Native.Nat.{ℕ, ◌+◌}
use native.Mathlib.Omega.{arith}
use lib.ListN.{length, length-append}
use Rattle.buffer.specs.Given.{gave}
use Rattle.buffer.specs.Given.{Done}
use Rattle.buffer.proofs.Given.{written-done}
use Rattle.packet.specs.Private.{laid}
use Rattle.packet.proofs.Parts.{put-laid}
use Rattle.packet.proofs.write_behind.Goals as goal

pub returns : goal.returns
returns c =
    let a = c.args in
    let all = a.front.now ++ laid a.number a.share.now a.path.now in
    let long : length a.front.now + 4 + length a.share.now + length a.path.now ≡ length all =
    omega (arith, length-append a.front.now (laid a.number a.share.now a.path.now), length-append a.share.now a.path.now) in
    let put = rw (c.put-3.ensures.1, c.put-2.ensures.1, c.put.ensures.1, c.to_be_bytes.ensures) at c.put-4.ensures.1 in
    ap₂ (λ (k : ℕ) (o : List ℕ). gave (Done k) o) long
    (put ∙ put-laid a.out.now a.front.now a.share.now a.path.now a.number (omega arith) (omega arith))
    ∙ sym (written-done all a.out.now (omega arith))
