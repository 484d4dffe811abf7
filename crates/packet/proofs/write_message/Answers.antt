-- `packet::write_message` meets its contract: cause 4, the length needed, or the packet at the start of the buffer. Assumes nothing.
use mathlib.Core.Path.{sym, ap, ◌∙◌}
use Prim.Native.Nat.{◌+◌}
use native.Mathlib.Omega.{arith}
use lib.ListN.{length}
use Rattle.buffer.specs.Given.{gave}
use Rattle.buffer.specs.Given.{Done}
use Rattle.packet.proofs.Messages.{write_done, message-joined}
use Rattle.packet.proofs.write_message.Goals as goal

pub returns : goal.returns
returns c =
    let a = c.args in
    let head = rw c.to_be_bytes.ensures at c.put.ensures.1 in
    let put = rw head at c.put-2.ensures.1 in
    sym (write_done a.message.now a.out.now (omega arith) (omega arith)
    ∙ ap (gave (Done (3 + length a.message.now))) (sym (put ∙ message-joined a.out.now a.message.now (omega arith) (omega arith))))
