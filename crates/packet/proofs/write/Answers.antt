-- `packet::write` meets its contract: the cause, or the packet as it is laid down. Assumes nothing.
use mathlib.Core.Path.{◌≡◌, sym, ap, ◌∙◌}
use mathlib.Core.List.{List}
use Prim.Native.Nat.{ℕ}
use native.Mathlib.Omega.{arith}
use lib.ListN.{length, take}
use lib.Seq.{length-take-le}
use Rattle.limits.specs.Limits.{max_path}
use Rattle.buffer.specs.Given.{written}
use Rattle.packet.proofs.Parts.{packet-laid}
use Rattle.packet.proofs.Writing.{fine_of, write-written}
use borrow.Author.Rules.{rules}
use Rattle.packet.proofs.write.Goals as goal

pub slice_bounds-path-end : goal.slice_bounds-path-end
slice_bounds-path-end c =
    let long : length c.args.path ≡ max_path = search rules in
    omega (arith, fine_of _ _ _ _ c.in_ok-packet_size.ensures.0)

pub slice_bounds-as_flattened-end : goal.slice_bounds-as_flattened-end
slice_bounds-as_flattened-end c =
    let long : length c.args.path ≡ max_path = search rules in
    sym (length-take-le c.args.count c.args.path (omega (arith, fine_of _ _ _ _ c.in_ok-packet_size.ensures.0)))

pub write_behind-requires : goal.write_behind-requires
write_behind-requires c =
    let f = fine_of _ _ _ _ c.in_ok-packet_size.ensures.0 in
    let long : length c.args.path ≡ max_path = search rules in
    let few : length (take c.args.count c.args.path) ≡ c.args.count = length-take-le c.args.count c.args.path (omega arith) in
    (omega arith, omega arith, omega arith, omega (arith, c.as_flattened.ensures.len))

pub returns : goal.returns
returns c =
    let a = c.args in
    c.write_behind.ensures
    ∙ ap (λ (bs : List ℕ). written bs a.out.now) (packet-laid a.number a.share.now _ _ c.as_flattened.ensures.value)
    ∙ sym (write-written a.n a.number a.share.now a.path a.count a.out.now c.in_ok-packet_size.ensures.0)
