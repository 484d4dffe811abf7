-- `packet::write_entry` meets its contract: the cause, or the packet as it is laid down, behind its length. Assumes nothing.
use mathlib.Core.Path.{◌≡◌, sym, ap, ◌∙◌}
use mathlib.Core.List.{List}
use Prim.Native.Nat.{ℕ}
use native.Mathlib.Omega.{arith}
use lib.ListN.{length, take}
use lib.Seq.{length-take-le}
use Rattle.limits.specs.Limits.{max_path}
use Rattle.buffer.specs.Given.{written}
use Rattle.packet.proofs.Parts.{entry-laid}
use Rattle.packet.proofs.Writing.{fine_of, entry-written}
use borrow.Author.Rules.{rules}
use Rattle.packet.proofs.write_entry.Goals as goal

pub slice_bounds-path-end : goal.slice_bounds-path-end
slice_bounds-path-end c =
    let long : length c.args.path ≡ max_path = search rules in
    omega (arith, fine_of _ _ _ _ c.in_ok-size.ensures.0)

pub slice_bounds-as_flattened-end : goal.slice_bounds-as_flattened-end
slice_bounds-as_flattened-end c =
    let long : length c.args.path ≡ max_path = search rules in
    sym (length-take-le c.args.count c.args.path (omega (arith, fine_of _ _ _ _ c.in_ok-size.ensures.0)))

pub write_behind-requires : goal.write_behind-requires
write_behind-requires c =
    let f = fine_of _ _ _ _ c.in_ok-size.ensures.0 in
    let long : length c.args.path ≡ max_path = search rules in
    let few : length (take c.args.count c.args.path) ≡ c.args.count = length-take-le c.args.count c.args.path (omega arith) in
    (omega arith, omega arith, omega arith, omega (arith, c.as_flattened-path.ensures.len))

pub returns : goal.returns
returns c =
    let a = c.args in
    let f = fine_of _ _ _ _ c.in_ok-size.ensures.0 in
    let long : length c.args.path ≡ max_path = search rules in
    let few : length (take a.count a.path) ≡ a.count = length-take-le a.count a.path (omega arith) in
    rw c.to_be_bytes.ensures at c.write_behind.ensures
    ∙ ap (λ (bs : List ℕ). written bs a.out.now)
    (entry-laid a.number c.in_ok-size.size a.share.now _ _ c.as_flattened-path.ensures.value (omega (arith, c.in_ok-size.ensures.1, c.as_flattened-path.ensures.len)) (omega (arith, c.in_ok-size.ensures.1)))
    ∙ sym (entry-written a.n a.number a.share.now a.path a.count a.out.now c.in_ok-size.ensures.0)
