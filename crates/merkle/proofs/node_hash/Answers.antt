-- `merkle::node_hash` meets its contract: the two writes put the node string together. Assumes nothing.
use Rattle.std.proofs.Common.{length, sym, ap, ◌∙◌, arith}
use Rattle.sha256.specs.Sha256.{hash_of}
use Rattle.sha256.proofs.Laws.{hash-ok, hash-digest}
use Rattle.merkle.specs.Tree.{node_string}
use Rattle.merkle.proofs.Written.{node-written, length-node_string}
use Rattle.merkle.proofs.node_hash.Goals as goal

pub slice_bounds-hash-end : goal.slice_bounds-hash-end
slice_bounds-hash-end c =
    let l = c.args.left.now in
    let r = c.args.right.now in
    let e = node-written c.copy_from_slice.new.self c.copy_from_slice-2.new.self l r c.copy_from_slice.ensures.after c.copy_from_slice-2.ensures.after c.told-left c.told-right in
    sym (ap length e ∙ length-node_string l r c.told-left c.told-right)

pub unwrap-requires : goal.unwrap-requires
unwrap-requires c =
    let l = c.args.left.now in
    let r = c.args.right.now in
    let e = node-written c.copy_from_slice.new.self c.copy_from_slice-2.new.self l r c.copy_from_slice.ensures.after c.copy_from_slice-2.ensures.after c.told-left c.told-right in
    hash-ok _ (node_string l r) (c.hash.ensures ∙ ap hash_of e) (omega (arith, length-node_string l r c.told-left c.told-right))

pub returns : goal.returns
returns c =
    let l = c.args.left.now in
    let r = c.args.right.now in
    let e = node-written c.copy_from_slice.new.self c.copy_from_slice-2.new.self l r c.copy_from_slice.ensures.after c.copy_from_slice-2.ensures.after c.told-left c.told-right in
    hash-digest _ (node_string l r) _ (c.hash.ensures ∙ ap hash_of e) (omega (arith, length-node_string l r c.told-left c.told-right)) c.unwrap.ensures
