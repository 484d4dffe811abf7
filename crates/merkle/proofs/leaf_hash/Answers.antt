-- `merkle::leaf_hash` meets its contract: the leaf string is its front with the share behind it. Assumes nothing.
use Rattle.merkle.proofs.Written.{leaf-ok, leaf-digest}
use Rattle.merkle.proofs.leaf_hash.Goals as goal

pub unwrap-requires : goal.unwrap-requires
unwrap-requires c =
    leaf-ok _ c.args.session c.args.j _ _ c.args.share.now c.front_length.ensures.value c.leaf_front.ensures c.hash_with_front.ensures c.requires.short

pub returns : goal.returns
returns c =
    leaf-digest _ c.args.session c.args.j _ _ c.args.share.now c.front_length.ensures.value c.leaf_front.ensures c.hash_with_front.ensures c.requires.short
    _ c.unwrap.ensures
