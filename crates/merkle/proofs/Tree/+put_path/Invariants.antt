-- Each half of a tree has fewer leaves than the tree.
use Rattle.merkle.proofs.Tree.+put_path.Given as goal

abbrev pub decreases-put_path : goal.decreases-put_path
decreases-put_path l = l.spot.part.width
