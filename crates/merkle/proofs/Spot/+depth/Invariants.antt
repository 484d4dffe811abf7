-- Each half of a tree has fewer leaves than the tree.
use Rattle.merkle.proofs.Spot.+depth.Given as goal

abbrev pub decreases-depth : goal.decreases-depth
decreases-depth l = l.self.part.width
