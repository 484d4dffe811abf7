-- Each half of a tree has fewer leaves than the tree.
use Rattle.merkle.proofs.Spot.+fold.Given as goal

abbrev pub decreases-fold : goal.decreases-fold
decreases-fold l = l.self.part.width
