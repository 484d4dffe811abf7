-- Each half of a tree has fewer leaves than the tree.
use Rattle.merkle.proofs.Part.+fill.Given as goal

abbrev pub decreases-fill : goal.decreases-fill
decreases-fill l = l.self.width
