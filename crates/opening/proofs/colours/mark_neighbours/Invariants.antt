use Rattle.opening.specs.Mesh.{cells_of}
use Rattle.opening.proofs.laws.Marks.{Walked}
use Rattle.opening.proofs.colours.mark_neighbours.Given as goal

abbrev pub invariant-loop-at : goal.invariant-loop-at
invariant-loop-at l = Walked (cells_of l.mesh) l.paint l.v l.at l.flags

abbrev pub decreases-loop-at : goal.decreases-loop-at
decreases-loop-at l = l.at
