use Rattle.opening.specs.Mesh.{cells_of}
use Rattle.opening.proofs.laws.Earlier.{Tally}
use Rattle.opening.proofs.faces.tally.Given as goal

abbrev pub invariant-loop-at : goal.invariant-loop-at
invariant-loop-at l = Tally (cells_of l.mesh) l.k l.t.a l.t.b l.t.c l.t.d l.s l.at

abbrev pub decreases-loop-at : goal.decreases-loop-at
decreases-loop-at l = l.at
