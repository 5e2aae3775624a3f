use Rattle.opening.specs.Mesh.{cells_of}
use Rattle.opening.proofs.laws.Painted.{Colouring}
use Rattle.opening.proofs.colours.colour_all.Given as goal

abbrev pub invariant-loop-v : goal.invariant-loop-v
invariant-loop-v l = Colouring (cells_of l.mesh) l.v l.paint
