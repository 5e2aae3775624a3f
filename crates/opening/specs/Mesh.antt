-- The elements of an input, and of a mesh that opening has found plain.
use Rattle.intake.specs.Cells.{Cells, cells}
use Rattle.opening.specs.declared.input.Input.{Input}
use Rattle.opening.specs.declared.mesh.Mesh.{Mesh}

abbrev pub cells_in : Input → Cells
cells_in i = cells i.elements.now i.grid

abbrev pub cells_of : Mesh → Cells
cells_of m = cells m.elements.now m.grid
