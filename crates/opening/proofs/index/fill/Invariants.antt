use Prim.Native.Nat.{◌+◌, ◌*◌}
use Rattle.opening.specs.Mesh.{cells_of}
use Rattle.opening.specs.Scratch.{Filled}
use Rattle.opening.proofs.index.fill.Given as goal

abbrev pub invariant-loop-q : goal.invariant-loop-q
invariant-loop-q l = Filled (cells_of l.mesh) (4 * l.k + l.q) l.index
