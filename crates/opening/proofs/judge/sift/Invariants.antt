use Rattle.opening.specs.Mesh.{cells_of}
use Rattle.opening.proofs.laws.Sifting.{Sifting}
use Rattle.opening.proofs.judge.sift.Given as goal

abbrev pub invariant-loop-k : goal.invariant-loop-k
invariant-loop-k l = Sifting (cells_of l.mesh) l.k l.third l.index
