use Rattle.leaves.specs.Walk.{Listing}
use Rattle.leaves.proofs.roots.list_roots.Given as goal

abbrev pub invariant-loop-k : goal.invariant-loop-k
invariant-loop-k l = Listing l.rows l.n l.k l.initial.list l.initial.levels l.list l.levels l.at
