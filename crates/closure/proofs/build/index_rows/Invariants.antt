use Rattle.closure.proofs.laws.Build.{Building}
use Rattle.closure.proofs.build.index_rows.Given as goal

abbrev pub invariant-loop-k : goal.invariant-loop-k
invariant-loop-k l = Building l.rows l.initial.scratch l.scratch l.n l.k
