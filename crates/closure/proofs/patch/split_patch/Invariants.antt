use Rattle.closure.proofs.laws.Patch.{Turn}
use Rattle.closure.proofs.patch.split_patch.Given as goal

abbrev pub invariant-loop-j : goal.invariant-loop-j
invariant-loop-j l = Turn l.initial.rows l.initial.scratch l.n l.k l.v l.rows l.scratch l.j
