use Rattle.closure.proofs.laws.Gather.{Walk}
use Rattle.closure.proofs.gather.gather.Given as goal

abbrev pub invariant-loop-at : goal.invariant-loop-at
invariant-loop-at l = Walk l.rows l.initial.scratch l.scratch l.n l.e l.a l.at l.k

abbrev pub decreases-loop-at : goal.decreases-loop-at
decreases-loop-at l = l.at
