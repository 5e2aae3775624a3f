use Rattle.soundness.proofs.laws.Pairs.{Entering}
use Rattle.soundness.proofs.pairs.enter.Given as goal

abbrev pub invariant-loop-v : goal.invariant-loop-v
invariant-loop-v l = Entering l.heads l.records l.i l.n l.v l.initial.scratch l.scratch
