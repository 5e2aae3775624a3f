use Rattle.soundness.proofs.laws.Pairs.{Seeking}
use Rattle.soundness.proofs.pairs.Pairs.untaken.Given as goal

abbrev pub invariant-loop-x : goal.invariant-loop-x
invariant-loop-x l = Seeking l.self.heads l.self.records.now l.self.first l.self.end l.a l.b l.x

abbrev pub decreases-loop-x : goal.decreases-loop-x
decreases-loop-x l = l.x
