use Rattle.frame.specs.Points.{with_point}
use Rattle.frame.proofs.laws.Steps.{Stepping}
use Rattle.frame.proofs.points.fill.Given as goal

abbrev pub invariant-loop-v : goal.invariant-loop-v
invariant-loop-v l = Stepping (with_point l.records) l.initial.points l.from l.v-end l.points l.v
