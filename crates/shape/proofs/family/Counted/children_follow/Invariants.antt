use Rattle.shape.proofs.laws.Used.{Following}
use Rattle.shape.proofs.family.Counted.children_follow.Given as goal

abbrev pub invariant-loop-r : goal.invariant-loop-r
invariant-loop-r l = Following l.self.records.now l.self.rows.now l.self.counts l.runs.initials l.runs.roots l.r l.initial.flags l.flags
