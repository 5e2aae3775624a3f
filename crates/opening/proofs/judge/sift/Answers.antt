use borrow.Author.Rules.{rules}
use Rattle.opening.proofs.laws.Sifting.{sifting_start, sifting_same, sifting_next, sifting_end}
use Rattle.opening.proofs.judge.sift.Goals as goal

pub loop-k-init : goal.loop-k-init
loop-k-init c = sifting_start c.requires.filled

pub returns-then-met : goal.returns-then-met
returns-then-met c = rw c.at.ensures (sifting_same c.loop-k.invariant c.loop-k-test.true c.meets-met.ensures c.if-met.true)

pub loop-k-preserved : goal.loop-k-preserved
loop-k-preserved c = sifting_next c.loop-k.invariant c.loop-k-test.true c.meets-met.ensures c.if-met.false (search rules) c.fill.ensures

pub returns : goal.returns
returns c = sifting_end c.loop-k.invariant c.loop-k-test.false c.refused_at.ensures
