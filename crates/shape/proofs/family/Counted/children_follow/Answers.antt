use borrow.Author.Rules.{rules}
use Rattle.shape.proofs.laws.Used.{following_on, following_stop, following_all}
use Rattle.shape.proofs.family.Counted.children_follow.Goals as goal

pub returns-then-not-child_follows : goal.returns-then-not-child_follows
returns-then-not-child_follows c = search (following_stop, rules)

pub loop-r-preserved : goal.loop-r-preserved
loop-r-preserved c = following_on c.loop-r.invariant c.loop-r-test.true c.child_follows.ensures c.if-not-child_follows.false c.middle.ensures c.put.ensures

pub returns : goal.returns
returns c = search (following_all, rules)
