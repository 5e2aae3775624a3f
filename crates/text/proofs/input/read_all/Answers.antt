use borrow.Author.Rules.{rules}
use Rattle.text.proofs.laws.Loop.{looping}
use Rattle.text.proofs.input.read_all.Goals as goal

pub loop-at-smaller : goal.loop-at-smaller
loop-at-smaller c = let e = c.in_ok-at.was in search (looping, rules)

pub loop-at-preserved : goal.loop-at-preserved
loop-at-preserved c = let e = c.in_ok-at.was in search (looping, rules)

pub returns : goal.returns
returns c = search (looping, rules)
