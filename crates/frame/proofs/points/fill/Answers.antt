use borrow.Author.Rules.{rules}
use Rattle.frame.proofs.laws.Steps.{stepping}
use Rattle.frame.proofs.points.fill.Goals as goal

pub loop-v-init : goal.loop-v-init
loop-v-init c = search (stepping, rules)

pub loop-v-preserved : goal.loop-v-preserved
loop-v-preserved c = search (stepping, rules)

pub returns : goal.returns
returns c = search (stepping, rules)
