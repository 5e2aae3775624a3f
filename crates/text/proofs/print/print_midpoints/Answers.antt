use borrow.Author.Rules.{rules}
use Rattle.text.proofs.laws.Printing.{midpoints}
use Rattle.text.proofs.print.print_midpoints.Goals as goal

pub loop-v-init : goal.loop-v-init
loop-v-init c = search (midpoints, rules)

pub loop-v-preserved : goal.loop-v-preserved
loop-v-preserved c = search (midpoints, rules)

pub returns : goal.returns
returns c = search (midpoints, rules)
