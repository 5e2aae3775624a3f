-- `opening::colours::colour_all` meets its contract. The invariant: the first v vertices are coloured, none over 63.
use borrow.Author.Rules.{rules}
use Rattle.opening.proofs.laws.Painted.{colouring_start, colouring_step, colouring_stop, colouring_done}
use Rattle.opening.proofs.colours.colour_all.Goals as goal

pub loop-v-init : goal.loop-v-init
loop-v-init c = search (colouring_start, rules)

pub returns-in_default : goal.returns-in_default
returns-in_default c = search (colouring_stop, rules)

pub loop-v-preserved : goal.loop-v-preserved
loop-v-preserved c = search (colouring_step, rules)

pub returns : goal.returns
returns c = search (colouring_done, rules)
