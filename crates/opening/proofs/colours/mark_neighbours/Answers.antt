-- `opening::colours::mark_neighbours` meets its contract. The invariant: the slots of v from `at` on are behind the walk; each next place is smaller. Assumes nothing.
use borrow.Author.Rules.{rules}
use Rattle.opening.proofs.laws.Marks.{walked_start, walked_less, walked_step, walked_done}
use Rattle.opening.proofs.colours.mark_neighbours.Goals as goal

pub loop-at-init : goal.loop-at-init
loop-at-init c = search (walked_start, rules)

pub loop-at-smaller : goal.loop-at-smaller
loop-at-smaller c = search (walked_less, rules)

pub loop-at-preserved : goal.loop-at-preserved
loop-at-preserved c = search (walked_step, rules)

pub returns : goal.returns
returns c = search (walked_done, rules)
