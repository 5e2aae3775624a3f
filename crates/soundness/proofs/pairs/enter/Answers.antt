-- `soundness::pairs::enter` meets its contract. The loop's invariant: the pairs of the vertices below v are in the index, and none stands twice. Assumes nothing.
use borrow.Author.Rules.{rules}
use Rattle.soundness.proofs.laws.Pairs.{entering_none, entering_on}
use Rattle.soundness.proofs.pairs.enter.Goals as goal

pub loop-v-init : goal.loop-v-init
loop-v-init c = search (entering_none, rules)

pub loop-v-preserved : goal.loop-v-preserved
loop-v-preserved c = search (entering_on, rules)
