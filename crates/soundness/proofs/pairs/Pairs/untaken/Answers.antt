-- `soundness::pairs::Pairs::untaken` meets its contract. The loop's invariant: no place of the key from where the walk is on is of a vertex with these parents. Assumes nothing.
use borrow.Author.Rules.{rules}
use Rattle.soundness.proofs.laws.Chains.{walked_head}
use Rattle.soundness.proofs.laws.Pairs.{key_low, seek_less, seek_on, seek_done}
use Rattle.soundness.proofs.pairs.Pairs.untaken.Goals as goal

pub loop-x-init : goal.loop-x-init
loop-x-init c = search (walked_head, key_low, rules)

pub loop-x-smaller : goal.loop-x-smaller
loop-x-smaller c = search (seek_less, rules)

pub loop-x-preserved : goal.loop-x-preserved
loop-x-preserved c = search (seek_on, rules)

pub returns : goal.returns
returns c = search (seek_done, rules)
