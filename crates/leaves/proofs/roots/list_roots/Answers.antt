use borrow.Author.Rules.{rules}
use Rattle.leaves.proofs.laws.Filling.{rooted}
use Rattle.leaves.proofs.roots.list_roots.Goals as goal

pub loop-k-init : goal.loop-k-init
loop-k-init c = search (rooted, rules)

pub list_root-at-requires : goal.list_root-at-requires
list_root-at-requires c = search (rooted, rules)

pub loop-k-preserved : goal.loop-k-preserved
loop-k-preserved c = search (rooted, rules)
