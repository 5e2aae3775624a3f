use borrow.Author.Rules.{rules}
use Rattle.leaves.proofs.laws.Walking.{rooting}
use Rattle.leaves.proofs.roots.list_root.Goals as goal

pub list_from-requires : goal.list_from-requires
list_from-requires c = search (rooting, rules)

pub returns-then-wide-k : goal.returns-then-wide-k
returns-then-wide-k c = search (rooting, rules)

pub returns : goal.returns
returns c = search (rooting, rules)
