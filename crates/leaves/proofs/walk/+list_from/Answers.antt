use borrow.Author.Rules.{rules}
use Rattle.leaves.proofs.laws.Walking.{walking}
use Rattle.leaves.proofs.walk.+list_from.Goals as goal

pub list_leaf-requires : goal.list_leaf-requires
list_leaf-requires t c = search (walking, rules)

pub returns-then-held-eq0 : goal.returns-then-held-eq0
returns-then-held-eq0 t c = search (walking, rules)

pub list_from-next-requires : goal.list_from-next-requires
list_from-next-requires t c = (search (walking, rules), search walking)

pub list_from-requires : goal.list_from-requires
list_from-requires t c = (search (walking, rules), search walking)

pub returns : goal.returns
returns t c = search (walking, rules)
