use borrow.Author.Rules.{rules}
use Rattle.closure.proofs.laws.Uses.{count_one}
use Rattle.closure.proofs.index.count.Goals as goal

pub returns : goal.returns
returns c = search (count_one, rules)
