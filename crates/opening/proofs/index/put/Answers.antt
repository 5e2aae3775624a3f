use borrow.Author.Rules.{rules}
use Rattle.opening.proofs.laws.Indexing.{filling_next}
use Rattle.opening.proofs.index.put.Goals as goal

pub returns : goal.returns
returns c = search (filling_next, rules)
