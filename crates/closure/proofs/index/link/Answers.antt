use borrow.Author.Rules.{rules}
use Rattle.closure.proofs.laws.Uses.{link_stored}
use Rattle.closure.proofs.index.link.Goals as goal

pub returns : goal.returns
returns c = search (link_stored, rules)
