use borrow.Author.Rules.{rules}
use Rattle.leaves.proofs.laws.Filling.{filled}
use Rattle.leaves.proofs.call.fill.Goals as goal

pub returns : goal.returns
returns c = search (filled, rules)
