use borrow.Author.Rules.{rules}
use Rattle.closure.proofs.laws.Uses.{row_pushed_lem}
use Rattle.closure.proofs.index.index_row.Goals as goal

pub returns : goal.returns
returns c = search (row_pushed_lem, rules)
