use borrow.Author.Rules.{rules}
use Rattle.text.proofs.laws.Putting.{l_line_lem}
use Rattle.text.proofs.print.print_leaf.Goals as goal

pub returns : goal.returns
returns c = search (l_line_lem, rules)
