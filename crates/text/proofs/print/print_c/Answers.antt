use borrow.Author.Rules.{rules}
use Rattle.text.proofs.laws.Putting.{c_line_lem}
use Rattle.text.proofs.print.print_c.Goals as goal

pub returns : goal.returns
returns c = search (c_line_lem, rules)
