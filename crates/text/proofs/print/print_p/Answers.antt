use borrow.Author.Rules.{rules}
use Rattle.text.proofs.laws.Putting.{p_line_lem}
use Rattle.text.proofs.print.print_p.Goals as goal

pub returns : goal.returns
returns c = search (p_line_lem, rules)
