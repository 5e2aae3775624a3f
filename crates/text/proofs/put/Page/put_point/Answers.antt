use borrow.Author.Rules.{rules}
use Rattle.text.proofs.laws.Putting.{three_put}
use Rattle.text.proofs.put.Page.put_point.Goals as goal

pub returns : goal.returns
returns c = search (three_put, rules)
