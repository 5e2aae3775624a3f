use borrow.Author.Rules.{rules}
use Rattle.text.proofs.laws.Putting.{spelling}
use Rattle.text.proofs.put.Page.+spell.Goals as goal

pub returns-then-places-eq0 : goal.returns-then-places-eq0
returns-then-places-eq0 t c = search (spelling, rules)

pub returns-then-n-short : goal.returns-then-n-short
returns-then-n-short t c = search (spelling, rules)

pub returns : goal.returns
returns t c = search (spelling, rules)
