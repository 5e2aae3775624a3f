use borrow.Author.Rules.{rules}
use Rattle.text.proofs.laws.Putting.{listing}
use Rattle.text.proofs.put.Page.put_numbers.Goals as goal

pub loop-n-init : goal.loop-n-init
loop-n-init c = search (listing, rules)

pub loop-n-preserved : goal.loop-n-preserved
loop-n-preserved c = search (listing, rules)
