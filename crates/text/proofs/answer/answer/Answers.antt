use borrow.Author.Rules.{rules}
use Rattle.text.proofs.laws.Answer.{replying}
use Rattle.text.proofs.answer.answer.Goals as goal

pub returns : goal.returns
returns c = let e = c.in_ok-lists.was in search (replying, rules)
