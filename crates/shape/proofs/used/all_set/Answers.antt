use borrow.Author.Rules.{rules}
use borrow.Author.Tests.{tests}
use Rattle.shape.proofs.laws.Ranges.{decides_range}
use Rattle.shape.proofs.used.all_set.Goals as goal

pub returns : goal.returns
returns c = decides_range _ c.all.ensures.ran (λ x q k. search (rules, tests)) (λ x q k. search (rules, tests))
