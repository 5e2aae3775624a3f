use borrow.Author.Rules.{rules}
use borrow.Author.Tests.{tests}
use Rattle.shape.proofs.laws.Ranges.{decides_range}
use Rattle.shape.proofs.parts.no_initial_from.Goals as goal

pub returns : goal.returns
returns c = decides_range _ c.all.ensures.ran (λ x q k. search (rules, tests)) (λ x q k. search (rules, tests))
