use borrow.Author.Rules.{rules}
use borrow.Author.Tests.{tests}
use Rattle.std.proofs.lemmas.Iterator.{first_from_Range}
use Rattle.shape.proofs.laws.Ranges.{leading_run}
use Rattle.shape.proofs.parts.initials.Goals as goal

pub returns : goal.returns
returns c = leading_run _ _ (first_from_Range _ _ _ _ _ _ c.find.ensures.ran (λ x q k. search (rules, tests)) (λ x q k. search (rules, tests))) c.unwrap_or.ensures
