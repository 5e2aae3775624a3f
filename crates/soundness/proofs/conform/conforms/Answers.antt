use borrow.Author.Rules.{rules}
use borrow.Author.Tests.{tests}
use Rattle.sound.proofs.laws.Deciding.{all_places}
use Rattle.shape.proofs.laws.Ranges.{decides_range}
use Rattle.soundness.proofs.conform.conforms.Goals as goal

pub returns : goal.returns
returns c = all_places (decides_range _ c.all.ensures.ran (λ x q k. search (rules, tests)) (λ x q k. search (rules, tests)))
