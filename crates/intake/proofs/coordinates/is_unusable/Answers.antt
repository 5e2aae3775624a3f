use Rattle.std.proofs.Common.{rules}
use Rattle.intake.specs.Causes.{unusable}
use Rattle.intake.proofs.laws.Tests.{tests}
use Rattle.intake.proofs.coordinates.is_unusable.Goals as goal

pub returns : goal.returns
unfolding unusable
returns c = search (tests, rules)
