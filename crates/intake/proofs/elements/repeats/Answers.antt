use Rattle.std.proofs.Common.{rules}
use Rattle.intake.specs.Causes.{twice}
use Rattle.intake.proofs.laws.Tests.{tests}
use Rattle.intake.proofs.elements.repeats.Goals as goal

pub returns-then-b-d : goal.returns-then-b-d
unfolding twice
returns-then-b-d c = search (tests, rules)

pub returns-else-b-d : goal.returns-else-b-d
unfolding twice
returns-else-b-d c = search (tests, rules)
