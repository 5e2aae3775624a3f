use Rattle.std.proofs.Common.{rules}
use Rattle.intake.specs.Causes.{wrong_input}
use Rattle.intake.proofs.laws.Tests.{tests}
use Rattle.intake.proofs.lengths.input_wrong.Goals as goal

pub returns-then-coordinates : goal.returns-then-coordinates
unfolding wrong_input
returns-then-coordinates c = search (tests, rules)

pub returns-else-coordinates : goal.returns-else-coordinates
unfolding wrong_input
returns-else-coordinates c = search (tests, rules)
