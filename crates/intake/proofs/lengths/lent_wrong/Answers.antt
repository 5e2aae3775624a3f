use Rattle.std.proofs.Common.{rules}
use Rattle.intake.specs.Causes.{wrong_lent}
use Rattle.intake.proofs.laws.Tests.{tests}
use Rattle.intake.proofs.lengths.lent_wrong.Goals as goal

pub returns-then-records-ne0 : goal.returns-then-records-ne0
unfolding wrong_lent
returns-then-records-ne0 c = search (tests, rules)

pub returns-else-records-ne0 : goal.returns-else-records-ne0
unfolding wrong_lent
returns-else-records-ne0 c = search (tests, rules)
