use Rattle.std.proofs.Common.{rules}
use Rattle.intake.specs.Causes.{missing}
use Rattle.intake.proofs.laws.Tests.{tests}
use Rattle.intake.proofs.elements.is_missing.Goals as goal

pub returns-then-vertices-vertex_at-3 : goal.returns-then-vertices-vertex_at-3
unfolding missing
returns-then-vertices-vertex_at-3 c = search (tests, rules)

pub returns-else-vertices-vertex_at-3 : goal.returns-else-vertices-vertex_at-3
unfolding missing
returns-else-vertices-vertex_at-3 c = search (tests, rules)
