use Rattle.closure.proofs.laws.Tests.{other_tests}
use Rattle.closure.proofs.gather.other.Goals as goal

pub returns-then-e-a : goal.returns-then-e-a
returns-then-e-a c = search other_tests

pub returns-else-e-a : goal.returns-else-e-a
returns-else-e-a c = search other_tests
