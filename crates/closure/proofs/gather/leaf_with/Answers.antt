use Rattle.closure.proofs.laws.Tests.{leaf_tests}
use Rattle.closure.proofs.gather.leaf_with.Goals as goal

pub returns-then-held-eq0 : goal.returns-then-held-eq0
returns-then-held-eq0 c = search leaf_tests

pub returns-else-held-eq0 : goal.returns-else-held-eq0
returns-else-held-eq0 c = search leaf_tests
