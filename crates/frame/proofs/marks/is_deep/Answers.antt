use Rattle.frame.proofs.laws.Marks.{deep_tests}
use Rattle.frame.proofs.marks.is_deep.Goals as goal

pub returns-then-held-eq0 : goal.returns-then-held-eq0
returns-then-held-eq0 c = search deep_tests

pub returns-else-held-eq0 : goal.returns-else-held-eq0
returns-else-held-eq0 c = search deep_tests
