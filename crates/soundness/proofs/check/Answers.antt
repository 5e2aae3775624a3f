use mathlib.Core.Path.{refl}
use Rattle.soundness.proofs.laws.Steps.{enough_small, enough_large}
use Rattle.soundness.proofs.check.Goals as goal

pub decide_with-requires-clause-enough : goal.decide_with-requires-clause-enough
decide_with-requires-clause-enough c = enough_small _ 60000 refl c.if-c-le10000.true

pub decide_with-requires-2-clause-enough : goal.decide_with-requires-2-clause-enough
decide_with-requires-2-clause-enough c = enough_large _ 420000 refl
