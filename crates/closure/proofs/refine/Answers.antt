use mathlib.Core.Path.{refl}
use Rattle.closure.proofs.laws.Call.{spacious_small, spacious_middle, spacious_large}
use Rattle.closure.proofs.refine.Goals as goal

pub refine_with-requires-clause-enough : goal.refine_with-requires-clause-enough
refine_with-requires-clause-enough c = spacious_small _ 60000 refl c.if-rows-le4000.true

pub refine_with-requires-then-rows-le12000-clause-enough : goal.refine_with-requires-then-rows-le12000-clause-enough
refine_with-requires-then-rows-le12000-clause-enough c = spacious_middle _ 100000 refl c.if-rows-le12000.true

pub refine_with-requires-2-clause-enough : goal.refine_with-requires-2-clause-enough
refine_with-requires-2-clause-enough c = spacious_large _ 540000 refl
