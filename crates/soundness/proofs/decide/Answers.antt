use Rattle.soundness.proofs.laws.Steps.{shape_runs, shape_not}
use Rattle.soundness.proofs.decide.Goals as goal

pub judge-requires-clause-shapely : goal.judge-requires-clause-shapely
judge-requires-clause-shapely c = shape_runs c.shaped.ensures c.in-Some.is

pub returns-in-None : goal.returns-in-None
returns-in-None c = shape_not c.shaped.ensures c.in-None.is
