use lib.ListN.{take}
use Rattle.shape.proofs.laws.Zero.{Tested}
use Rattle.shape.proofs.unused.all_from.Given as goal

abbrev pub invariant-loop-x : goal.invariant-loop-x
invariant-loop-x g l = Tested (goal.F-post g l.test) (take l.x-index l.x-items) l.clean
