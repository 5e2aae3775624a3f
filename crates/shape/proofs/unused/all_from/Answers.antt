use native.Mathlib.Omega.{arith}
use lib.ListN.{length-drop, drop}
use Rattle.shape.proofs.laws.Zero.{each_tested}
use Rattle.shape.proofs.unused.all_from.Goals as goal

pub returns : goal.returns
returns g c = each_tested (goal.F-post g c.args.test) (drop c.args.from c.args.table.now) _ _ (omega (arith, length-drop c.args.from c.args.table.now)) c.loop-x-test.false c.loop-x.invariant
