use Rattle.std.proofs.Common.{arith}
use Rattle.std.proofs.lemmas.Grind.{common_steps}
use Rattle.programs.specs.Shown.{coordinates_text}
use Rattle.programs.proofs.show.CoordinatesDisplay.fmt.Goals as goal

pub loop-x-init : goal.loop-x-init
unfolding coordinates_text
loop-x-init g c = grind (arith, common_steps)

pub loop-x-preserved : goal.loop-x-preserved
unfolding coordinates_text
loop-x-preserved g c = grind (arith, common_steps)
