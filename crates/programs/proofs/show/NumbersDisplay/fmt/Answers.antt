use Rattle.std.proofs.Common.{arith}
use Rattle.std.proofs.lemmas.Grind.{common_steps}
use Rattle.programs.specs.Shown.{numbers_text}
use Rattle.programs.proofs.show.NumbersDisplay.fmt.Goals as goal

pub loop-n-init : goal.loop-n-init
unfolding numbers_text
loop-n-init g c = grind (arith, common_steps)

pub loop-n-preserved : goal.loop-n-preserved
unfolding numbers_text
loop-n-preserved g c = grind (arith, common_steps)
