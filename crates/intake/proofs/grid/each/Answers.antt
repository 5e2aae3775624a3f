use Rattle.intake.specs.Cells.{four_of}
use Rattle.intake.proofs.grid.each.Goals as goal

pub returns : goal.returns
unfolding four_of
returns c = cc
