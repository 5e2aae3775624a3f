use borrow.Author.Rules.{rules}
use Rattle.intake.specs.Cells.{four_of}
use Rattle.intake.proofs.grid.part.Goals as goal

pub returns : goal.returns
unfolding four_of
returns c = search rules
