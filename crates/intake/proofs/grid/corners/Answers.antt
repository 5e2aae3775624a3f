use borrow.Author.Rules.{rules}
use Rattle.intake.proofs.laws.Grid.{row_four, quad_four}
use Rattle.intake.proofs.grid.corners.Goals as goal

pub returns-then-grid : goal.returns-then-grid
returns-then-grid c = search (row_four, rules)

pub returns : goal.returns
returns c = search (quad_four, rules)
