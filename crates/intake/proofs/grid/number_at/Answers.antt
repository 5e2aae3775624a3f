use borrow.Author.Rules.{rules}
use Rattle.intake.proofs.laws.Grid.{row_behind, row_there, quad_behind, quad_there}
use Rattle.intake.proofs.grid.number_at.Goals as goal

pub returns-then-table-k : goal.returns-then-table-k
returns-then-table-k c = search (row_behind, rules)

pub returns-then-grid : goal.returns-then-grid
returns-then-grid c = search (row_there, rules)

pub returns-then-table-k-2 : goal.returns-then-table-k-2
returns-then-table-k-2 c = search (quad_behind, rules)

pub returns : goal.returns
returns c = search (quad_there, rules)
