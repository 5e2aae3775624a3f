use borrow.Author.Rules.{rules}
use Rattle.intake.proofs.laws.Grid.{behind_at}
use Rattle.intake.proofs.grid.number.Goals as goal

pub returns-then-table-at : goal.returns-then-table-at
returns-then-table-at c = search (behind_at, rules)
