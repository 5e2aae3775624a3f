use mathlib.Core.Path.{sym, ◌∙◌}
use Rattle.tables.proofs.laws.Table.{at_held, at_past}
use Rattle.tables.proofs.laws.Rows.{points}
use Rattle.tables.proofs.point.PointEntry.read.Goals as goal

pub returns-then-k-table : goal.returns-then-k-table
returns-then-k-table c = sym (at_held points _ _ c.if-k-table.true)

pub returns : goal.returns
returns c = c.unused.ensures ∙ sym (at_past points _ _ c.if-k-table.false)
