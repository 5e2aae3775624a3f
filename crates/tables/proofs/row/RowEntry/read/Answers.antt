use mathlib.Core.Path.{sym, ◌∙◌}
use Rattle.tables.proofs.laws.Table.{at_held, at_past}
use Rattle.tables.proofs.laws.Rows.{rows}
use Rattle.tables.proofs.row.RowEntry.read.Goals as goal

pub returns-then-k-table : goal.returns-then-k-table
returns-then-k-table c = sym (at_held rows _ _ c.if-k-table.true)

pub returns : goal.returns
returns c = c.unused.ensures ∙ sym (at_past rows _ _ c.if-k-table.false)
