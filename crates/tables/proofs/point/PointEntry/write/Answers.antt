use mathlib.Core.Path.{sym}
use native.Mathlib.Omega.{arith}
use lib.ListN.{length-set}
use Rattle.tables.proofs.laws.Table.{put_stored, put_past}
use Rattle.tables.proofs.laws.Rows.{points}
use Rattle.tables.proofs.point.PointEntry.write.Goals as goal

pub bounds-table-i-then-k-table : goal.bounds-table-i-then-k-table
bounds-table-i-then-k-table c = simp length-set (omega arith)

pub bounds-table-i-then-k-table-2 : goal.bounds-table-i-then-k-table-2
bounds-table-i-then-k-table-2 c = simp length-set (omega arith)

pub returns-then-k-table : goal.returns-then-k-table
returns-then-k-table c = put_stored points _ _ _ c.if-k-table.true

pub returns-else-k-table : goal.returns-else-k-table
returns-else-k-table c = sym (put_past points _ _ _ c.if-k-table.false)
