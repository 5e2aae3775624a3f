use mathlib.Core.Path.{sym}
use native.Mathlib.Omega.{arith}
use lib.ListN.{length-set}
use Rattle.tables.proofs.laws.Table.{put_stored, put_past}
use Rattle.tables.proofs.laws.Rows.{rows}
use Rattle.tables.proofs.row.RowEntry.write.Goals as goal

pub bounds-table-i-then-k-table : goal.bounds-table-i-then-k-table
bounds-table-i-then-k-table c = simp length-set (omega arith)

pub bounds-table-i-then-k-table-2 : goal.bounds-table-i-then-k-table-2
bounds-table-i-then-k-table-2 c = simp length-set (omega arith)

pub bounds-table-i-then-k-table-3 : goal.bounds-table-i-then-k-table-3
bounds-table-i-then-k-table-3 c = simp length-set (omega arith)

pub bounds-table-i-then-k-table-4 : goal.bounds-table-i-then-k-table-4
bounds-table-i-then-k-table-4 c = simp length-set (omega arith)

pub bounds-table-i-then-k-table-5 : goal.bounds-table-i-then-k-table-5
bounds-table-i-then-k-table-5 c = simp length-set (omega arith)

pub bounds-table-i-then-k-table-6 : goal.bounds-table-i-then-k-table-6
bounds-table-i-then-k-table-6 c = simp length-set (omega arith)

pub bounds-table-i-then-k-table-7 : goal.bounds-table-i-then-k-table-7
bounds-table-i-then-k-table-7 c = simp length-set (omega arith)

pub returns-then-k-table : goal.returns-then-k-table
returns-then-k-table c = put_stored rows _ _ _ c.if-k-table.true

pub returns-else-k-table : goal.returns-else-k-table
returns-else-k-table c = sym (put_past rows _ _ _ c.if-k-table.false)
