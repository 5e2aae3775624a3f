use mathlib.Core.Path.{sym}
use native.Mathlib.Omega.{arith}
use lib.ListN.{length-set}
use Rattle.tables.proofs.laws.Table.{put_stored, put_past}
use Rattle.tables.proofs.laws.Rows.{records}
use Rattle.tables.proofs.record.RecordEntry.write.Goals as goal

pub bounds-table-i-then-k-table : goal.bounds-table-i-then-k-table
bounds-table-i-then-k-table c = simp length-set (omega arith)

pub returns-then-k-table : goal.returns-then-k-table
returns-then-k-table c = put_stored records _ _ _ c.if-k-table.true

pub returns-else-k-table : goal.returns-else-k-table
returns-else-k-table c = sym (put_past records _ _ _ c.if-k-table.false)
