-- What `first` and `second` answer is the table of 01, "One split", for every row and every midpoint.
use Prim.Native.Nat.{ℕ}
use Rattle.split.specs.declared.row.Row.{Row}
use Rattle.split.specs.SplitTable.{BySplitTable}
use Rattle.split.proofs.laws.SplitTable.{rows_by_table}
use Rattle.split.proofs.row.first.Reads as first
use Rattle.split.proofs.row.second.Reads as second

pub answers_by_table : (κs κs' : _) (r : Row) (own m : ℕ) (a b : Row) (s s' : _) → first.Learnt κs (r, (own, (m, tt))) a s → second.Learnt κs' (r, (own, (m, tt))) b s' → BySplitTable r m a b
answers_by_table κs κs' r own m a b s s' p q = rw (p, q) (rows_by_table r own m)
