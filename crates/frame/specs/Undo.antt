-- How a call without room is undone (01, "What comes back"). That needs no copy: rows are only appended, and a first child is only set from 0.
use Rattle.std.specs.Prelude.{cond, List, ℕ, leb}
use Rattle.split.specs.declared.row.Row.{Row}
use Rattle.split.specs.Row.{childless}
use Rattle.tables.specs.Layout.{no_row, no_record, row_at, put_row, put_record}
use Rattle.tables.specs.Steps.{over}

-- the row as it was among the first n: a first child not below n was set since
unfoldable pub restored : ℕ → Row → Row
restored n r = cond (leb n r.child) (childless r) r

abbrev pub with_restored : ℕ → List ℕ → ℕ → List ℕ
with_restored n w k = put_row w k (restored n (row_at w k))

abbrev pub without_row : List ℕ → ℕ → List ℕ
without_row w k = put_row w k no_row

abbrev pub without_record : List ℕ → ℕ → List ℕ
without_record r k = put_record r k no_record

-- the first n rows restored
abbrev pub released : List ℕ → ℕ → List ℕ
released w n = over (with_restored n) w 0 n

-- zeros from `from` on, below `to`
abbrev pub emptied_rows : List ℕ → ℕ → ℕ → List ℕ
emptied_rows w from to = over without_row w from to

abbrev pub emptied_records : List ℕ → ℕ → ℕ → List ℕ
emptied_records r from to = over without_record r from to

-- of `end` rows the first n as they were before the others were appended, and zeros in place of the others
abbrev pub undone : List ℕ → ℕ → ℕ → List ℕ
undone w n end = emptied_rows (released w n) n end
