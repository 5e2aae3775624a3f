-- The three tables are tables of `Table`, and its laws at each.
use mathlib.Core.Path.{◌≡◌, refl}
use mathlib.Core.List.{List}
use Prim.Native.Nat.{ℕ, ◌/◌, ◌<◌}
use native.Mathlib.Numerals.{towards_suc}
use lib.Dec.{lit<}
use lib.ListN.{length}
use lib.Ieee.{Float, nan}
use Rattle.split.specs.declared.row.Row.{Row}
use Rattle.split.specs.declared.point.Point.{Point}
use Rattle.tables.specs.declared.record.Record.{Record}
use Rattle.tables.specs.Layout.{row_width, row_cells, row_from, no_row, row_at, put_row}
use Rattle.tables.specs.Layout.{record_width, record_cells, record_from, no_record, record_at, put_record}
use Rattle.tables.specs.Layout.{point_width, point_cells, point_from, no_point, point_at, put_point}
use Rattle.tables.proofs.laws.Parts.{run_part}
use Rattle.tables.proofs.laws.Table.{Table, length_put, at_put}

pub rows : Table row_width row_cells row_from no_row row_at put_row
unfolding row_at put_row
rows = record {
  some = lit< tt;
  length_cells = λ r. refl;
  from_cells = λ r. refl;
  cells_from = λ l i h. simp towards_suc (run_part 0 l i row_width h);
  at_is = λ l k. refl;
  put_is = λ l k r. refl;
}

pub records : Table record_width record_cells record_from no_record record_at put_record
unfolding record_at put_record
records = record {
  some = lit< tt;
  length_cells = λ r. refl;
  from_cells = λ r. refl;
  cells_from = λ l i h. simp towards_suc (run_part 0 l i record_width h);
  at_is = λ l k. refl;
  put_is = λ l k r. refl;
}

pub points : Table point_width point_cells point_from no_point point_at put_point
unfolding point_at put_point
points = record {
  some = lit< tt;
  length_cells = λ p. refl;
  from_cells = λ p. refl;
  cells_from = λ l i h. simp towards_suc (run_part nan l i point_width h);
  at_is = λ l k. refl;
  put_is = λ l k p. refl;
}

-- a row put and then read
pub length_put_row : (l : List ℕ) (k : ℕ) (r : Row) → length (put_row l k r) ≡ length l
length_put_row = length_put rows

pub row_put : (l : List ℕ) (k : ℕ) (r : Row) → k < length l / row_width → row_at (put_row l k r) k ≡ r
row_put = at_put rows

-- a record put and then read
pub length_put_record : (l : List ℕ) (k : ℕ) (r : Record) → length (put_record l k r) ≡ length l
length_put_record = length_put records

pub record_put : (l : List ℕ) (k : ℕ) (r : Record) → k < length l / record_width → record_at (put_record l k r) k ≡ r
record_put = at_put records

-- a point put and then read
pub length_put_point : (l : List Float) (k : ℕ) (p : Point) → length (put_point l k p) ≡ length l
length_put_point = length_put points

pub point_put : (l : List Float) (k : ℕ) (p : Point) → k < length l / point_width → point_at (put_point l k p) k ≡ p
point_put = at_put points
