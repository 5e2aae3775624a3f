-- The flat tables as lists of records, on which all later definitions are written.
use Rattle.std.specs.Prelude.{◌≡◌, List, [], ◌∷◌, ◌++◌, ℕ, zero, suc, ◌-◌, ◌*◌, ◌≤◌, length, drop, replicate, Float}
use Rattle.split.specs.declared.row.Row.{Row}
use Rattle.split.specs.declared.point.Point.{Point}
use Rattle.tables.specs.declared.layout.Counts.{Counts}
use Rattle.tables.specs.declared.record.Record.{Record}
use Rattle.tables.specs.Layout.{point_width, record_width, row_width, point_cells, record_cells, row_cells, point_at, record_at, row_at, no_float}

-- the three lent tables, whole
pub record Lent : Type 0 where
  pub points : List Float
  pub records : List ℕ
  pub rows : List ℕ

-- what they hold
pub record Mesh : Type 0 where
  pub points : List Point
  pub records : List Record
  pub rows : List Row

-- f 0, f 1, .. below n
unfoldable pub up_to {ℓ} : {A : Type ℓ} → (ℕ → A) → ℕ → List A
up_to f zero = []
up_to f (suc n) = up_to f n ++ (f n ∷ [])

-- the numbers of a list of things, one thing after the other
unfoldable pub flat : {A B : Type 0} → (A → List B) → List A → List B
flat cells [] = []
flat cells (x ∷ xs) = cells x ++ flat cells xs

-- a list filled up with z to the length n
abbrev pub padded : {A : Type 0} → ℕ → A → List A → List A
padded n z l = l ++ replicate (n - length l) z

-- the first counts of each table
unfoldable pub mesh_of : Lent → Counts → Mesh
mesh_of t c = record { points = up_to (point_at t.points) c.vertices; records = up_to (record_at t.records) c.vertices; rows = up_to (row_at t.rows) c.rows }

-- the counts are those of the mesh: as many vertices and rows as it has (01, "The tables")
pub record Counting (m : Mesh) (c : Counts) : Type 0 where
  pub vertices : c.vertices ≡ length m.points
  pub rows : c.rows ≡ length m.rows

-- tables of the given lengths that hold the mesh and zeros after it
unfoldable pub laid : Mesh → ℕ → ℕ → ℕ → Lent
laid m points records rows = record {
  points = padded points no_float (flat point_cells m.points);
  records = padded records 0 (flat record_cells m.records);
  rows = padded rows 0 (flat row_cells m.rows);
}

-- the counts are within the tables, and everything past them is zero in every bit (01, "The tables")
pub record Unused (t : Lent) (c : Counts) : Type 0 where
  pub points_fit : point_width * c.vertices ≤ length t.points
  pub records_fit : record_width * c.vertices ≤ length t.records
  pub rows_fit : row_width * c.rows ≤ length t.rows
  pub points : drop (point_width * c.vertices) t.points ≡ replicate (length t.points - point_width * c.vertices) no_float
  pub records : drop (record_width * c.vertices) t.records ≡ replicate (length t.records - record_width * c.vertices) 0
  pub rows : drop (row_width * c.rows) t.rows ≡ replicate (length t.rows - row_width * c.rows) 0
