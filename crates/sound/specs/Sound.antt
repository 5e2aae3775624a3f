-- Sound tables (01, "Sound tables"), clause by clause in the document's words: clauses 2 to 7 on the mesh, then 1 and 8 on the tables. It does not say how tables came about: children and midpoints may be numbered as no call would number them.
use Rattle.std.specs.Prelude.{◌≡◌, List, map, ℕ, ◌+◌, ◌/◌, ◌%◌, ◌≤◌, ◌<◌, length, get_or, take, Float, Ok}
use Rattle.split.specs.declared.row.Row.{Row}
use Rattle.split.specs.declared.row.Ends.{Ends}
use Rattle.split.specs.declared.point.Point.{Point}
use Rattle.split.specs.Split.{Side, left, right, at, Holds}
use Rattle.split.specs.Row.{corners_of, edge_of, child_of, pair}
pub use Rattle.split.specs.Row.{childless}
use Rattle.split.specs.Midpoint.{between}
use Rattle.tables.specs.declared.layout.Counts.{Counts}
use Rattle.tables.specs.declared.record.Record.{Record}
use Rattle.tables.specs.Layout.{no_point, no_record, no_row, point_width, record_width, row_width, point_cells, room_of}
use Rattle.tables.specs.Mesh.{Lent, Mesh, mesh_of, flat, Unused}
use Rattle.intake.specs.Cells.{Cells}
use Rattle.intake.specs.Verdict.{plain}
use Rattle.opening.specs.Opening.{late, opened_mesh}

-- ---- what a mesh has at a number

abbrev pub vertices : Mesh → ℕ
vertices m = length m.records

abbrev pub rows : Mesh → ℕ
rows m = length m.rows

abbrev pub point_of : Mesh → ℕ → Point
point_of m v = get_or m.points v no_point

abbrev pub record_of : Mesh → ℕ → Record
record_of m v = get_or m.records v no_record

abbrev pub row_of : Mesh → ℕ → Row
row_of m r = get_or m.rows r no_row

-- rows as opening takes elements: each by its four vertices
abbrev pub elements_of : List Row → ℕ → Cells
elements_of l n = record { count = n; vertex = λ k q. at (corners_of (get_or l k no_row)) q }

-- ---- clause 2: initial vertices come first, then midpoints; roots come first, then children

pub record Parted (m : Mesh) (i t : ℕ) : Type 0 where
  pub vertices_in : i ≤ vertices m
  pub rows_in : t ≤ rows m
  pub initial : (v : ℕ) → v < i → (record_of m v).second ≡ 4294967295
  pub midpoints : (v : ℕ) → i ≤ v → v < vertices m → (record_of m v).second ≡ 4294967295 → ⊥
  pub roots : (r : ℕ) → r < t → (row_of m r).parent ≡ r
  pub children : (r : ℕ) → t ≤ r → r < rows m → (row_of m r).parent ≡ r → ⊥

-- ---- clause 3: opening the initial vertices and roots afresh gives the same colours and, but for the first child, the same rows. There is a root; all else that tests 1 and 2 ask follows from clause 1 (`afresh-judged`)

abbrev pub given_points : Mesh → ℕ → List Float
given_points m i = flat point_cells (take i m.points)

abbrev pub root_cells : Mesh → ℕ → Cells
root_cells m t = elements_of (take t m.rows) t

pub record Afresh (m : Mesh) (i t : ℕ) : Type 0 where
  pub some : 1 ≤ t
  pub opens : plain (given_points m i) (root_cells m t) (late (root_cells m t) (length (given_points m i) / point_width)) ≡ Ok tt
  pub colours : (opened_mesh (given_points m i) (root_cells m t)).records ≡ take i m.records
  pub rows : (opened_mesh (given_points m i) (root_cells m t)).rows ≡ map childless (take t m.rows)

-- ---- clauses 4 and 5: children and their parents

-- v is a midpoint, and its parents are the ends of the edge
pub record Records (m : Mesh) (i v : ℕ) (e : Ends) : Type 0 where
  pub midpoint : i ≤ v
  pub there : v < vertices m
  pub ends : pair (record_of m v).first (record_of m v).second ≡ e

-- the first child's row, or the row after it
abbrev pub place : Side → ℕ → ℕ
place left c = c
place right c = c + 1

-- row r is one child of the earlier row that it names as its parent, by the split table, depth and parent included, with no depth above 60; that it is no other row's follows (`one_parent`)
pub record Child (m : Mesh) (i r : ℕ) : Type 0 where
  pub older : (row_of m r).parent < r
  pub split : (row_of m (row_of m r).parent).child ≡ 0 → ⊥
  pub side : Side
  pub here : r ≡ place side (row_of m (row_of m r).parent).child
  pub vertex : ℕ
  pub middle : Records m i vertex (edge_of (row_of m (row_of m r).parent))
  pub is : childless (row_of m r) ≡ child_of side (row_of m (row_of m r).parent) (row_of m r).parent vertex
  pub shallow : (row_of m r).depth ≤ 60

-- the split row q has two children: its first child and the row after it are later rows that have it as parent
pub record Parent (m : Mesh) (t q : ℕ) : Type 0 where
  pub later : q < (row_of m q).child
  pub past : t ≤ (row_of m q).child
  pub both : (row_of m q).child + 1 < rows m
  pub first : (row_of m (row_of m q).child).parent ≡ q
  pub second : (row_of m ((row_of m q).child + 1)).parent ≡ q

-- ---- clause 6: midpoints

-- the parents of v are smaller than it and in order, no other vertex has them, they are the edge of a split row, and the coordinates of v follow the rule
pub record Midpoint (m : Mesh) (i v : ℕ) : Type 0 where
  pub rising : (record_of m v).first < (record_of m v).second
  pub older : (record_of m v).second < v
  pub only : (u : ℕ) → i ≤ u → u < vertices m → record_of m u ≡ record_of m v → u ≡ v
  pub row : ℕ
  pub there : row < rows m
  pub split : (row_of m row).child ≡ 0 → ⊥
  pub edge : pair (record_of m v).first (record_of m v).second ≡ edge_of (row_of m row)
  pub point : point_of m v ≡ between (point_of m (record_of m v).first) (point_of m (record_of m v).second)

-- ---- the clauses together

-- clauses 2 to 6: what each split of one leaf keeps
pub record Grown (m : Mesh) (i t : ℕ) : Type 0 where
  pub parted : Parted m i t
  pub afresh : Afresh m i t
  pub child : (r : ℕ) → t ≤ r → r < rows m → Child m i r
  pub parent : (q : ℕ) → q < rows m → ((row_of m q).child ≡ 0 → ⊥) → Parent m t q
  pub midpoint : (v : ℕ) → i ≤ v → v < vertices m → Midpoint m i v

-- clause 7: no leaf holds both parents of a midpoint
pub record Conforming (m : Mesh) (i : ℕ) : Type 0 where
  pub leaf : (q v : ℕ) → q < rows m → (row_of m q).child ≡ 0 → i ≤ v → v < vertices m → Holds 3 (corners_of (row_of m q)) (record_of m v).first
      → Holds 3 (corners_of (row_of m q)) (record_of m v).second → ⊥

-- clause 1: table lengths are multiples of 3, 2 and 8; counts are within room, with at least one row
pub record Fitting (t : Lent) (c : Counts) : Type 0 where
  pub points : length t.points % point_width ≡ 0
  pub records : length t.records % record_width ≡ 0
  pub rows : length t.rows % row_width ≡ 0
  pub vertices_fit : c.vertices ≤ (room_of (length t.points) (length t.records) (length t.rows)).vertices
  pub rows_fit : c.rows ≤ (room_of (length t.points) (length t.records) (length t.rows)).rows
  pub some : 1 ≤ c.rows

-- tables and counts are sound; clause 8, unused rows are zero, is `unused`
pub record Sound (t : Lent) (c : Counts) : Type 0 where
  pub fitting : Fitting t c
  pub initials : ℕ
  pub roots : ℕ
  pub grown : Grown (mesh_of t c) initials roots
  pub conforming : Conforming (mesh_of t c) initials
  pub unused : Unused t c
