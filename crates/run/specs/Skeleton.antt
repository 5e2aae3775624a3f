-- What closure sees of a mesh: records and rows (01, "Closure": nothing in closure depends on coordinates). The points of later midpoints follow from them.
use Rattle.std.specs.Prelude.{List, [], ◌∷◌, ◌++◌, ℕ, length, get_or, drop}
use Rattle.split.specs.declared.row.Row.{Row}
use Rattle.split.specs.declared.point.Point.{Point}
use Rattle.split.specs.Midpoint.{between}
use Rattle.tables.specs.declared.record.Record.{Record}
use Rattle.tables.specs.Layout.{no_point, no_row}
use Rattle.tables.specs.Mesh.{Mesh}

pub record Skeleton : Type 0 where
  pub records : List Record
  pub rows : List Row

abbrev pub skeleton : Mesh → Skeleton
skeleton m = record { records = m.records; rows = m.rows }

abbrev pub row_in : List Row → ℕ → Row
row_in W r = get_or W r no_row

-- the points of further midpoints, in number order, each by its parents' points (01, "One split")
unfoldable pub extended : List Point → List Record → List Point
extended P [] = P
extended P (r ∷ rs) = extended (P ++ (between (get_or P r.first no_point) (get_or P r.second no_point) ∷ [])) rs

-- the mesh of a skeleton whose first vertices have the points P
abbrev pub meshed : List Point → Skeleton → Mesh
meshed P S = record { points = extended P (drop (length P) S.records); records = S.records; rows = S.rows }
