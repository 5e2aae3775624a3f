-- Clause 3 of sound tables by a whole call of opening (01, "Sound tables"): the initial vertices and the roots as its two lists, and tables of just the room that they need. `Afresh` leaves out what tests 1 and 2 ask beside a root, since clause 1 has it; that both say the same is `afresh_whole`.
use Rattle.std.specs.Prelude.{◌≡◌, List, [], ◌∷◌, map, ℕ, ◌*◌, ◌≤◌, length, take, Ok}
use Rattle.split.specs.declared.row.Row.{Row}
use Rattle.tables.specs.Layout.{point_width, record_width, row_width, most_rows, most_vertices}
use Rattle.tables.specs.Mesh.{Mesh, flat}
use Rattle.intake.specs.Cells.{quads}
use Rattle.opening.specs.Opening.{judged, opened_mesh}
use Rattle.sound.specs.Sound.{rows, childless, given_points}

-- a row's four vertices, as opening takes them
abbrev pub vertex_cells : Row → List ℕ
vertex_cells r = r.v0 ∷ r.v1 ∷ r.v2 ∷ r.v3 ∷ []

abbrev pub given_elements : Mesh → ℕ → List ℕ
given_elements m t = flat vertex_cells (take t m.rows)

pub record OpensAfresh (m : Mesh) (i t : ℕ) : Type 0 where
  pub opens : judged (given_points m i) (given_elements m t) (point_width * i) (record_width * i) (row_width * t) ≡ Ok tt
  pub colours : (opened_mesh (given_points m i) (quads (given_elements m t))).records ≡ take i m.records
  pub rows : (opened_mesh (given_points m i) (quads (given_elements m t))).rows ≡ map childless (take t m.rows)

-- as clauses 1 and 2 have it: the initial vertices and the roots are there, within capacity
pub record Moderate (m : Mesh) (i t : ℕ) : Type 0 where
  pub few_vertices : i ≤ most_vertices
  pub few_rows : t ≤ most_rows
  pub points_in : i ≤ length m.points
  pub rows_in : t ≤ rows m
