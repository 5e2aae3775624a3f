-- The three lent tables (01, "The tables"): how wide each is, what stands at a number, the room that they give, and the counts of what they hold.
use Rattle.std.specs.Prelude.{◌&&◌, cond, List, [], ◌∷◌, ℕ, ◌+◌, ◌*◌, ◌/◌, min, ltb, leb, length, get_or, take, drop, Float}
use Rattle.std.proofs.lemmas.List.Edits.{sets}
use Rattle.std.specs.Float.{nan, binary64}
use Rattle.std.specs.Float.Ieee.{of_bits}
use Rattle.split.specs.declared.row.Row.{Row}
use Rattle.split.specs.declared.point.Point.{Point}
use Rattle.tables.specs.declared.layout.Counts.{Counts}
use Rattle.tables.specs.declared.layout.Size.{Size}
use Rattle.tables.specs.declared.record.Record.{Record}

-- three f64 a vertex, two u32 a vertex, eight u32 a row
abbrev pub point_width : ℕ
point_width = 3

abbrev pub record_width : ℕ
record_width = 2

abbrev pub row_width : ℕ
row_width = 8

-- at most so many vertices and rows (01, "The tables")
abbrev pub most_vertices : ℕ
most_vertices = 20000

abbrev pub most_rows : ℕ
most_rows = 100000

-- a table's numbers, in their order
abbrev pub point_cells : Point → List Float
point_cells p = p.x ∷ p.y ∷ p.z ∷ []

abbrev pub record_cells : Record → List ℕ
record_cells r = r.first ∷ r.second ∷ []

abbrev pub row_cells : Row → List ℕ
row_cells r = r.v0 ∷ r.v1 ∷ r.v2 ∷ r.v3 ∷ r.tag ∷ r.parent ∷ r.child ∷ r.depth ∷ []

-- what the numbers from place i on spell
abbrev pub point_from : List Float → ℕ → Point
point_from l i = record { x = get_or l i nan; y = get_or l (i + 1) nan; z = get_or l (i + 2) nan }

abbrev pub record_from : List ℕ → ℕ → Record
record_from l i = record { first = get_or l i 0; second = get_or l (i + 1) 0 }

abbrev pub row_from : List ℕ → ℕ → Row
row_from l i = record {
  v0 = get_or l i 0;
  v1 = get_or l (i + 1) 0;
  v2 = get_or l (i + 2) 0;
  v3 = get_or l (i + 3) 0;
  tag = get_or l (i + 4) 0;
  parent = get_or l (i + 5) 0;
  child = get_or l (i + 6) 0;
  depth = get_or l (i + 7) 0;
}

-- what every unused row holds: zero in every bit
abbrev pub no_float : Float
no_float = of_bits binary64 0

abbrev pub no_point : Point
no_point = record { x = no_float; y = no_float; z = no_float }

abbrev pub no_record : Record
no_record = record { first = 0; second = 0 }

abbrev pub no_row : Row
no_row = record { v0 = 0; v1 = 0; v2 = 0; v3 = 0; tag = 0; parent = 0; child = 0; depth = 0 }

-- the k-th of a table, and zeros past its end
unfoldable pub point_at : List Float → ℕ → Point
point_at l k = cond (ltb k (length l / point_width)) (point_from l (point_width * k)) no_point

unfoldable pub record_at : List ℕ → ℕ → Record
record_at l k = cond (ltb k (length l / record_width)) (record_from l (record_width * k)) no_record

unfoldable pub row_at : List ℕ → ℕ → Row
row_at l k = cond (ltb k (length l / row_width)) (row_from l (row_width * k)) no_row

-- the table with its k-th replaced, and unchanged where it has none
unfoldable pub put_point : List Float → ℕ → Point → List Float
put_point l k p = cond (ltb k (length l / point_width)) (sets l (point_width * k) (point_cells p)) l

unfoldable pub put_record : List ℕ → ℕ → Record → List ℕ
put_record l k r = cond (ltb k (length l / record_width)) (sets l (record_width * k) (record_cells r)) l

unfoldable pub put_row : List ℕ → ℕ → Row → List ℕ
put_row l k r = cond (ltb k (length l / row_width)) (sets l (row_width * k) (row_cells r)) l

-- the counts of an opened mesh, and of the same mesh with so many vertices and rows (01, "The tables", "What comes back")
abbrev pub started : ℕ → ℕ → Counts
started vertices rows = record { vertices = vertices; rows = rows }

abbrev pub resized : Counts → ℕ → ℕ → Counts
resized c vertices rows = record { vertices = vertices; rows = rows }

-- a refusal's counts are zero (01, "What comes back")
abbrev pub no_counts : Counts
no_counts = started 0 0

-- room for so many vertices and rows
abbrev pub sized : ℕ → ℕ → Size
sized vertices rows = record { vertices = vertices; rows = rows }

-- room is at most 20,000 vertices, the smaller of what the coordinate and vertex tables hold, and 100,000 rows (01, "The tables")
unfoldable pub room_of : ℕ → ℕ → ℕ → Size
room_of points records rows = sized (min most_vertices (min (points / point_width) (records / record_width))) (min most_rows (rows / row_width))

-- an element shown: four numbers from eight times the row, or the empty part (01, "What comes back")
unfoldable pub shown : List ℕ → ℕ → ℕ → List ℕ
shown l count row = cond (ltb row count && leb (row_width * count) (length l)) (take 4 (drop (row_width * row) l)) []
