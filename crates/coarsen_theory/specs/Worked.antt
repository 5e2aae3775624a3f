-- Small meshes coarsened, as one table: the mesh, the list, and what comes of it. The meshes are W3 and W8 of document 01, and W3 with its last leaf split too.
use Rattle.std.specs.Prelude.{List, [], ◌∷◌, ◌++◌, ℕ}
use Rattle.split.specs.declared.row.Row.{Row}
use Rattle.tables.specs.declared.record.Record.{Record}
use Rattle.tables.specs.Layout.{row_from}
use Rattle.tables.specs.Mesh.{Mesh}
use Rattle.coarsen_theory.specs.Dropping.{none, gone_by, passed_over}
use Rattle.coarsen_theory.specs.Thinned.{thinned, vertex_map, row_map}

pub record Outcome : Type 0 where
  pub records : List Record
  pub rows : List Row
  pub vertex_map : List ℕ
  pub row_map : List ℕ
  pub passed : ℕ

pub record Case : Type 0 where
  pub mesh : Mesh
  pub initials : ℕ
  pub list : List ℕ
  pub outcome : Outcome

abbrev of : ℕ → ℕ → Record
of a b = record { first = a; second = b }

-- an initial vertex with its colour
abbrev coloured : ℕ → Record
coloured c = of c 4294967295

-- v0 v1 v2 v3, tag, parent, first child, depth
abbrev row : ℕ → ℕ → ℕ → ℕ → ℕ → ℕ → ℕ → ℕ → Row
row a b c d g p k n = row_from (a ∷ b ∷ c ∷ d ∷ g ∷ p ∷ k ∷ n ∷ []) 0

abbrev mesh : List Record → List Row → Mesh
mesh records rows = record { points = []; records = records; rows = rows }

abbrev outcome : List Record → List Row → List ℕ → List ℕ → ℕ → Outcome
outcome records rows vertices rows' passed = record { records = records; rows = rows; vertex_map = vertices; row_map = rows'; passed = passed }

abbrev case : Mesh → ℕ → List ℕ → Outcome → Case
case m i l o = record { mesh = m; initials = i; list = l; outcome = o }

abbrev four : List Record
four = coloured 0 ∷ coloured 1 ∷ coloured 2 ∷ coloured 3 ∷ []

-- W3: row 0 is split at 4, its first child at 5
abbrev w3 : Mesh
w3 = mesh (four ++ (of 2 3 ∷ of 1 3 ∷ [])) (row 3 0 1 2 3 0 1 0 ∷ row 3 0 1 4 2 0 3 1 ∷ row 0 1 2 4 2 0 0 1 ∷ row 3 0 5 4 1 1 0 2 ∷ row 0 1 5 4 1 1 0 2 ∷ [])

-- W3 with row 2 split at 6
abbrev more : Mesh
more = mesh (four ++ (of 2 3 ∷ of 1 3 ∷ of 0 2 ∷ [])) (row 3 0 1 2 3 0 1 0 ∷ row 3 0 1 4 2 0 3 1 ∷ row 0 1 2 4 2 0 5 1 ∷ row 3 0 5 4 1 1 0 2 ∷ row 0 1 5 4 1 1 0 2 ∷ row 0 1 6 4 1 2 0 2 ∷ row 1 2 6 4 1 2 0 2 ∷ [])

abbrev five : List Record
five = coloured 0 ∷ coloured 1 ∷ coloured 2 ∷ coloured 3 ∷ coloured 4 ∷ []

-- W8: rows 0 and 4 are split at 6, and row 1 at 5
abbrev w8 : Mesh
w8 = mesh (five ++ (of 3 4 ∷ of 0 3 ∷ [])) (row 0 1 2 3 3 0 5 0 ∷ row 4 0 1 3 3 1 3 0 ∷ row 4 0 1 2 3 2 0 0 ∷ row 4 0 1 5 2 1 0 1 ∷ row 0 1 3 5 2 1 7 1 ∷ row 0 1 2 6 2 0 0 1 ∷ row 1 2 3 6 2 0 0 1 ∷ row 0 1 6 5 1 4 0 2 ∷ row 1 3 6 5 1 4 0 2 ∷ [])

abbrev gone : ℕ
gone = 4294967295

unfoldable pub worked : List Case
worked =
    -- the finer vertex, then the coarser: both go
    case w3 4 (5 ∷ 4 ∷ []) (outcome four (row 3 0 1 2 3 0 0 0 ∷ []) (0 ∷ 1 ∷ 2 ∷ 3 ∷ gone ∷ gone ∷ []) (0 ∷ gone ∷ gone ∷ gone ∷ gone ∷ []) 0) ∷
    -- the coarser first: it is passed over, its row 1 being split
    case w3 4 (4 ∷ 5 ∷ []) (outcome (four ++ (of 2 3 ∷ [])) (row 3 0 1 2 3 0 1 0 ∷ row 3 0 1 4 2 0 0 1 ∷ row 0 1 2 4 2 0 0 1 ∷ []) (0 ∷ 1 ∷ 2 ∷ 3 ∷ 4 ∷ gone ∷ []) (0 ∷ 1 ∷ 2 ∷ gone ∷ gone ∷ []) 1) ∷
    -- an initial vertex and a repeated one are passed over; later rows and vertices move down
    case more 4 (2 ∷ 5 ∷ 5 ∷ 4 ∷ []) (outcome (four ++ (of 2 3 ∷ of 0 2 ∷ [])) (row 3 0 1 2 3 0 1 0 ∷ row 3 0 1 4 2 0 0 1 ∷ row 0 1 2 4 2 0 3 1 ∷ row 0 1 5 4 1 2 0 2 ∷ row 1 2 5 4 1 2 0 2 ∷ []) (0 ∷ 1 ∷ 2 ∷ 3 ∷ 4 ∷ gone ∷ 5 ∷ []) (0 ∷ 1 ∷ 2 ∷ gone ∷ gone ∷ 3 ∷ 4 ∷ []) 3) ∷
    -- two rows are split at 6, and both become leaves; 5 is passed over before that
    case w8 5 (5 ∷ 6 ∷ []) (outcome (five ++ (of 3 4 ∷ [])) (row 0 1 2 3 3 0 0 0 ∷ row 4 0 1 3 3 1 3 0 ∷ row 4 0 1 2 3 2 0 0 ∷ row 4 0 1 5 2 1 0 1 ∷ row 0 1 3 5 2 1 0 1 ∷ []) (0 ∷ 1 ∷ 2 ∷ 3 ∷ 4 ∷ 5 ∷ gone ∷ []) (0 ∷ 1 ∷ 2 ∷ 3 ∷ 4 ∷ gone ∷ gone ∷ gone ∷ gone ∷ []) 1) ∷
    -- nothing listed: nothing changes
    case w3 4 [] (outcome w3.records w3.rows (0 ∷ 1 ∷ 2 ∷ 3 ∷ 4 ∷ 5 ∷ []) (0 ∷ 1 ∷ 2 ∷ 3 ∷ 4 ∷ []) 0) ∷ []

-- what the definitions give
unfoldable pub computed : Case → Outcome
computed c = record {
  records = (thinned c.mesh c.initials (gone_by c.mesh c.initials c.list)).records;
  rows = (thinned c.mesh c.initials (gone_by c.mesh c.initials c.list)).rows;
  vertex_map = vertex_map c.mesh (gone_by c.mesh c.initials c.list);
  row_map = row_map c.mesh (gone_by c.mesh c.initials c.list);
  passed = passed_over c.mesh c.initials none c.list;
}
