-- What an accepted opening leaves, in the words of demand 2: the colours of Algorithm 2 and the order and tag of Definition 2 (000; 01, "Opening").
use Rattle.std.specs.Prelude.{◌≡◌, List, ℕ, ◌/◌, ◌≤◌, ◌<◌, length, Float}
use Rattle.split.specs.declared.row.Row.{Row}
use Rattle.split.specs.Split.{three, number, Holds}
use Rattle.split.specs.Row.{corners_of, root}
use Rattle.tables.specs.declared.layout.Counts.{Counts}
use Rattle.tables.specs.Layout.{point_at, record_at, row_at, point_width}
use Rattle.tables.specs.Mesh.{Lent, Unused}
use Rattle.forest.specs.Start.{Started}
use Rattle.intake.specs.Cells.{Cells, quads}
use Rattle.opening.specs.Order.{given}
use Rattle.opening.specs.Opening.{initial}
use Rattle.opening.specs.Greedy.{Greedy}

-- N is the largest colour of the first n vertices
pub record Largest (n : ℕ) (colour : ℕ → ℕ) (N : ℕ) : Type 0 where
  pub most : (v : ℕ) → v < n → colour v ≤ N
  pub vertex : ℕ
  pub there : vertex < n
  pub reached : colour vertex ≡ N

-- r is element k in the order of Definition 2: its vertices sorted by colour, the last in front exactly if its colour is N; tag 3, a root, a leaf of depth 0
pub record AsRoot (E : Cells) (N : ℕ) (colour : ℕ → ℕ) (k : ℕ) (r : Row) : Type 0 where
  pub of : (v : ℕ) → Holds 3 (corners_of r) v → Holds 3 (given E k) v
  pub has : (v : ℕ) → Holds 3 (given E k) v → Holds 3 (corners_of r) v
  pub order : Started three N colour (corners_of r)
  pub beside : r ≡ root (number three) k (corners_of r)

-- the tables t with the counts c are what opening the coordinates F and the elements E is to give (demand 2)
pub record OpenedAsDemanded (F : List Float) (E : List ℕ) (c : Counts) (t : Lent) : Type 0 where
  pub vertices : c.vertices ≡ length F / point_width
  pub rows : c.rows ≡ length E / 4
  pub point : (v : ℕ) → v < c.vertices → point_at t.points v ≡ point_at F v
  pub colour : ℕ → ℕ
  pub greedy : Greedy (quads E) c.vertices colour
  pub record_is : (v : ℕ) → v < c.vertices → record_at t.records v ≡ initial (colour v)
  pub largest : ℕ
  pub largest_is : Largest c.vertices colour largest
  pub row : (k : ℕ) → k < c.rows → AsRoot (quads E) largest colour k (row_at t.rows k)
  pub unused : Unused t c
