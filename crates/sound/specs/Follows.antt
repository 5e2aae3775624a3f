-- What follows from the clauses of sound tables and is said in the document's words: each later row is one child of exactly one earlier row, and no coordinate is over the limit. And where a split row's midpoint is read.
use Rattle.std.specs.Prelude.{◌≡◌, ℕ, ◌<◌}
use Rattle.split.specs.declared.point.Point.{Point}
use Rattle.split.specs.Split.{far, Side}
use Rattle.split.specs.Row.{corners_of, tag_of}
use Rattle.split.specs.Magnitude.{Bounded}
use Rattle.tables.specs.Mesh.{Mesh}
use Rattle.sound.specs.Sound.{rows, row_of, place}

-- row r is one child of exactly one earlier row: that split row and that side lead to r, no other pair of a split row and a side does, and r names the row as its parent (01, "Sound tables")
pub record OneParent (m : Mesh) (r : ℕ) : Type 0 where
  pub row : ℕ
  pub side : Side
  pub older : row < r
  pub split : (row_of m row).child ≡ 0 → ⊥
  pub here : r ≡ place side (row_of m row).child
  pub named : (row_of m r).parent ≡ row
  pub only : (q : ℕ) (s : Side) → q < rows m → ((row_of m q).child ≡ 0 → ⊥) → r ≡ place s (row_of m q).child → (q ≡ row) × (s ≡ side)

-- the three coordinates are finite, and of magnitude at most 2 ^ 1000 (01, "What comes back", number 3)
pub record BoundedPoint (p : Point) : Type 0 where
  pub x : Bounded p.x
  pub y : Bounded p.y
  pub z : Bounded p.z

-- the vertex that a split row is split at; the split table puts it into the first child at the row's tag (01, "One split")
unfoldable pub split_vertex : Mesh → ℕ → ℕ
split_vertex m r = far (tag_of (row_of m r)) (corners_of (row_of m (row_of m r).child))
