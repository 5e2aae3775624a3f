-- A mesh without the vertices that are gone: what is kept moves down in its order, and every number is renamed (02, L5).
use Rattle.std.specs.Prelude.{◌≡◌, Bool, false, not, ◌&&◌, cond, List, [], ◌∷◌, ◌++◌, ℕ, zero, suc, ◌<◌, ltb}
use Rattle.split.specs.declared.row.Row.{Row}
use Rattle.split.specs.Split.{Corners, corners}
use Rattle.split.specs.Row.{corners_of, remade}
use Rattle.tables.specs.declared.record.Record.{Record}
use Rattle.tables.specs.Mesh.{Mesh, up_to}
use Rattle.intake.specs.Search.{count}
use Rattle.sound.specs.Sound.{vertices, rows, point_of, record_of, row_of}
use Rattle.sound.specs.Follows.{split_vertex}
use Rattle.forest.specs.Element.{Element}
use Rattle.sound.specs.Forest.{element_of}
use Rattle.coarsen_theory.specs.Dropping.{leaf_now}

-- vertex v is not gone
unfoldable pub stays : (ℕ → Bool) → ℕ → Bool
stays gone v = not (gone v)

-- row r is kept: none of its vertices is gone
unfoldable pub keeps : Mesh → (ℕ → Bool) → ℕ → Bool
keeps m gone r = stays gone (row_of m r).v0 && (stays gone (row_of m r).v1 && (stays gone (row_of m r).v2 && stays gone (row_of m r).v3))

-- the new number of a vertex that stays, and of a row that is kept: how many stay before it
abbrev pub new_vertex : (ℕ → Bool) → ℕ → ℕ
new_vertex gone v = count (stays gone) v

abbrev pub new_row : Mesh → (ℕ → Bool) → ℕ → ℕ
new_row m gone r = count (keeps m gone) r

-- f 0, f 1, .. below n, of them those where the test holds
unfoldable pub sift : {A : Type 0} → (ℕ → Bool) → (ℕ → A) → ℕ → List A
sift test f zero = []
sift test f (suc n) = sift test f n ++ cond (test n) (f n ∷ []) []

abbrev pub mapped : (ℕ → ℕ) → Corners ℕ → Corners ℕ
mapped f c = corners (f c.v0) (f c.v1) (f c.v2) (f c.v3)

-- a row with its vertices renamed, and with another parent and first child
abbrev pub renamed : (ℕ → ℕ) → ℕ → ℕ → Row → Row
renamed f parent child r = remade r (mapped f (corners_of r)) parent child

-- the first child of row r in the new numbers, 0 for a row that is a leaf now
unfoldable pub new_child : Mesh → (ℕ → Bool) → ℕ → ℕ
new_child m gone r = cond (leaf_now m gone r) 0 (new_row m gone (row_of m r).child)

-- row r in the new numbers
unfoldable pub thin_row : Mesh → (ℕ → Bool) → ℕ → Row
thin_row m gone r = renamed (new_vertex gone) (new_row m gone (row_of m r).parent) (new_child m gone r) (row_of m r)

-- a record in the new numbers
abbrev pub moved : (ℕ → Bool) → Record → Record
moved gone r = record { first = new_vertex gone r.first; second = new_vertex gone r.second }

-- the record of vertex v in the new numbers; an initial vertex has no parents to rename
unfoldable pub thin_record : Mesh → ℕ → (ℕ → Bool) → ℕ → Record
thin_record m i gone v = cond (ltb v i) (record_of m v) (moved gone (record_of m v))

-- the mesh without what is gone
unfoldable pub thinned : Mesh → ℕ → (ℕ → Bool) → Mesh
thinned m i gone = record {
  points = sift (stays gone) (point_of m) (vertices m);
  records = sift (stays gone) (thin_record m i gone) (vertices m);
  rows = sift (keeps m gone) (thin_row m gone) (rows m);
}

-- old number to new number, 4294967295 for what is dropped (02, L5)
unfoldable pub map_of : (ℕ → Bool) → ℕ → ℕ
map_of test k = cond (test k) (count test k) 4294967295

-- the two maps, as far as they are written
abbrev pub vertex_map : Mesh → (ℕ → Bool) → List ℕ
vertex_map m gone = up_to (map_of (stays gone)) (vertices m)

abbrev pub row_map : Mesh → (ℕ → Bool) → List ℕ
row_map m gone = up_to (map_of (keeps m gone)) (rows m)

-- e is the element of a row split at a vertex that stays: what is split after coarsening, and the base of later demands (02, L5)
pub record StillSplit (m : Mesh) (t : ℕ) (gone : ℕ → Bool) (e : Element) : Type 0 where
  pub row : ℕ
  pub there : row < rows m
  pub split : (row_of m row).child ≡ 0 → ⊥
  pub stays : gone (split_vertex m row) ≡ false
  pub is : element_of m t row ≡ e
