-- What salvage keeps of damaged tables (02, L13).
use Rattle.std.specs.Prelude.{◌≡◌, List, [], ◌∷◌, ◌++◌, ℕ, suc, ◌+◌, ◌≤◌, ◌<◌}
use Rattle.tables.specs.Layout.{most_rows, most_vertices}
use Rattle.split.specs.Split.{Side}
use Rattle.split.specs.Row.{pair, edge_of, child_of}
use Rattle.tables.specs.Mesh.{Mesh}
use Rattle.forest.specs.Element.{Element, el}
use Rattle.sound.specs.Sound.{vertices, rows, record_of, row_of, childless, place, Afresh}
use Rattle.sound.specs.Forest.{grown}

-- "the leading initial vertices and roots intact": the leading i records and t rows that look so, and opening them afresh gives the same (02, L13 and its 22)
pub record Intact (m : Mesh) (i t : ℕ) : Type 0 where
  pub vertices_few : vertices m ≤ most_vertices
  pub rows_few : rows m ≤ most_rows
  pub vertices_in : i ≤ vertices m
  pub rows_in : t ≤ rows m
  pub initial : (v : ℕ) → v < i → (record_of m v).second ≡ 4294967295
  pub vertices_end : i < vertices m → (record_of m i).second ≡ 4294967295 → ⊥
  pub roots : (r : ℕ) → r < t → (row_of m r).parent ≡ r
  pub rows_end : t < rows m → (row_of m t).parent ≡ t → ⊥
  pub afresh : Afresh m i t

-- row r has "two later rows as children that follow the split table, depth, label and parent included", the midpoint being v, "a vertex that records the edge's ends" (02, L13)
pub record FollowsAt (m : Mesh) (r v : ℕ) : Type 0 where
  pub later : r < (row_of m r).child
  pub both : (row_of m r).child + 1 < rows m
  pub there : v < vertices m
  pub ends : pair (record_of m v).first (record_of m v).second ≡ edge_of (row_of m r)
  pub is : (s : Side) → childless (row_of m (place s (row_of m r).child)) ≡ child_of s (row_of m r) r v

-- with some vertex
pub record Follows (m : Mesh) (r : ℕ) : Type 0 where
  pub vertex : ℕ
  pub table : FollowsAt m r vertex

-- row r, whose element is e, is a root or a child of a reached row that follows the split table: all its ancestors do (02, L13: "it and all its ancestors", "named by root and sides")
pub data Reached (m : Mesh) (t : ℕ) : ℕ → Element → Type 0 where
  root : {r : ℕ} {e : Element} → r < t → e ≡ el r [] → Reached m t r e
  child : {p r : ℕ} {d e : Element} (s : Side) → Reached m t p d → Follows m p → r ≡ place s (row_of m p).child → e ≡ grown s d → Reached m t r e

-- row r, with element e, is kept: "when it and all its ancestors have two later rows as children that follow the split table" (02, L13)
pub record Kept (m : Mesh) (t r : ℕ) (e : Element) : Type 0 where
  pub reached : Reached m t r e
  pub follows : Follows m r

-- e is a kept element
pub record KeptIn (m : Mesh) (t : ℕ) (e : Element) : Type 0 where
  pub row : ℕ
  pub kept : Kept m t row e

-- an "old row that is neither a root nor a child of a kept row" (02, L13)
pub record Listed (m : Mesh) (t r : ℕ) : Type 0 where
  pub there : r < rows m
  pub past : t ≤ r
  pub lost : (p : ℕ) (e : Element) (s : Side) → Kept m t p e → r ≡ place s (row_of m p).child → ⊥

-- "it lists, in ascending order, each" such row: those below n (02, L13)
pub data ListedBelow (m : Mesh) (t : ℕ) : ℕ → List ℕ → Type 0 where
  none : {l : List ℕ} → l ≡ [] → ListedBelow m t 0 l
  passed : {n : ℕ} {l : List ℕ} → ListedBelow m t n l → (Listed m t n → ⊥) → ListedBelow m t (suc n) l
  listed : {n : ℕ} {l l' : List ℕ} → ListedBelow m t n l → Listed m t n → l' ≡ l ++ (n ∷ []) → ListedBelow m t (suc n) l'
