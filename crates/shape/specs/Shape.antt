-- Clauses 1, 2, 4, 5 and 8 of sound tables, and of clause 6 that each midpoint was made by a split (01, "Sound tables"): what one pass over the tables decides.
use Rattle.std.specs.List.{All, HoldsAt}
use Rattle.std.specs.Prelude.{◌≡◌, Bool, true, false, Option, Some, None, List, [], ℕ, ◌*◌, ◌≤◌, ◌<◌, length, get_or, Float}
use Rattle.split.specs.declared.row.Row.{Row}
use Rattle.split.specs.Split.{Side, far}
use Rattle.split.specs.Row.{child_of, corners_of, tag_of}
use Rattle.tables.specs.declared.layout.Counts.{Counts}
use Rattle.tables.specs.Mesh.{Mesh, Unused}
use Rattle.tables.specs.Layout.{record_at, row_at, row_width, most_rows, most_vertices}
use Rattle.sound.specs.Sound.{rows, row_of, childless, place, Child, Parent, Fitting}
use Rattle.sound.specs.Check.{Decides, lent, bare}
use Rattle.shape.specs.declared.answer.Runs.{Runs}

-- the rows are within their table, and the counts within the largest room
pub record Inside (r w : List ℕ) (c : Counts) : Type 0 where
  pub rows_fit : row_width * c.rows ≤ length w
  pub few_vertices : c.vertices ≤ most_vertices
  pub few_rows : c.rows ≤ most_rows

-- i is where the leading run of places with P ends, among the first n
pub record Leading (P : ℕ → Type 0) (n i : ℕ) : Type 0 where
  pub within : i ≤ n
  pub before : (k : ℕ) → k < i → P k
  pub ends : i < n → P i → ⊥

-- i is where the leading run of initial vertices ends
abbrev pub Initials : List ℕ → ℕ → ℕ → Type 0
Initials r n i = Leading (λ v. (record_at r v).second ≡ 4294967295) n i

-- t is where the leading run of roots ends
abbrev pub Roots : List ℕ → ℕ → ℕ → Type 0
Roots w n t = Leading (λ k. (row_at w k).parent ≡ k) n t

-- clause 4 and clause 5, of all rows; what clause 5 asks of one row, a leaf has
abbrev pub Children : Mesh → ℕ → ℕ → Type 0
Children m i t = (r : ℕ) → t ≤ r → r < rows m → Child m i r

abbrev pub IsParent : Mesh → ℕ → ℕ → Type 0
IsParent m t q = ((row_of m q).child ≡ 0 → ⊥) → Parent m t q

abbrev pub Parents : Mesh → ℕ → Type 0
Parents m t = (q : ℕ) → q < rows m → IsParent m t q

-- the row `held`, of number r, is the first or the second child of `parent`, of number p, at the midpoint v
pub record Sided (held : Row) (r : ℕ) (parent : Row) (p v : ℕ) : Type 0 where
  pub side : Side
  pub here : r ≡ place side parent.child
  pub is : childless held ≡ child_of side parent p v

-- the vertex at the parent's tag of row r
abbrev pub middle_at : List ℕ → ℕ → ℕ
middle_at w r = far (tag_of (row_at w (row_at w r).parent)) (corners_of (row_at w r))

-- flag v is set exactly if a row from t on was made at v
pub record Marked (w : List ℕ) (t n : ℕ) (flags : List ℕ) : Type 0 where
  pub set : (r : ℕ) → t ≤ r → r < n → middle_at w r < length flags → get_or flags (middle_at w r) 0 ≡ 0 → ⊥
  pub only : (v : ℕ) → (get_or flags v 0 ≡ 0 → ⊥) → (r : ℕ) × (t ≤ r) × (r < n) × (middle_at w r ≡ v)

abbrev pub AllUsed : List ℕ → Counts → ℕ → ℕ → Type 0
AllUsed w c i t = (v : ℕ) → i ≤ v → v < c.vertices → (k : ℕ) × (t ≤ k) × (k < c.rows) × (middle_at w k ≡ v)

-- clauses 1 and 8, and where the leading runs end
pub record Begun (p : List Float) (r w : List ℕ) (c : Counts) (i t : ℕ) : Type 0 where
  pub fitting : Fitting (lent p r w) c
  pub unused : Unused (lent p r w) c
  pub initials : Initials r c.vertices i
  pub roots : Roots w c.rows t

-- the answer b: the rows from t on are children by clause 4, and then the flags are those of their midpoints
pub record Followed (r w : List ℕ) (c : Counts) (i t : ℕ) (b : Bool) (flags : List ℕ) : Type 0 where
  pub decides : Decides (Children (bare r w c) i t) b
  pub marked : b ≡ true → Marked w t c.rows flags

-- clause 4, and that each midpoint was made with a row
pub record Bred (r w : List ℕ) (c : Counts) (i t : ℕ) : Type 0 where
  pub children : Children (bare r w c) i t
  pub used : AllUsed w c i t

-- clauses 2, 4 and 5, and each midpoint was made
pub record Half (r w : List ℕ) (c : Counts) (i t : ℕ) : Type 0 where
  pub midpoints : (v : ℕ) → i ≤ v → v < c.vertices → (record_at r v).second ≡ 4294967295 → ⊥
  pub later : (k : ℕ) → t ≤ k → k < c.rows → (row_at w k).parent ≡ k → ⊥
  pub bred : Bred r w c i t
  pub parents : Parents (bare [] w c) t

-- all of them, with i and t where the leading runs end
pub record Shapely (p : List Float) (r w : List ℕ) (c : Counts) (i t : ℕ) : Type 0 where
  pub begun : Begun p r w c i t
  pub half : Half r w c i t

-- the answer b of a test that is asked of each number of a list: that every one passes, or that one does not
pub record EachPasses {A : Type 0} (test : A → Bool → Type 0) (xs : List A) (b : Bool) : Type 0 where
  pub all : b ≡ true → All (λ x. test x true) xs
  pub some : b ≡ false → (k : ℕ) × (k < length xs) × HoldsAt (λ x. test x false) xs k

-- the answer: where the leading runs end, or that the tables are not so
abbrev pub runs : ℕ → ℕ → Runs
runs i t = record { initials = i; roots = t }

pub record Shapes (p : List Float) (r w : List ℕ) (c : Counts) (o : Option Runs) : Type 0 where
  pub runs : (i t : ℕ) → o ≡ Some (runs i t) → Shapely p r w c i t
  pub not : o ≡ None → (i t : ℕ) → Shapely p r w c i t → ⊥
