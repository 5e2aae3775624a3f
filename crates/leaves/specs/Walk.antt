-- The walk through a root's tree on the flat table. Nothing here is promised to callers.
use Rattle.std.specs.Prelude.{◌≡◌, Bool, List, map, ℕ, ◌+◌, ◌-◌, ◌/◌, ◌≤◌, ◌<◌, eqb, length, set}
use Rattle.std.proofs.lemmas.List.Edits.{sets}
use Rattle.split.specs.declared.row.Row.{Row}
use Rattle.tables.specs.Layout.{row_width, row_at, no_row, most_rows}
use Rattle.tables.specs.Mesh.{up_to}
use Rattle.intake.specs.Search.{count}
use Rattle.leaves.specs.Listing.{level_of, level_in, listing_from, tree_of, trees_below, listing}

-- the first n rows of a table
abbrev pub rows_of : List ℕ → ℕ → List Row
rows_of w n = up_to (row_at w) n

-- all rows that a table has room for; those past a mesh are zero and no row of it leads there
abbrev pub rows_in : List ℕ → List Row
rows_in w = rows_of w (length w / row_width)

-- the leaves at and below row k, which has depth 60 or less
unfoldable pub below : List ℕ → ℕ → List ℕ
below w k = listing_from (rows_in w) (60 - (row_at w k).depth) k

-- whether row q is a leaf
abbrev pub leaf_at : List ℕ → ℕ → Bool
leaf_at w q = eqb (row_at w q).child 0

-- the children of the split row q are there, and one deeper
pub record Branches (w : List ℕ) (n q : ℕ) : Type 0 where
  pub both : (row_at w q).child + 1 < n
  pub shallow : (row_at w q).depth < 60
  pub first : (row_at w (row_at w q).child).depth ≡ (row_at w q).depth + 1
  pub second : (row_at w ((row_at w q).child + 1)).depth ≡ (row_at w q).depth + 1

-- the first n rows are a forest: from each split row there are ways to its children and no further than depth 60
pub record Wooded (w : List ℕ) (n : ℕ) : Type 0 where
  pub few : n ≤ most_rows
  pub branches : (q : ℕ) → q < n → ((row_at w q).child ≡ 0 → ⊥) → Branches w n q

-- row k's tree can be listed from place `at` on
pub record Walkable (w : List ℕ) (k at : ℕ) : Type 0 where
  pub rows : ℕ
  pub wooded : Wooded w rows
  pub there : k < rows
  pub room : at + length (below w k) ≤ most_rows

-- the rows of `tree` and their levels were stored from place `at` on, and e is the place after them
pub record Stores (w tree : List ℕ) (at : ℕ) (list levels : List ℕ) (e : ℕ) (list' levels' : List ℕ) : Type 0 where
  pub list_is : list' ≡ sets list at tree
  pub levels_is : levels' ≡ sets levels at (map (level_in (rows_in w)) tree)
  pub next : e ≡ at + length tree

-- row k may be stored at a place, and the place after it counted
pub record Low (k at : ℕ) : Type 0 where
  pub row_low : k < most_rows
  pub place_low : at < most_rows

-- one row and the level of its depth were stored
pub record StoresOne (at k depth : ℕ) (list levels : List ℕ) (e : ℕ) (list' levels' : List ℕ) : Type 0 where
  pub list_is : list' ≡ set list at k
  pub levels_is : levels' ≡ set levels at (level_of 3 depth)
  pub next : e ≡ at + 1

-- row k's tree, if k is a root, can be listed from place `at` on
pub record Rooted (w : List ℕ) (k at : ℕ) : Type 0 where
  pub rows : ℕ
  pub wooded : Wooded w rows
  pub there : k < rows
  pub top : (row_at w k).parent ≡ k → (row_at w k).depth ≡ 0
  pub room : at + length (tree_of (rows_in w) k) ≤ most_rows

-- the first n rows are those of sound tables: a forest with roots of depth 0, zeros after it, and as many leaves as are listed
pub record Listable (w : List ℕ) (n : ℕ) : Type 0 where
  pub wooded : Wooded w n
  pub top : (k : ℕ) → k < n → (row_at w k).parent ≡ k → (row_at w k).depth ≡ 0
  pub blank : (k : ℕ) → n ≤ k → row_at w k ≡ no_row
  pub size : length (listing (rows_of w n)) ≡ count (leaf_at w) n

-- and both lists have room for them
pub record Roomy (w : List ℕ) (n : ℕ) (list levels : List ℕ) : Type 0 where
  pub listable : Listable w n
  pub list_fits : length (listing (rows_of w n)) ≤ length list
  pub levels_fit : length (listing (rows_of w n)) ≤ length levels

-- the trees of the first k rows are listed
pub record Listing (w : List ℕ) (n k : ℕ) (list₀ levels₀ list levels : List ℕ) (at : ℕ) : Type 0 where
  pub within : k ≤ n
  pub stored : Stores w (trees_below (rows_in w) k) 0 list₀ levels₀ at list levels
