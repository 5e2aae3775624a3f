-- The tables while closure works on them, and what its parts do to them. Nothing here is promised to callers.
use Rattle.std.specs.Prelude.{◌≡◌, Bool, ◌&&◌, cond, List, ℕ, ◌+◌, ◌-◌, ◌*◌, ◌/◌, ◌%◌, ◌≤◌, ◌<◌, min, eqb, ltb, length, get_or, set}
use Rattle.split.specs.declared.row.Row.{Row}
use Rattle.split.specs.declared.row.Ends.{Ends}
use Rattle.chain.specs.Chain.{Indexed, pushed}
use Rattle.tables.specs.declared.layout.Counts.{Counts}
use Rattle.tables.specs.declared.record.Record.{Record}
use Rattle.tables.specs.Layout.{row_width, no_row, record_at, row_at, most_rows, most_vertices}
use Rattle.tables.specs.Mesh.{up_to}
use Rattle.run.specs.Skeleton.{Skeleton}
use Rattle.split.specs.Split.{at, Distinct}
use Rattle.split.specs.Row.{corners_of}
use Rattle.run.specs.Run.{has, holders, cut, cut_all}

-- ---- the tables as lists

abbrev pub rows_of : List ℕ → ℕ → List Row
rows_of w n = up_to (row_at w) n

abbrev pub records_of : List ℕ → ℕ → List Record
records_of r n = up_to (record_at r) n

abbrev pub seen : List ℕ → List ℕ → Counts → Skeleton
seen r w c = record { records = records_of r c.vertices; rows = rows_of w c.rows }

-- the vertex at corner slot s: place s % 4 of row s / 4
abbrev pub corner : List ℕ → ℕ → ℕ
corner w s = at (corners_of (row_at w (s / 4))) (s % 4)

-- ---- the scratch table: heads, links, the patch, and at its end the uses. Its length is the caller's

abbrev pub links_at : ℕ
links_at = most_vertices

-- what is enough for an element table of w numbers: heads and uses, and for each row that it has room for four links and a place in a patch
unfoldable pub scratch_for : ℕ → ℕ
scratch_for w = 2 * most_vertices + 5 * min most_rows (w / row_width)

abbrev pub bumped : ℕ → ℕ
bumped u = cond (ltb u 4294967295) (u + 1) u

-- one use of vertex v more, counted among the last numbers. Nothing hangs on these counts but which end of an edge is walked
unfoldable pub counted : List ℕ → ℕ → List ℕ
counted s v = set s (length s - links_at + v) (bumped (get_or s (length s - links_at + v) 0))

-- slot i with its vertex v in the index, and v counted
unfoldable pub entered : List ℕ → ℕ → ℕ → List ℕ
entered s i v = counted (pushed s links_at i v) v

-- the four corners of row n entered
unfoldable pub row_pushed : List ℕ → ℕ → Row → List ℕ
row_pushed s n r = entered (entered (entered (entered s (4 * n) r.v0) (4 * n + 1) r.v1) (4 * n + 2) r.v2) (4 * n + 3) r.v3

-- the last k numbers before the uses: a patch, in ascending row order
abbrev pub patch_in : List ℕ → ℕ → List ℕ
patch_in s k = up_to (λ (j : ℕ). get_or s (length s - (links_at + k) + j) 0) k

-- the scratch table is enough, the first n rows are in the index, and zeros stand after them
pub record State (w s : List ℕ) (n : ℕ) : Type 0 where
  pub size : scratch_for (length w) ≤ length s
  pub index : Indexed (corner w) (4 * n) links_at s
  pub few : n ≤ most_rows
  pub fits : n ≤ length w / row_width
  pub low : (k : ℕ) → k < 4 * n → corner w k < links_at
  pub blank : (k : ℕ) → n ≤ k → row_at w k ≡ no_row

-- the row `leaf` may be split at the vertex v
pub record Splittable (w s : List ℕ) (n leaf v : ℕ) : Type 0 where
  pub state : State w s n
  pub there : leaf < n
  pub room : n + 2 ≤ length w / row_width
  pub few : n + 2 ≤ most_rows
  pub low : v < links_at

-- one leaf was split, and what stands between links and uses is as it was
pub record Halves (w s : List ℕ) (n leaf v : ℕ) (w' s' : List ℕ) : Type 0 where
  pub size : length w' ≡ length w
  pub state : State w' s' (n + 2)
  pub rows : rows_of w' (n + 2) ≡ cut v (rows_of w n) leaf
  pub scratch_size : length s' ≡ length s
  pub patch : (j : ℕ) → links_at + 4 * (n + 2) ≤ j → links_at + j < length s → get_or s' j 0 ≡ get_or s j 0

-- the k rows that the scratch table lists may be split at the vertex v
pub record Patchable (w s : List ℕ) (n k v : ℕ) : Type 0 where
  pub state : State w s n
  pub room : n + 2 * k ≤ length w / row_width
  pub few : n + 2 * k ≤ most_rows
  pub low : v < links_at
  pub size : links_at + k ≤ length s
  pub listed : (j : ℕ) → j < k → get_or s (length s - (links_at + k) + j) 0 < n

-- they were split
pub record Parted (w s : List ℕ) (n k v : ℕ) (w' s' : List ℕ) : Type 0 where
  pub size : length w' ≡ length w
  pub state : State w' s' (n + 2 * k)
  pub rows : rows_of w' (n + 2 * k) ≡ cut_all v (rows_of w n) (patch_in s k)

-- ---- the patch of an edge

-- a is an end of e
pub data EndOf (e : Ends) (a : ℕ) : Type 0 where
  small : a ≡ e.small → EndOf e a
  large : a ≡ e.large → EndOf e a

-- the end of e that its end a is not
unfoldable pub other_end : Ends → ℕ → ℕ
other_end e a = cond (eqb e.small a) e.large e.small

-- the row is a leaf holding v. A row that holds one end of an edge is in its patch exactly if it is a leaf with the other
unfoldable pub leaf_with : ℕ → Row → Bool
leaf_with v r = eqb r.child 0 && has r v

-- the leaves holding both ends of e can be looked for among those that hold its end a
pub record Gatherable (w s : List ℕ) (n : ℕ) (e : Ends) (a : ℕ) : Type 0 where
  pub state : State w s n
  pub distinct : (r : ℕ) → r < n → Distinct 3 (corners_of (row_at w r))
  pub end : EndOf e a
  pub low : a < links_at

-- they are listed
pub record Gathers (w : List ℕ) (n : ℕ) (e : Ends) (k : ℕ) (s' : List ℕ) : Type 0 where
  pub state : State w s' n
  pub patch : patch_in s' k ≡ holders (rows_of w n) e
  pub size : k ≤ n

-- the k numbers before the uses are rows below n
pub record Listed (s : List ℕ) (n k : ℕ) : Type 0 where
  pub size : links_at + k ≤ length s
  pub few : k ≤ most_rows
  pub listed : (j : ℕ) → j < k → get_or s (length s - (links_at + k) + j) 0 < n
