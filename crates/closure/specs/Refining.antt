-- Refining one leaf on the tables: what it starts from and what it leaves. Nothing here is promised to callers.
use Rattle.std.specs.Prelude.{◌≡◌, Bool, ◌&&◌, List, ℕ, ◌+◌, ◌*◌, ◌/◌, ◌≤◌, ◌<◌, ltb, leb, length, None, Result}
use Rattle.std.specs.Result.{ForOk, ForErr}
use Rattle.split.specs.declared.point.Point.{Point}
use Rattle.split.specs.Split.{Distinct}
use Rattle.split.specs.Row.{corners_of, edge_of}
use Rattle.tables.specs.declared.layout.Counts.{Counts}
use Rattle.tables.specs.declared.layout.Size.{Size}
use Rattle.tables.specs.Layout.{row_width, record_width, no_record, record_at, row_at, most_rows, most_vertices}
use Rattle.run.specs.Skeleton.{Skeleton}
use Rattle.run.specs.Ready.{Ready, Open, Reach, rank_in}
use Rattle.run.specs.Run.{holders, blocking, Run, Stuck}
use Rattle.closure.specs.declared.step.Look.{Look}
use Rattle.closure.specs.declared.step.Clear.{Clear}
use Rattle.closure.specs.declared.step.Full.{Full}
use Rattle.closure.specs.State.{rows_of, seen, patch_in, State}

-- the tables hold a mesh of these counts within the room, and zeros after it
pub record Tables (r w s : List ℕ) (c : Counts) (room : Size) : Type 0 where
  pub state : State w s c.rows
  pub vertices_in : c.vertices ≤ room.vertices
  pub rows_in : c.rows ≤ room.rows
  pub few_vertices : room.vertices ≤ most_vertices
  pub few_rows : room.rows ≤ most_rows
  pub records_fit : room.vertices ≤ length r / record_width
  pub rows_fit : room.rows ≤ length w / row_width
  pub blank : (v : ℕ) → c.vertices ≤ v → record_at r v ≡ no_record

-- with some points for its vertices the mesh is sound, and q is a leaf that may be split
pub record Sure (r w s : List ℕ) (c : Counts) (room : Size) (q : ℕ) : Type 0 where
  pub tables : Tables r w s c room
  pub points : List Point
  pub initials : ℕ
  pub roots : ℕ
  pub ready : Ready points initials roots (seen r w c)
  pub ripe : Open (seen r w c) q

-- q was refined
pub record Ran (S : Skeleton) (q : ℕ) (room : Size) (r w s : List ℕ) (d : Counts) : Type 0 where
  pub run : Run S q (seen r w d)
  pub reach : Reach S (seen r w d)
  pub tables : Tables r w s d room

-- there was no room
pub record Jammed (S : Skeleton) (q : ℕ) (room : Size) (r w s : List ℕ) (d : Counts) : Type 0 where
  pub stuck : Stuck room S q
  pub reach : Reach S (seen r w d)
  pub tables : Tables r w s d room

-- refining q on the tables r and w answered o and left r', w' and s'
pub record Refines (r w : List ℕ) (c : Counts) (room : Size) (q : ℕ) (o : Result Counts Full) (r' w' s' : List ℕ) : Type 0 where
  pub done : ForOk o (λ d. Ran (seen r w c) q room r' w' s' d)
  pub full : ForErr o (λ e. Jammed (seen r w c) q room r' w' s' e.counts)

-- ---- the patch

-- one vertex more and the children of k leaves fit
unfoldable pub fits_in : Size → Counts → ℕ → Bool
fits_in room d k = ltb d.vertices room.vertices && leb (d.rows + 2 * k) room.rows

-- the k listed leaves are the patch of q's edge
pub record Patched (w s : List ℕ) (n q k : ℕ) : Type 0 where
  pub patch : patch_in s k ≡ holders (rows_of w n) (edge_of (row_at w q))
  pub size : k ≤ n

-- and no leaf blocks it
pub record Cuttable (r w s : List ℕ) (d : Counts) (room : Size) (q k : ℕ) : Type 0 where
  pub sure : Sure r w s d room q
  pub listed : Patched w s d.rows q k
  pub clear : blocking (rows_of w d.rows) q ≡ None

-- ---- looking at a patch

pub record Lookable (w s : List ℕ) (n q : ℕ) : Type 0 where
  pub state : State w s n
  pub distinct : (r : ℕ) → r < n → Distinct 3 (corners_of (row_at w r))
  pub there : q < n

pub record Looks (w : List ℕ) (n q : ℕ) (o : Look) (s : List ℕ) : Type 0 where
  pub state : State w s n
  pub listed : Patched w s n q o.size
  pub other : o.other ≡ blocking (rows_of w n) q

-- ---- clearing a patch

-- refining q from S comes to T, where it goes on
pub record Towards (room : Size) (S : Skeleton) (q : ℕ) (T : Skeleton) : Type 0 where
  pub runs : (U : Skeleton) → Run T q U → Run S q U
  pub stuck : Stuck room T q → Stuck room S q

-- the loop that clears the patch of q's edge is at the tables r, w and s
pub record Clearing (r₀ w₀ s₀ : List ℕ) (c : Counts) (room : Size) (q : ℕ) (r w s : List ℕ) (d : Counts) : Type 0 where
  pub sure : Sure r w s d room q
  pub towards : Towards room (seen r₀ w₀ c) q (seen r w d)
  pub reach : Reach (seen r₀ w₀ c) (seen r w d)
  pub rank : rank_in (seen r w d) q ≡ rank_in (seen r₀ w₀ c) q
  pub records_size : length r ≡ length r₀
  pub rows_size : length w ≡ length w₀
  pub scratch_size : length s ≡ length s₀

-- no leaf blocks the patch any more
pub record Cleared (S : Skeleton) (q : ℕ) (room : Size) (r w s : List ℕ) (d : Counts) (k : ℕ) : Type 0 where
  pub towards : Towards room S q (seen r w d)
  pub reach : Reach S (seen r w d)
  pub cuttable : Cuttable r w s d room q k

pub record Clears (r w : List ℕ) (c : Counts) (room : Size) (q : ℕ) (o : Result Clear Full) (r' w' s' : List ℕ) : Type 0 where
  pub clear : ForOk o (λ p. Cleared (seen r w c) q room r' w' s' p.counts p.size)
  pub full : ForErr o (λ e. Jammed (seen r w c) q room r' w' s' e.counts)
