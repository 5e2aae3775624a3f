-- The marks of a call on the tables. Nothing here is promised to callers.
use Rattle.std.specs.Prelude.{◌≡◌, List, ◌∷◌, ℕ, ◌≤◌, ◌<◌, length, get_or, drop, Result}
use Rattle.std.specs.Result.{ForOk, ForErr}
use Rattle.split.specs.declared.point.Point.{Point}
use Rattle.tables.specs.declared.layout.Counts.{Counts}
use Rattle.tables.specs.declared.layout.Size.{Size}
use Rattle.tables.specs.Layout.{row_at}
use Rattle.run.specs.Skeleton.{Skeleton}
use Rattle.run.specs.Ready.{Ready, Reach}
use Rattle.run.specs.Run.{RunAll, StuckAll}
use Rattle.closure.specs.declared.step.Full.{Full}
use Rattle.closure.specs.State.{seen}
use Rattle.closure.specs.Refining.{Tables}

-- with some points for its vertices the mesh in the tables is sound
pub record Steady (r w s : List ℕ) (c : Counts) (room : Size) : Type 0 where
  pub tables : Tables r w s c room
  pub points : List Point
  pub initials : ℕ
  pub roots : ℕ
  pub ready : Ready points initials roots (seen r w c)

-- row q is there, and not of depth 60 where it is a leaf
pub record Fine (w : List ℕ) (n q : ℕ) : Type 0 where
  pub there : q < n
  pub shallow : (row_at w q).child ≡ 0 → (row_at w q).depth < 60

pub record Due (r w s : List ℕ) (c : Counts) (room : Size) (q : ℕ) : Type 0 where
  pub steady : Steady r w s c room
  pub fine : Fine w c.rows q

pub record AllDue (r w s : List ℕ) (c : Counts) (room : Size) (marks : List ℕ) : Type 0 where
  pub steady : Steady r w s c room
  pub fine : (j : ℕ) → j < length marks → Fine w c.rows (get_or marks j 0)

-- the mark q is done: from S to the tables r and w
pub record Passed (S : Skeleton) (q : ℕ) (room : Size) (r w s : List ℕ) (d : Counts) : Type 0 where
  pub runs : (rs : List ℕ) (U : Skeleton) → RunAll (seen r w d) rs U → RunAll S (q ∷ rs) U
  pub stuck : (rs : List ℕ) → StuckAll room (seen r w d) rs → StuckAll room S (q ∷ rs)
  pub reach : Reach S (seen r w d)
  pub tables : Tables r w s d room

-- there was no room for it
pub record Halted (S : Skeleton) (q : ℕ) (room : Size) (r w s : List ℕ) (d : Counts) : Type 0 where
  pub stuck : (rs : List ℕ) → StuckAll room S (q ∷ rs)
  pub reach : Reach S (seen r w d)
  pub tables : Tables r w s d room

pub record Passes (r w : List ℕ) (c : Counts) (room : Size) (q : ℕ) (o : Result Counts Full) (r' w' s' : List ℕ) : Type 0 where
  pub done : ForOk o (λ d. Passed (seen r w c) q room r' w' s' d)
  pub full : ForErr o (λ e. Halted (seen r w c) q room r' w' s' e.counts)

-- all marks are done, or there was no room for them
pub record Ended (S : Skeleton) (marks : List ℕ) (room : Size) (r w s : List ℕ) (d : Counts) : Type 0 where
  pub run : RunAll S marks (seen r w d)
  pub reach : Reach S (seen r w d)
  pub tables : Tables r w s d room

pub record Failed (S : Skeleton) (marks : List ℕ) (room : Size) (r w s : List ℕ) (d : Counts) : Type 0 where
  pub stuck : StuckAll room S marks
  pub reach : Reach S (seen r w d)
  pub tables : Tables r w s d room

pub record Marks (r w : List ℕ) (c : Counts) (room : Size) (marks : List ℕ) (o : Result Counts Full) (r' w' s' : List ℕ) : Type 0 where
  pub records_size : length r' ≡ length r
  pub rows_size : length w' ≡ length w
  pub done : ForOk o (λ d. Ended (seen r w c) marks room r' w' s' d)
  pub full : ForErr o (λ e. Failed (seen r w c) marks room r' w' s' e.counts)

-- the first j marks are done
pub record Marking (r₀ w₀ s₀ : List ℕ) (c : Counts) (room : Size) (marks : List ℕ) (r w s : List ℕ) (d : Counts) (j : ℕ) : Type 0 where
  pub within : j ≤ length marks
  pub due : AllDue r w s d room marks
  pub runs : (U : Skeleton) → RunAll (seen r w d) (drop j marks) U → RunAll (seen r₀ w₀ c) marks U
  pub stuck : StuckAll room (seen r w d) (drop j marks) → StuckAll room (seen r₀ w₀ c) marks
  pub reach : Reach (seen r₀ w₀ c) (seen r w d)
  pub records_size : length r ≡ length r₀
  pub rows_size : length w ≡ length w₀
  pub scratch_size : length s ≡ length s₀
