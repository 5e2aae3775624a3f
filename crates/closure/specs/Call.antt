-- The parts of a call on sound tables. Nothing here is promised to callers.
use Rattle.std.specs.Prelude.{◌≡◌, List, ℕ, ◌-◌, ◌/◌, ◌≤◌, Float, Result, Ok}
use Rattle.tables.specs.declared.refusal.Refusal.{Refusal}
use Rattle.tables.specs.declared.layout.Counts.{Counts}
use Rattle.tables.specs.Layout.{resized}
use Rattle.tables.specs.Mesh.{Lent}
use Rattle.sound.specs.Sound.{Sound}
use Rattle.sound.specs.Check.{lent}
use Rattle.run.specs.Run.{RunAll}
use Rattle.frame.specs.Marks.{on_marks}
use Rattle.frame.specs.Points.{filled}
use Rattle.closure.specs.declared.answer.Refined.{Refined}
use Rattle.closure.specs.State.{scratch_for}
use Rattle.closure.specs.Build.{Headless}
use Rattle.closure.specs.Refine.{OnRoom, OnMarks}

pub record Finishes (p : List Float) (r : List ℕ) (c d : Counts) (o : Refined) (p' : List Float) : Type 0 where
  pub points : p' ≡ filled p r c.vertices d.vertices
  pub counts : o.counts ≡ resized c d.vertices d.rows
  pub splits : o.splits ≡ (d.rows - c.rows) / 2

pub record Closable (p : List Float) (r w s : List ℕ) (c : Counts) (marks : List ℕ) : Type 0 where
  pub sound : Sound (lent p r w) c
  pub fresh : Headless w s
  pub passed : on_marks w c.rows marks ≡ Ok tt

-- the answer and the tables as `OnRoom` has them, however the tables are shown to be sound
pub record Closes (t : Lent) (c : Counts) (marks : List ℕ) (o : Result Refined Refusal) (t' : Lent) : Type 0 where
  pub room : (s : Sound t c) → OnRoom RunAll t c s.initials s.roots marks o t'

-- so many numbers are enough memory for an element table of w: for closure, and for the check before it
pub record Spacious (w memory : ℕ) : Type 0 where
  pub closure : scratch_for w ≤ memory
  pub check : 36382 ≤ memory

pub record Callable (p : List Float) (r w s : List ℕ) (c : Counts) : Type 0 where
  pub sound : Sound (lent p r w) c
  pub fresh : Headless w s

pub record Calls (t : Lent) (c : Counts) (marks : List ℕ) (o : Result Refined Refusal) (t' : Lent) : Type 0 where
  pub judged : (s : Sound t c) → OnMarks RunAll t c s.initials s.roots marks o t'
