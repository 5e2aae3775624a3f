-- A call's entry: sound tables are a state in which closure can work.
use mathlib.Core.Path.{◌≡◌, sym, subst, ◌∙◌}
use mathlib.Core.List.{List}
use Prim.Native.Nat.{ℕ, ◌*◌, ◌/◌, ◌%◌, ◌≤◌, ◌<◌}
use native.Mathlib.Omega.{arith}
use lib.ListN.{length}
use lib.Ieee.{Float}
use Rattle.split.specs.declared.row.Row.{Row}
use Rattle.split.specs.Split.{at}
use Rattle.split.specs.Row.{corners_of}
use Rattle.tables.specs.declared.layout.Counts.{Counts}
use Rattle.tables.specs.declared.layout.Size.{Size}
use Rattle.tables.specs.Layout.{row_width, record_width, point_width, no_row, point_at, record_at, row_at, room_of, most_rows, most_vertices}
use Rattle.tables.specs.Mesh.{Mesh, mesh_of}
use Rattle.tables.proofs.laws.View.{length_up_to, up_to_at}
use Rattle.sound.specs.Sound.{Sound}
use Rattle.closure.specs.State.{corner, rows_of, records_of, seen, links_at, State}
use Rattle.sound.specs.Check.{lent}
use Rattle.sound.proofs.laws.Placed.{placed}
use Rattle.run.specs.Skeleton.{meshed}
use Rattle.run.specs.Ready.{Ready}
use Rattle.run.proofs.laws.Points.{points_own}
use Rattle.closure.specs.Build.{Headless, Indexable}
use Rattle.closure.specs.Refining.{Tables}
use Rattle.closure.specs.Marking.{Steady}
use Rattle.closure.proofs.laws.Blank.{rows_blank, records_blank}

-- the room is within what the tables hold
pub record Roomy (p r w : ℕ) : Type 0 where
  pub few_vertices : (room_of p r w).vertices ≤ most_vertices
  pub few_rows : (room_of p r w).rows ≤ most_rows
  pub points_fit : (room_of p r w).vertices ≤ p / point_width
  pub records_fit : (room_of p r w).vertices ≤ r / record_width
  pub rows_fit : (room_of p r w).rows ≤ w / row_width

pub roomy : (p r w : ℕ) → Roomy p r w
unfolding room_of
roomy p r w = record { few_vertices = omega arith; few_rows = omega arith; points_fit = omega arith; records_fit = omega arith; rows_fit = omega arith }

module _ {p : List Float} {r w : List ℕ} {c : Counts} (s : Sound (lent p r w) c) where
  abbrev m : Mesh
  m = mesh_of (lent p r w) c

  abbrev room : Size
  room = room_of (length p) (length r) (length w)

  abbrev fit : Roomy (length p) (length r) (length w)
  fit = roomy (length p) (length r) (length w)

  pub entry_mesh : meshed m.points (seen r w c) ≡ m
  unfolding mesh_of
  entry_mesh = λ j. record { points = points_own m.points (seen r w c) (length_up_to (point_at p) c.vertices ∙ sym (length_up_to (record_at r) c.vertices)) j; records = records_of r c.vertices; rows = rows_of w c.rows }

  pub entry_ready : Ready m.points s.initials s.roots (seen r w c)
  unfolding mesh_of
  entry_ready = record {
    based = omega (arith, length_up_to (point_at p) c.vertices, length_up_to (record_at r) c.vertices);
    grown = rw entry_mesh s.grown;
    conforming = rw entry_mesh s.conforming;
  }

  corner_low : (k : ℕ) → k < 4 * c.rows → corner w k < links_at
  unfolding mesh_of
  corner_low k h =
      let inside : k / 4 < c.rows = omega arith in
      let q = placed s.grown (k / 4) (rw (length_up_to (row_at w) c.rows) inside) in
      let held : at (corners_of (row_at w (k / 4))) (k % 4) < length (records_of r c.vertices) = subst (λ (x : Row). at (corners_of x) (k % 4) < length (records_of r c.vertices)) (up_to_at (row_at w) c.rows (k / 4) no_row inside) (q.held (k % 4) (omega arith)) in
      omega (arith, held, length_up_to (record_at r) c.vertices, s.fitting.vertices_fit, fit.few_vertices)

  blank_rows : (k : ℕ) → c.rows ≤ k → row_at w k ≡ no_row
  blank_rows = rows_blank w c.rows s.unused.rows

  pub entry_index : {scratch : List ℕ} → Headless w scratch → Indexable w scratch c.rows
  entry_index e = record { fresh = e; few = omega (arith, s.fitting.rows_fit, fit.few_rows); fits = omega (arith, s.fitting.rows_fit, fit.rows_fit); low = corner_low; blank = blank_rows }

  pub entry_tables : {scratch : List ℕ} → State w scratch c.rows → Tables r w scratch c room
  entry_tables x = record {
    state = x;
    vertices_in = s.fitting.vertices_fit;
    rows_in = s.fitting.rows_fit;
    few_vertices = fit.few_vertices;
    few_rows = fit.few_rows;
    records_fit = fit.records_fit;
    rows_fit = fit.rows_fit;
    blank = records_blank r c.vertices s.unused.records;
  }

  pub entry_steady : {scratch : List ℕ} → State w scratch c.rows → Steady r w scratch c room
  entry_steady x = record { tables = entry_tables x; points = m.points; initials = s.initials; roots = s.roots; ready = entry_ready }
