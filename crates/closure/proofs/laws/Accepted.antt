-- What an accepted call leaves: sound tables over the same roots, split exactly where the call needs it (demand 3), with two rows more for each split.
use mathlib.Core.Path.{◌≡◌, sym, ap, subst, ◌∙◌}
use mathlib.Core.List.{List}
use mathlib.Core.Logic.{◌↔◌}
use Prim.Native.Nat.{ℕ, ◌+◌, ◌-◌, ◌*◌, ◌/◌, ◌≤◌, ◌<◌}
use native.Mathlib.Omega.{arith}
use lib.ListN.{length}
use Rattle.tables.specs.declared.layout.Counts.{Counts}
use Rattle.tables.specs.Layout.{no_float}
use Rattle.tables.specs.Mesh.{Lent, Mesh, Counting, mesh_of, laid}
use Rattle.tables.proofs.laws.View as view
use Rattle.tables.proofs.laws.Rows as table
use Rattle.forest.specs.Element.{Element}
use Rattle.sound.specs.Sound.{rows, Grown, Sound}
use Rattle.sound.specs.Forest.{SplitOf, splits_in}
use Rattle.sound.proofs.laws.Count.{rows_count}
use Rattle.sound.proofs.laws.Laid.{laid_sound}
use Rattle.run.specs.Skeleton.{Skeleton, skeleton, meshed}
use Rattle.run.specs.Run.{RunAll, Within}
use Rattle.run.specs.Demand.{Needed}
use Rattle.run.proofs.laws.Grows.{Grows}
use Rattle.run.proofs.laws.Needs.{AllMarkable}
use Rattle.run.proofs.laws.Marks.{Finished}
use Rattle.run.proofs.laws.Demanded.{run_finished, demanded}
use Rattle.run.proofs.laws.Points.{points_length}
use Rattle.closure.specs.Refine.{refined_to, room_in, Refines}
use Rattle.closure.proofs.laws.Entry.{Roomy, roomy}
use Rattle.closure.proofs.laws.Promise.{one_initials, one_roots, done_counts, done_splits}
use Rattle.closure.proofs.laws.Within.{run_within}
use Rattle.closure.proofs.laws.Taken.{Taken, taken, sound_mesh, sound_ready, sound_rows, sound_vertices, sound_within, sound_markable}

-- ---- the run of an accepted call

pub record Continues {t : Lent} {c : Counts} (s : Sound t c) (t' : Lent) (d : Counts) : Type 0 where
  pub sound : Sound t' d
  pub initials : sound.initials ≡ s.initials
  pub roots : sound.roots ≡ s.roots

-- the counts do not fall, and each split added two rows
pub record Counted (m m' : Mesh) (c d : Counts) (n : ℕ) : Type 0 where
  pub rows : d.rows ≡ c.rows + 2 * n
  pub vertices : c.vertices ≤ d.vertices
  pub splits : splits_in m' ≡ splits_in m + n

module _ {t : Lent} {c : Counts} (s : Sound t c) {marks : List ℕ} {d : Counts} {n : ℕ} {t' : Lent} (x : Refines t c marks (refined_to d n) t') where
  abbrev got : Taken RunAll t c s.initials s.roots marks d n t'
  got = taken s x

  abbrev after : Skeleton
  after = got.accepts.after

  abbrev end : Mesh
  end = meshed (mesh_of t c).points after

  abbrev fit : Roomy (length t.points) (length t.records) (length t.rows)
  fit = roomy (length t.points) (length t.records) (length t.rows)

  pub accepted_markable : AllMarkable (skeleton (mesh_of t c)) marks
  accepted_markable = sound_markable s got.there got.shallow

  pub accepted_within : Within (room_in t) after
  accepted_within = run_within (mesh_of t c).points s.initials s.roots got.accepts.run (sound_ready s) (sound_within s) fit.few_vertices accepted_markable (rw (sound_mesh s) got.fits)

  pub accepted_few : length after.records < 4294967295
  accepted_few = omega (arith, accepted_within.vertices, fit.few_vertices)

  finished : Finished (mesh_of t c).points s.initials s.roots (skeleton (mesh_of t c)) after marks (Needed (mesh_of t c) s.roots marks)
  finished = rw (sound_mesh s) at (run_finished (mesh_of t c).points s.initials s.roots got.accepts.run (sound_ready s) accepted_few accepted_markable)

  grows : Grows (mesh_of t c) end s.initials s.roots
  grows = rw (sound_mesh s) at finished.grows

  -- ---- the tables afterwards

  end_points : length end.points ≡ length after.records
  end_points = points_length (mesh_of t c).points after finished.ready.based

  end_fits : view.Within end (length t.points) (length t.records) (length t.rows)
  end_fits = record {
    points = omega (arith, end_points, accepted_within.vertices, fit.points_fit);
    records = omega (arith, accepted_within.vertices, fit.records_fit);
    rows = omega (arith, accepted_within.rows, fit.rows_fit);
    together = end_points;
  }

  counting : Counting end d
  counting = let e = done_counts got.accepts.answers in record { vertices = ap (λ (k : Counts). k.vertices) e ∙ sym end_points; rows = ap (λ (k : Counts). k.rows) e }

  splits : n ≡ (length after.rows - c.rows) / 2
  splits = done_splits got.accepts.answers

  pub accepted_mesh : mesh_of t' d ≡ end
  accepted_mesh = ap (λ (l : Lent). mesh_of l d) got.accepts.leaves ∙ view.mesh_laid end (length t.points) (length t.records) (length t.rows) end_fits counting

  laid_end : Sound (laid end (length t.points) (length t.records) (length t.rows)) d
  laid_end =
      laid_sound end (length t.points) (length t.records) (length t.rows) end_fits counting
      (record {
        points_whole = s.fitting.points;
        records_whole = s.fitting.records;
        rows_whole = s.fitting.rows;
        vertices_fit = rw end_points accepted_within.vertices;
        rows_fit = accepted_within.rows;
      })
      (omega (arith, grows.more_rows, sound_rows s, s.fitting.some)) s.initials s.roots finished.ready.grown finished.ready.conforming

  after_sound : Sound t' d
  after_sound = subst (λ (l : Lent). Sound l d) (sym got.accepts.leaves) laid_end

  after_grown : Grown (mesh_of t' d) s.initials s.roots
  after_grown = subst (λ (m : Mesh). Grown m s.initials s.roots) (sym accepted_mesh) finished.ready.grown

  -- the tables are sound, with the same initial vertices and roots
  pub accepted_sound : Continues s t' d
  accepted_sound = record {
    sound = after_sound;
    initials = one_initials after_sound.grown.parted after_grown.parted;
    roots = one_roots after_sound.grown.parted after_grown.parted;
  }

  pub accepted_grows : Grows (mesh_of t c) (mesh_of t' d) s.initials s.roots
  accepted_grows = subst (λ (m : Mesh). Grows (mesh_of t c) m s.initials s.roots) (sym accepted_mesh) grows

  -- the split elements are the smallest closed set that holds those split before and those marked (demand 3)
  pub accepted_demanded : (e : Element) → SplitOf (mesh_of t' d) s.roots e ↔ Needed (mesh_of t c) s.roots marks e
  accepted_demanded e =
      subst (λ (m : Mesh). SplitOf m s.roots e ↔ Needed (mesh_of t c) s.roots marks e) (sym accepted_mesh)
      (rw (sound_mesh s) at (demanded (mesh_of t c).points s.initials s.roots got.accepts.run (sound_ready s) accepted_few accepted_markable e))

  pub accepted_counted : Counted (mesh_of t c) (mesh_of t' d) c d n
  accepted_counted =
      let before = rows_count s.grown in
      let now = rows_count after_grown in
      let more = accepted_grows.more_rows in
      let size : rows (mesh_of t' d) ≡ length after.rows = ap (λ (m : Mesh). rows m) accepted_mesh in
      record {
        rows = omega (arith, before, now, more, size, splits, sound_rows s, sound_rows after_sound);
        vertices = omega (arith, accepted_grows.more_vertices, sound_vertices s, sound_vertices after_sound);
        splits = omega (arith, before, now, more, size, splits, sound_rows s);
      }

  -- ---- the tables keep their lengths

  pub accepted_points : length t'.points ≡ length t.points
  unfolding laid
  accepted_points = ap (λ (l : Lent). length l.points) got.accepts.leaves ∙ view.length_padded table.points no_float end.points (length t.points) end_fits.points

  pub accepted_records : length t'.records ≡ length t.records
  unfolding laid
  accepted_records = ap (λ (l : Lent). length l.records) got.accepts.leaves ∙ view.length_padded table.records 0 end.records (length t.records) end_fits.records

  pub accepted_rows : length t'.rows ≡ length t.rows
  unfolding laid
  accepted_rows = ap (λ (l : Lent). length l.rows) got.accepts.leaves ∙ view.length_padded table.rows 0 end.rows (length t.rows) end_fits.rows
