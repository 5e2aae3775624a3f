-- Coarsened tables are sound: the thinned mesh of sound tables, laid into tables of the same lengths.
use mathlib.Core.Path.{◌≡◌, sym, ap, ◌∙◌}
use mathlib.Core.Bool.{Bool}
use mathlib.Core.List.{List}
use Prim.Native.Nat.{ℕ, ◌≤◌, ◌<◌}
use native.Mathlib.Omega.{arith}
use lib.ListN.{length}
use Rattle.tables.specs.declared.layout.Counts.{Counts}
use Rattle.tables.specs.Layout.{point_at, record_at, row_at, room_of, resized}
use Rattle.tables.specs.Mesh.{Lent, Mesh, Counting, Unused, up_to, mesh_of, laid}
use Rattle.tables.proofs.laws.View.{mesh_points, Within, mesh_laid, laid_mesh}
use Rattle.opening.proofs.laws.Counting.{count_below}
use Rattle.sound.specs.Sound.{vertices, rows, point_of, Sound}
use Rattle.sound.proofs.laws.Tested.{Roomed}
use Rattle.sound.proofs.laws.Laid.{mesh_vertices, mesh_rows, laid_sound}
use Rattle.coarsen_theory.specs.Dropping.{gone_by}
use Rattle.coarsen_theory.specs.Free.{Free}
use Rattle.coarsen_theory.specs.Thinned.{stays, keeps, new_vertex, new_row, sift, thin_row, thin_record, thinned}
use Rattle.coarsen_theory.proofs.laws.Sifted.{count_less}
use Rattle.coarsen_theory.proofs.laws.Free.{gone_free}
use Rattle.coarsen_theory.proofs.laws.Together.{root_kept}
use Rattle.coarsen_theory.proofs.laws.Moved.{vertices_thinned, points_thinned, rows_thinned}
use Rattle.coarsen_theory.proofs.laws.Clauses.{thin_grown, thin_conforming}

module _ {t : Lent} {c : Counts} (s : Sound t c) where
  sound_few : c.vertices < 4294967295
  unfolding room_of
  sound_few = omega (arith, s.fitting.vertices_fit)

  pub mesh_few : vertices (mesh_of t c) < 4294967295
  mesh_few = omega (arith, mesh_vertices t c, sound_few)

  pub mesh_long : length (mesh_of t c).points ≡ vertices (mesh_of t c)
  mesh_long = mesh_points t c ∙ sym (mesh_vertices t c)

  module _ {gone : ℕ → Bool} (f : Free (mesh_of t c) s.initials gone) where
    abbrev m : Mesh
    m = mesh_of t c

    abbrev after : Mesh
    after = thinned m s.initials gone

    fewer_points : length after.points ≤ c.vertices
    fewer_points = omega (arith, points_thinned m s.initials gone, count_below (stays gone) (vertices m), mesh_vertices t c)

    fewer_rows : rows after ≤ c.rows
    fewer_rows = omega (arith, rows_thinned m s.initials gone, count_below (keeps m gone) (rows m), mesh_rows t c)

    together : length after.points ≡ vertices after
    together = points_thinned m s.initials gone ∙ sym (vertices_thinned m s.initials gone)

    -- row 0 is a root, so it is kept
    some_row : 1 ≤ rows after
    some_row = rw (rows_thinned m s.initials gone) (omega (arith, count_less (keeps m gone) 0 (rows m) (omega (arith, mesh_rows t c, s.fitting.some)) (root_kept s.grown f 0 s.grown.afresh.some)))

    within : Within after (length t.points) (length t.records) (length t.rows)
    within = record {
      points = omega (arith, fewer_points, s.unused.points_fit);
      records = omega (arith, fewer_points, together, s.unused.records_fit);
      rows = omega (arith, fewer_rows, s.unused.rows_fit);
      together = together;
    }

    roomed : Roomed (length after.points) (length after.rows) (length t.points) (length t.records) (length t.rows)
    roomed = record {
      points_whole = s.fitting.points;
      records_whole = s.fitting.records;
      rows_whole = s.fitting.rows;
      vertices_fit = omega (arith, fewer_points, s.fitting.vertices_fit);
      rows_fit = omega (arith, fewer_rows, s.fitting.rows_fit);
    }

    module _ {d : Counts} (k : Counting after d) where
      -- read back from tables it is the thinned mesh
      pub thin_mesh : mesh_of (laid after (length t.points) (length t.records) (length t.rows)) d ≡ after
      thin_mesh = mesh_laid after (length t.points) (length t.records) (length t.rows) within k

      pub thin_tables : Sound (laid after (length t.points) (length t.records) (length t.rows)) d
      thin_tables = laid_sound after (length t.points) (length t.records) (length t.rows) within k roomed some_row s.initials s.roots (thin_grown s.grown f mesh_few mesh_long) (thin_conforming s.grown f s.conforming)

  -- sound tables with a list of vertices dropped in turn and the holes closed are sound (02, L5)
  pub coarsened_sound : (vs : List ℕ) {d : Counts} → Counting (thinned (mesh_of t c) s.initials (gone_by (mesh_of t c) s.initials vs)) d
      → Sound (laid (thinned (mesh_of t c) s.initials (gone_by (mesh_of t c) s.initials vs)) (length t.points) (length t.records) (length t.rows)) d
  coarsened_sound vs = thin_tables (gone_free s.grown vs)

-- ---- tables that code wrote in place

-- tables that begin with what is kept, in the new numbers, hold the thinned mesh
pub sifted_mesh : (m : Mesh) (i : ℕ) (gone : ℕ → Bool) (t' : Lent) (c : Counts) → up_to (point_at t'.points) (new_vertex gone (vertices m)) ≡ sift (stays gone) (point_of m) (vertices m)
    → up_to (record_at t'.records) (new_vertex gone (vertices m)) ≡ sift (stays gone) (thin_record m i gone) (vertices m) → up_to (row_at t'.rows) (new_row m gone (rows m)) ≡ sift (keeps m gone) (thin_row m gone) (rows m)
    → mesh_of t' (resized c (new_vertex gone (vertices m)) (new_row m gone (rows m))) ≡ thinned m i gone
unfolding mesh_of thinned
sifted_mesh m i gone t' c p r w = λ j. record { points = p j; records = r j; rows = w j }

-- and where zeros follow, they are the thinned mesh laid into tables
pub sifted_laid : (m : Mesh) (t' : Lent) (c' : Counts) → mesh_of t' c' ≡ m → Unused t' c' → t' ≡ laid m (length t'.points) (length t'.records) (length t'.rows)
sifted_laid m t' c' e u = sym (laid_mesh t' c' u) ∙ ap (λ (x : Mesh). laid x (length t'.points) (length t'.records) (length t'.rows)) e
