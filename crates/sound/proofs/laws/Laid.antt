-- A mesh that is as sound tables hold it, laid into tables that have room for it, is sound. And how many vertices and rows the mesh of tables has.
use mathlib.Core.Path.{◌≡◌}
use Prim.Native.Nat.{ℕ, ◌≤◌}
use lib.ListN.{length}
use Rattle.tables.specs.declared.layout.Counts.{Counts}
use Rattle.tables.specs.Layout.{record_at, row_at, no_float}
use Rattle.tables.specs.Mesh.{Lent, Mesh, Counting, mesh_of, laid}
use Rattle.tables.proofs.laws.View.{Within, length_up_to, length_padded, mesh_laid, laid_unused}
use Rattle.tables.proofs.laws.Rows as table
use Rattle.sound.specs.Sound.{vertices, rows, Fitting, Grown, Conforming, Sound}
use Rattle.sound.proofs.laws.Tested.{Roomed}

module _ (t : Lent) (c : Counts) where
  pub mesh_vertices : vertices (mesh_of t c) ≡ c.vertices
  unfolding mesh_of
  mesh_vertices = length_up_to (record_at t.records) c.vertices

  pub mesh_rows : rows (mesh_of t c) ≡ c.rows
  unfolding mesh_of
  mesh_rows = length_up_to (row_at t.rows) c.rows

module _ (m : Mesh) (lp lv lr : ℕ) (w : Within m lp lv lr) where
  laid_points : length (laid m lp lv lr).points ≡ lp
  unfolding laid
  laid_points = length_padded table.points no_float m.points lp w.points

  laid_records : length (laid m lp lv lr).records ≡ lv
  unfolding laid
  laid_records = length_padded table.records 0 m.records lv w.records

  laid_rows : length (laid m lp lv lr).rows ≡ lr
  unfolding laid
  laid_rows = length_padded table.rows 0 m.rows lr w.rows

  module _ {c : Counts} (k : Counting m c) (r : Roomed (length m.points) (length m.rows) lp lv lr) (some : 1 ≤ length m.rows) where
    laid_fitting : Fitting (laid m lp lv lr) c
    laid_fitting = record {
      points = rw laid_points r.points_whole;
      records = rw laid_records r.records_whole;
      rows = rw laid_rows r.rows_whole;
      vertices_fit = rw (k.vertices, laid_points, laid_records, laid_rows) r.vertices_fit;
      rows_fit = rw (k.rows, laid_points, laid_records, laid_rows) r.rows_fit;
      some = rw k.rows some;
    }

    pub laid_sound : (initials roots : ℕ) → Grown m initials roots → Conforming m initials → Sound (laid m lp lv lr) c
    laid_sound initials roots g f = record {
      fitting = laid_fitting;
      initials = initials;
      roots = roots;
      grown = rw (mesh_laid m lp lv lr w k) g;
      conforming = rw (mesh_laid m lp lv lr w k) f;
      unused = laid_unused m lp lv lr w k;
    }
