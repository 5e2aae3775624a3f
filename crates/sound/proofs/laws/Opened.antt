-- Opened tables are sound.
use Rattle.std.proofs.Common.{Ok}
use mathlib.Core.Path.{◌≡◌, refl, sym, ap}
use mathlib.Core.List.{List, map}
use Prim.Native.Nat.{ℕ, ◌/◌, ◌%◌, ◌≤◌, ◌<◌}
use native.Mathlib.Omega.{arith}
use lib.ListN.{length, take}
use lib.Ieee.{Float}
use Rattle.split.specs.declared.row.Row.{Row}
use Rattle.tables.specs.declared.record.Record.{Record}
use Rattle.tables.specs.Layout.{no_point, no_record, no_row, point_at, started}
use Rattle.tables.specs.Mesh.{Counting, mesh_of, laid}
use Rattle.tables.proofs.laws.View.{Within, length_up_to, up_to_at, mesh_laid}
use Rattle.intake.specs.Cells.{Cells, quads}
use Rattle.opening.specs.Colours.{colours, largest}
use Rattle.opening.specs.Order.{root_of}
use Rattle.opening.specs.Opening.{initial, judged, opened_mesh}
use Rattle.opening.proofs.laws.Passed.{roomy_passed}
use Rattle.sound.specs.Sound.{vertices, rows, point_of, record_of, row_of, childless, elements_of, Parted, given_points, root_cells, Afresh, Grown, Conforming, Sound}
use Rattle.sound.proofs.laws.Flat.{take_up_to, map_up_to}
use Rattle.sound.proofs.laws.Tested.{Measured, measured, Roomed, roomed, Tested, tested_passes, tested_named, Allowed, allowed}
use Rattle.sound.proofs.laws.Reordered.{Reordered}
use Rattle.sound.proofs.laws.Ordered.{Proper, proper_single}
use Rattle.sound.proofs.laws.Reopened.{shade, root_among, named_proper, tested_reordered, records_reordered, rows_reordered}
use Rattle.sound.proofs.laws.Again.{points_again, again, again_reordered, again_proper}
use Rattle.sound.proofs.laws.Laid.{laid_sound}

-- ---- what an opened mesh has at a number

module _ (F : List Float) (E : Cells) where
  pub opened_points_length : length (opened_mesh F E).points ≡ length F / 3
  unfolding opened_mesh
  opened_points_length = length_up_to _ (length F / 3)

  opened_vertices : vertices (opened_mesh F E) ≡ length F / 3
  unfolding opened_mesh
  opened_vertices = length_up_to _ (length F / 3)

  pub opened_rows : rows (opened_mesh F E) ≡ E.count
  unfolding opened_mesh
  opened_rows = length_up_to _ E.count

  pub opened_point : (v : ℕ) → v < length F / 3 → point_of (opened_mesh F E) v ≡ point_at F v
  unfolding opened_mesh
  opened_point v h = up_to_at (point_at F) (length F / 3) v no_point h

  pub opened_record : (v : ℕ) → v < length F / 3 → record_of (opened_mesh F E) v ≡ initial (shade E (length F / 3) v)
  unfolding opened_mesh
  opened_record v h = up_to_at (λ v. initial (shade E (length F / 3) v)) (length F / 3) v no_record h

  pub opened_row : (k : ℕ) → k < E.count → row_of (opened_mesh F E) k ≡ root_among (length F / 3) E k
  unfolding opened_mesh
  opened_row k h = up_to_at (root_among (length F / 3) E) E.count k no_row h

  pub opened_parent : (k : ℕ) → k < E.count → (row_of (opened_mesh F E) k).parent ≡ k
  unfolding root_of
  opened_parent k h = rw (opened_row k h)

  pub opened_leaf : (k : ℕ) → k < E.count → (row_of (opened_mesh F E) k).child ≡ 0
  unfolding root_of
  opened_leaf k h = rw (opened_row k h)

  -- ---- nothing comes after the initial vertices and the roots

  no_midpoint : (v : ℕ) → length F / 3 ≤ v → v < vertices (opened_mesh F E) → ⊥
  no_midpoint v h l = omega (arith, opened_vertices)

  no_child : (r : ℕ) → E.count ≤ r → r < rows (opened_mesh F E) → ⊥
  no_child r h l = omega (arith, opened_rows)

  pub opened_parted : Parted (opened_mesh F E) (length F / 3) E.count
  opened_parted = record {
    vertices_in = omega (arith, opened_vertices);
    rows_in = omega (arith, opened_rows);
    initial = λ v h. ap (λ (r : Record). r.second) (opened_record v h);
    midpoints = λ v h l e. no_midpoint v h l;
    roots = opened_parent;
    children = λ r h l e. no_child r h l;
  }

  opened_conforming : Conforming (opened_mesh F E) (length F / 3)
  opened_conforming = record { leaf = λ q v h c i l f s. no_midpoint v i l }

  opened_grown : Afresh (opened_mesh F E) (length F / 3) E.count → Grown (opened_mesh F E) (length F / 3) E.count
  opened_grown a = record {
    parted = opened_parted;
    afresh = a;
    child = λ r h l. absurd (no_child r h l);
    parent = λ q h s. absurd (s (opened_leaf q (omega (arith, opened_rows))));
    midpoint = λ v h l. absurd (no_midpoint v h l);
  }

  -- ---- what opening again is given

  abbrev reopened : Cells
  reopened = again (largest (colours E (length F / 3))) (shade E (length F / 3)) E

  given_points_lem : length F % 3 ≡ 0 → given_points (opened_mesh F E) (length F / 3) ≡ F
  unfolding opened_mesh
  given_points_lem h = rw (take_up_to (point_at F) (length F / 3)) (points_again F h)

  given_elements_lem : root_cells (opened_mesh F E) E.count ≡ reopened
  unfolding opened_mesh
  given_elements_lem = ap (λ (l : List Row). elements_of l E.count) (take_up_to (root_among (length F / 3) E) E.count)

  records_whole : take (length F / 3) (opened_mesh F E).records ≡ (opened_mesh F E).records
  unfolding opened_mesh
  records_whole = take_up_to _ (length F / 3)

  rows_whole : take E.count (opened_mesh F E).rows ≡ (opened_mesh F E).rows
  unfolding opened_mesh
  rows_whole = take_up_to _ E.count

  rows_childless : map childless (opened_mesh F E).rows ≡ (opened_mesh F E).rows
  unfolding opened_mesh root_of
  rows_childless = map_up_to _ E.count no_row childless (λ k h. refl)

-- ---- opening again

module _ (F : List Float) (E : Cells) (whole : length F % 3 ≡ 0) (some : 1 ≤ E.count) (t : Tested F E) where
  pub proper : Proper (shade E (length F / 3)) E
  proper = named_proper (tested_named t)

  order : Reordered E (reopened F E)
  order = again_reordered proper (largest (colours E (length F / 3)))

  differ : Proper (shade E (length F / 3)) (reopened F E)
  differ = again_proper proper (largest (colours E (length F / 3)))

  opened_afresh : Afresh (opened_mesh F E) (length F / 3) E.count
  opened_afresh = record {
    some = some;
    opens = rw (given_points_lem F E whole, given_elements_lem F E) (tested_passes F (reopened F E) (tested_reordered t order (proper_single differ)));
    colours = rw (given_points_lem F E whole, given_elements_lem F E, records_whole F E) (records_reordered t order);
    rows = rw (given_points_lem F E whole, given_elements_lem F E, rows_whole F E, rows_childless F E) (rows_reordered t order differ);
  }

-- ---- the tests passed

module _ (F : List Float) (E : List ℕ) (lp lv lr : ℕ) (t : Allowed F E lp lv lr) where
  lengths : Measured (length F) (length E)
  lengths = measured (length F) (length E) t.input

  pub some_element : 1 ≤ length E / 4
  some_element = omega (arith, lengths.quarters, lengths.some)

  room : Roomed (length F / 3) (length E / 4) lp lv lr
  room = roomed (length F / 3) (length E / 4) lp lv lr t.lent t.room

  -- ---- the tables have room, so what the mesh has is what they hold

  pub within : Within (opened_mesh F (quads E)) lp lv lr
  within =
      let r = roomy_passed (length F) (length E) lp lv lr t.input t.room in
      omega (arith, r.points_fit, r.records_fit, r.rows_fit, opened_points_length F (quads E), opened_vertices F (quads E), opened_rows F (quads E))

  counting : Counting (opened_mesh F (quads E)) (started (length F / 3) (length E / 4))
  counting = record { vertices = sym (opened_points_length F (quads E)); rows = sym (opened_rows F (quads E)) }

  -- and the mesh that the tables hold is the opened one
  pub opened_mesh_lem : mesh_of (laid (opened_mesh F (quads E)) lp lv lr) (started (length F / 3) (length E / 4)) ≡ opened_mesh F (quads E)
  opened_mesh_lem = mesh_laid (opened_mesh F (quads E)) lp lv lr within counting

  tested_sound : Sound (laid (opened_mesh F (quads E)) lp lv lr) (started (length F / 3) (length E / 4))
  tested_sound =
      laid_sound (opened_mesh F (quads E)) lp lv lr within counting
      (rw (opened_points_length F (quads E), opened_rows F (quads E)) room)
      (omega (arith, opened_rows F (quads E), some_element))
      (length F / 3) (length E / 4) (opened_grown F (quads E) (opened_afresh F (quads E) lengths.thirds some_element t.tests)) (opened_conforming F (quads E))

pub opened_sound : (F : List Float) (E : List ℕ) (lp lv lr : ℕ) → judged F E lp lv lr ≡ Ok tt → Sound (laid (opened_mesh F (quads E)) lp lv lr) (started (length F / 3) (length E / 4))
opened_sound F E lp lv lr h = tested_sound F E lp lv lr (allowed F E lp lv lr h)
