-- Clause 3 is what a whole call of opening says (01, "Sound tables"): of tests 1 and 2 only that there is a root does not follow from clauses 1 and 2.
use mathlib.Core.Path.{◌≡◌, refl, ◌∙◌}
use mathlib.Core.Bool.{false}
use mathlib.Core.List.{List}
use mathlib.Core.Logic.{◌↔◌}
use Prim.Native.Nat.{ℕ, ◌+◌, ◌*◌, ◌/◌, ◌%◌, ◌≤◌, ◌<◌}
use native.Mathlib.Omega.{arith}
use borrow.Author.Tests.{eq-eqb, ne_eqb, le-ltb}
use lib.ListN.{length, get_or, take}
use lib.Seq.{length-take-le}
use lib.Ieee.{Float}
use Rattle.split.specs.Split.{at}
use Rattle.split.specs.Row.{corners_of}
use Rattle.tables.specs.declared.layout.Counts.{Counts}
use Rattle.tables.specs.Layout.{no_row, point_width, record_width, row_width, point_cells, room_of, most_rows, most_vertices}
use Rattle.tables.specs.Mesh.{Lent, Mesh, mesh_of}
use Rattle.tables.proofs.laws.View.{length_flat, mesh_points}
use Rattle.intake.specs.Cells.{quads}
use Rattle.intake.specs.Causes.{wrong_input, wrong_lent, has_no_room}
use Rattle.sound.specs.Sound.{given_points, root_cells, Afresh, Sound}
use Rattle.sound.specs.Whole.{vertex_cells, given_elements, OpensAfresh, Moderate}
use Rattle.sound.proofs.laws.Searches.{each_of_four}
use Rattle.sound.proofs.laws.Flat.{flat_at}
use Rattle.sound.proofs.laws.Tested.{allowed, allowed_passes, measured, tested, tested_passes}
use Rattle.sound.proofs.laws.Views.{Views, views_back, views_tested, views_records, views_rows}
use Rattle.sound.proofs.laws.Laid.{mesh_rows, mesh_vertices}

-- ---- tests 1 and 2, in tables that just hold the input

module _ (vertices elements : ℕ) (v : vertices ≤ most_vertices) (e : elements ≤ most_rows) where
  input_exact : (f g : ℕ) → f ≡ 3 * vertices → g ≡ 4 * elements → 1 ≤ elements → wrong_input f g ≡ false
  unfolding wrong_input
  input_exact f g a b h = rw (eq-eqb (f % 3) 0 (omega arith), eq-eqb (g % 4) 0 (omega arith), ne_eqb g 0 (λ z. omega arith), le-ltb (point_width * most_vertices) f (omega arith), le-ltb (4 * most_rows) g (omega arith))

  lent_exact : wrong_lent (point_width * vertices) (record_width * vertices) (row_width * elements) ≡ false
  unfolding wrong_lent
  lent_exact = rw (eq-eqb ((point_width * vertices) % point_width) 0 (omega arith), eq-eqb ((record_width * vertices) % record_width) 0 (omega arith), eq-eqb ((row_width * elements) % row_width) 0 (omega arith))

  room_exact : (f g : ℕ) → f ≡ vertices → g ≡ elements → has_no_room f g (point_width * vertices) (record_width * vertices) (row_width * elements) ≡ false
  unfolding has_no_room room_of
  room_exact f g a b = rw (a, b, le-ltb (room_of (point_width * vertices) (record_width * vertices) (row_width * elements)).vertices vertices (omega arith), le-ltb (room_of (point_width * vertices) (record_width * vertices) (row_width * elements)).rows elements (omega arith))

-- ---- both views of the roots

module _ {m : Mesh} {i t : ℕ} (x : Moderate m i t) where
  abbrev F : List Float
  F = given_points m i

  abbrev E : List ℕ
  E = given_elements m t

  points_long : length F ≡ 3 * i
  points_long = let n = length_flat point_cells 3 (λ p. refl) (take i m.points) in omega (arith, n, length-take-le i m.points x.points_in)

  elements_long : length E ≡ 4 * t
  elements_long = let n = length_flat vertex_cells 4 (λ r. refl) (take t m.rows) in omega (arith, n, length-take-le t m.rows x.rows_in)

  root_read : (k q : ℕ) → k < t → q < 4 → get_or E (4 * k + q) 0 ≡ at (corners_of (get_or (take t m.rows) k no_row)) q
  root_read k q h l =
      flat_at vertex_cells 4 (λ r. refl) (take t m.rows) k q no_row 0 (omega (arith, length-take-le t m.rows x.rows_in)) l
      ∙ each_of_four (λ q. get_or (vertex_cells (get_or (take t m.rows) k no_row)) q 0 ≡ at (corners_of (get_or (take t m.rows) k no_row)) q) refl refl refl refl q l

  both : Views (quads E) (root_cells m t)
  both = record { long = omega (arith, elements_long); same = λ k q h l. root_read k q (omega (arith, elements_long)) l }

  pub afresh_whole : Afresh m i t ↔ OpensAfresh m i t
  afresh_whole = (λ a. to a, λ o. from o)
    where
      to : Afresh m i t → OpensAfresh m i t
      to a =
          let s = tested F (root_cells m t) a.opens in
          record {
            opens = allowed_passes F E _ _ _ (record {
              input = input_exact i t x.few_vertices x.few_rows (length F) (length E) points_long elements_long a.some;
              lent = lent_exact i t x.few_vertices x.few_rows;
              room = room_exact i t x.few_vertices x.few_rows (length F / 3) (length E / 4) (omega (arith, points_long)) (omega (arith, elements_long));
              tests = views_tested (views_back both) s;
            });
            colours = views_records (views_back both) s ∙ a.colours;
            rows = views_rows (views_back both) s ∙ a.rows;
          }

      from : OpensAfresh m i t → Afresh m i t
      from o =
          let w = allowed F E _ _ _ o.opens in
          record {
            some = omega (arith, (measured (length F) (length E) w.input).some, elements_long);
            opens = tested_passes F (root_cells m t) (views_tested both w.tests);
            colours = views_records both w.tests ∙ o.colours;
            rows = views_rows both w.tests ∙ o.rows;
          }

-- of sound tables a whole call of opening says it
pub sound_opens : {t : Lent} {c : Counts} (s : Sound t c) → OpensAfresh (mesh_of t c) s.initials s.roots
unfolding room_of
sound_opens {t} {c} s =
    let p = s.grown.parted in
    let x : Moderate (mesh_of t c) s.initials s.roots = record {
      few_vertices = omega (arith, p.vertices_in, mesh_vertices t c, s.fitting.vertices_fit);
      few_rows = omega (arith, p.rows_in, mesh_rows t c, s.fitting.rows_fit);
      points_in = omega (arith, p.vertices_in, mesh_vertices t c, mesh_points t c);
      rows_in = p.rows_in;
    } in
    (afresh_whole x).0 s.grown.afresh
