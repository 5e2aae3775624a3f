-- Clause 3: what comparing the first rows with the tables decides.
use mathlib.Core.Path.{◌≡◌, refl, sym, ap, ◌∙◌}
use mathlib.Core.Bool.{Bool, true, ◌&&◌, true≢false}
use mathlib.Core.List.{List, map}
use Prim.Native.Nat.{ℕ, ◌+◌, ◌*◌, ◌/◌, ◌≤◌, ◌<◌}
use native.Mathlib.Nat.{add-zero}
use native.Mathlib.Omega.{arith}
use borrow.Author.Tests.{lt-ltb}
use lib.ListN.{length, get_or, take}
use lib.Seq.{length-take-le}
use lib.Ieee.{Float}
use Rattle.split.specs.declared.row.Row.{Row}
use Rattle.split.specs.Split.{at}
use Rattle.split.specs.Row.{corners_of, same_row}
use Rattle.split.proofs.laws.Tests.{both}
use Rattle.split.proofs.laws.Same.{leaf_childless, row_same, same_row_lem}
use Rattle.tables.specs.declared.layout.Counts.{Counts}
use Rattle.tables.specs.Layout.{no_row, point_at, record_at, row_at, row_from, room_of, most_rows, most_vertices, point_width}
use Rattle.tables.specs.Mesh.{Mesh, mesh_of, up_to}
use Rattle.tables.proofs.laws.View.{up_to_at, flat_up_to}
use Rattle.tables.proofs.laws.Rows.{points}
use Rattle.std.proofs.Common.{Ok}
use Rattle.intake.specs.Cells.{Cells, grid_of, cells}
use Rattle.intake.specs.Verdict.{plain}
use Rattle.opening.specs.Colours.{colours, largest}
use Rattle.opening.specs.Order.{root_of}
use Rattle.opening.specs.Opening.{late, initial, opened_mesh}
use Rattle.opening.specs.Agree.{paint, agreed, workable}
use Rattle.opening.proofs.laws.Agree.{Workable, workable_means, means_workable, agreed_means, means_agreed}
use Rattle.sound.specs.Sound.{childless, given_points, root_cells, Afresh, Fitting}
use Rattle.sound.specs.Check.{Decides, lent}
use Rattle.sound.proofs.laws.Flat.{up_to_same, up_to_front, up_to_map, up_to_each}
use Rattle.sound.proofs.laws.Searches.{each_of_four}
use Rattle.sound.proofs.laws.Tested.{tested, tested_passes}
use Rattle.sound.proofs.laws.Views.{Views, views_back, views_tested, views_records, views_rows}
use Rattle.shape.proofs.laws.Fitted.{fitting_points, fitting_inside}

-- ---- the comparison

root_leaf : (N : ℕ) (f : ℕ → ℕ) (E : Cells) (k : ℕ) → (root_of N f E k).child ≡ 0
unfolding root_of
root_leaf N f E k = refl

-- a root has no child: it is a row but for its child exactly if the two are the same in the rest
module _ (a b : Row) (leaf : b.child ≡ 0) where
  root_row : same_row a b ≡ true → b ≡ childless a
  root_row s = sym (row_same a b s ∙ leaf_childless b leaf)

  row_root : b ≡ childless a → same_row a b ≡ true
  row_root e = same_row_lem a b (sym (leaf_childless b leaf ∙ e))

module _ (F : List Float) (E : Cells) (R W : List ℕ) where
  -- opening F and E passes tests 3 to 8, and gives the colours and, but for the first child, the rows that stand in front of the tables
  record Alike : Type 0 where
    opens : plain F E (late E (length F / 3)) ≡ Ok tt
    colours : (opened_mesh F E).records ≡ up_to (record_at R) (length F / 3)
    rows : (opened_mesh F E).rows ≡ map childless (up_to (row_at W) E.count)

  -- the row that opening makes of element k
  abbrev made : ℕ → Row
  made = root_of (largest (colours E (length F / 3))) (paint F E) E

  agreed_alike : agreed F E R W ≡ true → Alike
  unfolding opened_mesh
  agreed_alike e =
      let (a, b, d) = agreed_means F E R W e in
      record {
        opens = a;
        colours = up_to_same (record_at R) (length F / 3) (record_at R 0) (λ v. initial (paint F E v)) (λ v h. sym (b v h));
        rows =
            up_to_same (λ k. childless (row_at W k)) E.count (row_at W 0) made (λ k h. root_row (row_at W k) (made k) (root_leaf _ _ E k) (d k h))
            ∙ sym (up_to_map (row_at W) childless E.count);
      }

  alike_agreed : Alike → agreed F E R W ≡ true
  unfolding opened_mesh
  alike_agreed s =
      means_agreed F E R W s.opens
      (λ v h. sym (up_to_each (record_at R) (λ v. initial (paint F E v)) (length F / 3) s.colours v h))
      (λ k h. row_root (row_at W k) (made k) (root_leaf _ _ E k) (up_to_each (λ k. childless (row_at W k)) made E.count (s.rows ∙ up_to_map (row_at W) childless E.count) k h))

views_alike : {E E' : Cells} → Views E E' → (F : List Float) (R W : List ℕ) → Alike F E R W → Alike F E' R W
views_alike {E} {E'} x F R W s =
    let t = tested F E s.opens in
    record {
      opens = tested_passes F E' (views_tested x t);
      colours = views_records x t ∙ s.colours;
      rows = views_rows x t ∙ s.rows ∙ ap (λ (n : ℕ). map childless (up_to (row_at W) n)) x.long;
    }

-- F and E are the first i points and the first t rows
module _ {P : List Float} {R W : List ℕ} {c : Counts} (fit : Fitting (lent P R W) c) {i t : ℕ} (few : (i ≤ c.vertices) × (t ≤ c.rows)) where
  abbrev m : Mesh
  m = mesh_of (lent P R W) c

  -- the parts that are handed on are within their tables
  pub points_within : 3 * i ≤ length P
  points_within = omega (arith, fitting_points fit, few.0)

  pub points_few : 3 * i ≤ point_width * most_vertices
  points_few = omega (arith, (fitting_inside fit).few_vertices, few.0)

  rows_few : t ≤ most_rows
  rows_few = omega (arith, (fitting_inside fit).few_rows, few.1)

  points_given : given_points m i ≡ take (3 * i) P
  unfolding mesh_of
  points_given = rw (up_to_front (point_at P) i c.vertices few.0) (flat_up_to points P i points_within)

  rows_given : take t m.rows ≡ up_to (row_at W) t
  unfolding mesh_of
  rows_given = up_to_front (row_at W) t c.rows few.1

  colours_given : take i m.records ≡ up_to (record_at R) i
  unfolding mesh_of
  colours_given = up_to_front (record_at R) i c.vertices few.0

  -- the table read by rows has what the rows have
  row_is : (k : ℕ) → k < t → row_at W k ≡ row_from W (8 * k)
  unfolding row_at room_of
  row_is k h = rw (lt-ltb k (length W / 8) (omega (arith, fit.rows_fit, few.1)))

  row_there : (k : ℕ) → k < t → get_or (take t m.rows) k no_row ≡ row_from W (8 * k)
  row_there k h = ap (λ (l : List Row). get_or l k no_row) rows_given ∙ up_to_at (row_at W) t k no_row h ∙ row_is k h

  read_there : Views (cells W (grid_of true t)) (root_cells m t)
  read_there = record { long = refl; same = λ k q h l. sym (ap (λ (r : Row). at (corners_of r) q) (row_there k h) ∙ each_of_four (λ q. at (corners_of (row_from W (8 * k))) q ≡ get_or W (8 * k + q) 0) (rw add-zero) refl refl refl q l) }

  -- so is the answer of `agrees`, in memory for the index
  module _ (S : List ℕ) (room : most_vertices + 4 * t ≤ length S) {b : Bool} (e : b ≡ (workable (length (take (3 * i) P)) t (length (take (most_vertices + 4 * t) S)) && agreed (take (3 * i) P) (cells W (grid_of true t)) R W)) where
    abbrev F : List Float
    F = take (3 * i) P

    abbrev memory : ℕ
    memory = length (take (most_vertices + 4 * t) S)

    enough : most_vertices + 4 * t ≤ memory
    enough = rw (length-take-le (most_vertices + 4 * t) S room) (omega arith)

    fs : given_points m i ≡ F
    fs = points_given

    long : length F ≡ 3 * i
    long = length-take-le (3 * i) P points_within

    vertices : length F / 3 ≡ i
    vertices = omega (arith, long)

    abbrev C : Cells
    C = cells W (grid_of true t)

    to : Workable (length F) t memory → Alike F (root_cells m t) R W → Afresh m i t
    to w s = record {
      some = w.some;
      opens = rw fs s.opens;
      colours = rw (fs, colours_given) (rw vertices at s.colours);
      rows = rw fs s.rows ∙ ap (map childless) (sym rows_given);
    }

    from : Afresh m i t → Alike F (root_cells m t) R W
    from a = record {
      opens = rw fs at a.opens;
      colours = rw vertices (rw (fs, colours_given) at a.colours);
      rows = rw fs at a.rows ∙ ap (map childless) rows_given;
    }

    works : Afresh m i t → Workable (length F) t memory
    works a = record { moderate = record { few_coordinates = omega (arith, long, points_few); few_elements = rows_few }; some = a.some; room = enough }

    pub decides_afresh : Decides (Afresh m i t) b
    decides_afresh = record {
      yes = λ y. let (w, s) = both _ _ (sym e ∙ y) in to (workable_means (length F) t memory w) (views_alike read_there F R W (agreed_alike F C R W s));
      no = λ n a. true≢false (sym (rw (means_workable (length F) t memory (works a)) (alike_agreed F C R W (views_alike (views_back read_there) F R W (from a)))) ∙ sym e ∙ n);
    }
