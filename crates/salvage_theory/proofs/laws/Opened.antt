-- The rebuild starts from the mesh that opening gives: it is sound, nothing of it is split, and its roots are those of the damaged tables (02, L13: "an opened mesh").
use mathlib.Core.Path.{◌≡◌, refl, sym, ap, ◌∙◌}
use mathlib.Core.List.{List, [], ◌∷◌, map}
use Prim.Native.Nat.{ℕ, ◌/◌, ◌≤◌, ◌<◌}
use native.Mathlib.Omega.{arith}
use lib.ListN.{length, take, length-map, get_or-map}
use lib.Seq.{length-take-le, get_or-take, take-take, take_all}
use Rattle.split.specs.declared.row.Row.{Row}
use Rattle.tables.specs.Layout.{point_cells, no_row, no_record}
use Rattle.tables.specs.Mesh.{Mesh}
use Rattle.tables.proofs.laws.View.{length_up_to, length_flat}
use Rattle.forest.specs.Element.{Element}
use Rattle.opening.specs.Opening.{opened_mesh}
use Rattle.sound.specs.Sound.{vertices, rows, record_of, row_of, childless, Parted, given_points, root_cells, Afresh, Grown}
use Rattle.sound.specs.Forest.{forest_of, SplitOf}
use Rattle.sound.proofs.laws.Front.{forest_same, afresh_same}
use Rattle.run.specs.Skeleton.{skeleton, meshed}
use Rattle.run.specs.Ready.{Ready}
use Rattle.run.proofs.laws.Points.{points_own}
use Rattle.salvage_theory.specs.Kept.{Intact}
use Rattle.salvage_theory.specs.Rebuild.{opened, initials}

map_twice : (l : List Row) → map childless (map childless l) ≡ map childless l
map_twice [] = refl
map_twice (r ∷ l) = rw (map_twice l)

module _ {m : Mesh} {i t : ℕ} (n : Intact m i t) where
  abbrev base : Mesh
  base = meshed (initials m i) (opened m i t)

  -- it is what opening gives (02, L13: "an opened mesh")
  pub opened_is : opened m i t ≡ skeleton (opened_mesh (given_points m i) (root_cells m t))
  opened_is = λ j. record { records = sym n.afresh.colours j; rows = sym n.afresh.rows j }

  opened_records : length (take i m.records) ≡ i
  opened_records = length-take-le i m.records n.vertices_in

  pub opened_rows : length (map childless (take t m.rows)) ≡ t
  opened_rows = length-map (take t m.rows) childless ∙ length-take-le t m.rows n.rows_in

  opened_points : length (initials m i) ≡ i
  unfolding opened_mesh
  opened_points =
      let size = length_flat point_cells 3 (λ p. refl) (initials m i) in
      let count : length (given_points m i) / 3 ≡ i = sym (length_up_to _ (length (given_points m i) / 3)) ∙ ap length n.afresh.colours ∙ opened_records in
      omega (arith, size, count)

  -- its records, rows and points by number
  pub opened_record : (v : ℕ) → v < i → record_of base v ≡ record_of m v
  opened_record v h = get_or-take i m.records v no_record h

  pub opened_row : (k : ℕ) → k < t → row_of base k ≡ childless (row_of m k)
  opened_row k h = get_or-map childless (take t m.rows) k no_row ∙ ap childless (get_or-take t m.rows k no_row h)

  points_are : base.points ≡ initials m i
  points_are = points_own (initials m i) (opened m i t) (opened_points ∙ sym opened_records)

  -- nothing comes after the initial vertices and the roots
  no_midpoint : (v : ℕ) → i ≤ v → v < vertices base → ⊥
  no_midpoint v h l = omega (arith, opened_records)

  no_child : (r : ℕ) → t ≤ r → r < rows base → ⊥
  no_child r h l = omega (arith, opened_rows)

  pub opened_leaf : (k : ℕ) → k < rows base → (row_of base k).child ≡ 0
  opened_leaf k h = ap (λ (r : Row). r.child) (opened_row k (omega (arith, opened_rows)))

  rows_again : map childless (take t (map childless (take t m.rows))) ≡ map childless (take t m.rows)
  rows_again = rw (take_all t (map childless (take t m.rows)) (omega (arith, opened_rows))) (map_twice (take t m.rows))

  opened_afresh : Afresh base i t
  opened_afresh = afresh_same (rw points_are (take-take i i m.points (omega arith))) (take-take i i m.records (omega arith)) rows_again n.afresh

  opened_parted : Parted base i t
  opened_parted = record {
    vertices_in = omega (arith, opened_records);
    rows_in = omega (arith, opened_rows);
    initial = λ v h. rw (opened_record v h) (n.initial v h);
    midpoints = λ v h l e. no_midpoint v h l;
    roots = λ r h. rw (opened_row r h) (n.roots r h);
    children = λ r h l e. no_child r h l;
  }

  pub opened_grown : Grown base i t
  opened_grown = record {
    parted = opened_parted;
    afresh = opened_afresh;
    child = λ r h l. absurd (no_child r h l);
    parent = λ q h s. absurd (s (opened_leaf q h));
    midpoint = λ v h l. absurd (no_midpoint v h l);
  }

  pub opened_ready : Ready (initials m i) i t (opened m i t)
  opened_ready = record { based = omega (arith, opened_points, opened_records); grown = opened_grown; conforming = record { leaf = λ q v h c k l f s. no_midpoint v k l } }

  -- nothing is split
  pub opened_whole : (e : Element) → SplitOf base t e → ⊥
  opened_whole e s = s.split (opened_leaf s.row s.there)

  -- the roots are those of the damaged tables
  pub opened_forest : forest_of base t ≡ forest_of m t
  opened_forest = forest_same m base t rows_again
