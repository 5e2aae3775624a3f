-- What stays when leaves are split: old rows but for their first children, names of vertices, elements of rows.
use mathlib.Core.Path.{◌≡◌, refl, sym, ◌∙◌}
use mathlib.Core.Logic.{inl, inr}
use Prim.Native.Nat.{ℕ, zero, suc, ◌≤◌, ◌<◌}
use native.Mathlib.Omega.{arith}
use Rattle.split.proofs.laws.Places.{le_or_lt}
use Rattle.tables.specs.Mesh.{Mesh}
use Rattle.sound.specs.Sound.{vertices, rows, record_of, row_of, childless, Grown}
use Rattle.sound.specs.Forest.{forest_of, colour_in, largest_in, name_of, element_of}
use Rattle.sound.proofs.laws.Front.{forest_same, colour_same, largest_same}
use Rattle.sound.proofs.laws.Names.{name_initial, name_midpoint}
use Rattle.sound.proofs.laws.Elements.{root_element, child_element}
use Rattle.sound.proofs.laws.Offspring.{place_apart}
use Rattle.run.proofs.laws.Cuts.{Cuts, row_kept, split_kept, parent_kept, cut_grown}

pub record Grows (m m' : Mesh) (i t : ℕ) : Type 0 where
  pub more_rows : rows m ≤ rows m'
  pub more_vertices : vertices m ≤ vertices m'
  pub row : (r : ℕ) → r < rows m → childless (row_of m' r) ≡ childless (row_of m r)
  pub split : (r : ℕ) → r < rows m → ((row_of m r).child ≡ 0 → ⊥) → row_of m' r ≡ row_of m r
  pub record_old : (u : ℕ) → u < vertices m → record_of m' u ≡ record_of m u
  pub forest : forest_of m' t ≡ forest_of m t
  pub colour : colour_in m' i ≡ colour_in m i
  pub largest : largest_in m' i ≡ largest_in m i
  pub name : (u : ℕ) → u < vertices m → name_of m' i u ≡ name_of m i u
  pub element : (r : ℕ) → r < rows m → element_of m' t r ≡ element_of m t r

pub grows_same : (m : Mesh) (i t : ℕ) → Grows m m i t
grows_same m i t = record {
  more_rows = omega arith;
  more_vertices = omega arith;
  row = λ r h. refl;
  split = λ r h d. refl;
  record_old = λ u h. refl;
  forest = refl;
  colour = refl;
  largest = refl;
  name = λ u h. refl;
  element = λ r h. refl;
}

pub grows_on : {m m₁ m₂ : Mesh} {i t : ℕ} → Grows m m₁ i t → Grows m₁ m₂ i t → Grows m m₂ i t
grows_on {m} {m₁} {m₂} {i} {t} a b = record {
  more_rows = omega (arith, a.more_rows, b.more_rows);
  more_vertices = omega (arith, a.more_vertices, b.more_vertices);
  row = λ r h. b.row r (rise r h) ∙ a.row r h;
  split = λ r h d. let e = a.split r h d in b.split r (rise r h) (rw e d) ∙ e;
  record_old = λ u h. b.record_old u (climb u h) ∙ a.record_old u h;
  forest = b.forest ∙ a.forest;
  colour = b.colour ∙ a.colour;
  largest = b.largest ∙ a.largest;
  name = λ u h. b.name u (climb u h) ∙ a.name u h;
  element = λ r h. b.element r (rise r h) ∙ a.element r h;
}
  where
    rise : (r : ℕ) → r < rows m → r < rows m₁
    rise r h = omega (arith, a.more_rows)

    climb : (u : ℕ) → u < vertices m → u < vertices m₁
    climb u h = omega (arith, a.more_vertices)

-- ---- one leaf split

module _ {m m' : Mesh} {i t s v : ℕ} (g : Grown m i t) (c : Cuts m m' i t s v) where
  after : Grown m' i t
  after = cut_grown g c

  colour_kept : colour_in m' i ≡ colour_in m i
  colour_kept = colour_same m m' i c.records_kept

  largest_kept : largest_in m' i ≡ largest_in m i
  largest_kept = largest_same m m' i c.records_kept

  names_kept : (n u : ℕ) → u < n → u < vertices m → name_of m' i u ≡ name_of m i u
  names_kept zero u h l = absurd (omega arith)
  names_kept (suc n) u h l = elim (le_or_lt i u) [
    | inr k ↦ name_initial m' i u k ∙ sym (name_initial m i u k)
    | inl k ↦ let w = g.midpoint u k l in
        name_midpoint after u k (omega (arith, c.vertices_kept))
        ∙ rw (largest_kept, colour_kept, c.record_old u l, names_kept n (record_of m u).first (omega arith) (omega arith), names_kept n (record_of m u).second (omega arith) (omega arith)) (sym (name_midpoint g u k l))
  ]

  elements_kept : (n r : ℕ) → r < n → r < rows m → element_of m' t r ≡ element_of m t r
  elements_kept zero r h l = absurd (omega arith)
  elements_kept (suc n) r h l = elim (le_or_lt t r) [
    | inr k ↦ root_element m' t r k ∙ sym (root_element m t r k)
    | inl k ↦ let w = g.child r k l in
        let l' : r < rows m' = omega (arith, c.rows.more) in
        let w' = after.child r k l' in
        let up = parent_kept g c r l in
        let held = split_kept g c (row_of m r).parent (omega (arith, w.older)) w.split in
        let side : w'.side ≡ w.side = place_apart w'.side w.side (row_of m (row_of m r).parent).child (rw (up, held) at (sym w'.here) ∙ w.here) in
        child_element after r k l' ∙ rw (side, up, elements_kept n (row_of m r).parent (omega (arith, w.older)) (omega (arith, w.older))) (sym (child_element g r k l))
  ]

  pub cut_grows : Grows m m' i t
  cut_grows = record {
    more_rows = omega (arith, c.rows.more);
    more_vertices = c.vertices_kept;
    row = row_kept g c;
    split = split_kept g c;
    record_old = c.record_old;
    forest = forest_same m m' t c.rows.kept;
    colour = colour_kept;
    largest = largest_kept;
    name = λ u h. names_kept (vertices m) u h h;
    element = λ r h. elements_kept (rows m) r h h;
  }
