-- The split elements of conforming tables are a closed set (demand 3), and so are all elements of depth below a multiple of three (02, L9).
use mathlib.Core.Path.{◌≡◌, refl, sym, ap, ◌∙◌}
use mathlib.Core.List.{List, [], ◌∷◌}
use mathlib.Core.Logic.{inl, inr}
use Prim.Native.Nat.{ℕ, ◌*◌, ◌<◌}
use native.Mathlib.Decide.{ℕ_discrete}
use native.Mathlib.Omega.{arith}
use Rattle.split.specs.Split.{number, far, Side, Holds}
use Rattle.split.specs.Row.{corners_of, tag_of, edge_of}
use Rattle.split.proofs.laws.Places.{le_or_lt}
use Rattle.split.proofs.laws.Tags.{tag_range}
use Rattle.split.proofs.laws.Children.{far_at}
use Rattle.tables.specs.Mesh.{Mesh}
use Rattle.forest.specs.Element.{Element, el, shape, HoldsEdge}
use Rattle.forest.specs.Closed.{Present, Leaf, ClosedAsDemanded, Closed}
use Rattle.forest.specs.Shallow.{DepthBelow}
use Rattle.forest.proofs.Theory.{threes_closed}
use Rattle.sound.specs.Sound.{vertices, rows, row_of, place, Grown, Conforming}
use Rattle.sound.specs.Forest.{forest_of, colour_in, largest_in, name_of, grown, element_of, SplitOf}
use Rattle.sound.proofs.laws.Afresh.{coloured}
use Rattle.sound.proofs.laws.Names.{one_vertex}
use Rattle.sound.proofs.laws.Elements.{grown_parent, root_element, child_element, one_row}
use Rattle.sound.proofs.laws.Placed.{Placed, placed_at, placed_near, placed_away, placed}
use Rattle.sound.proofs.laws.Leaves.{leaf_misses}
use Rattle.sound.proofs.laws.Offspring.{place_below, place_element, split_midpoint}

-- e is the element of a row, split or not
pub record RowFor (m : Mesh) (t : ℕ) (e : Element) : Type 0 where
  pub row : ℕ
  pub there : row < rows m
  pub is : element_of m t row ≡ e

pub present_grown : (m : Mesh) (t : ℕ) (s : Side) (e : Element) → SplitOf m t e → Present (forest_of m t) (SplitOf m t) (grown s e)
present_grown m t s (el k p) w = w

module _ {m : Mesh} {i t : ℕ} (g : Grown m i t) where
  -- the parent of a split row is split
  pub split_parent : (k : ℕ) (s : Side) (p : List Side) → SplitOf m t (el k (s ∷ p)) → SplitOf m t (el k p)
  split_parent k s p w = elim (le_or_lt t w.row) [
    | inl h ↦ let c = g.child w.row h w.there in
        record {
          row = (row_of m w.row).parent;
          there = omega (arith, c.older, w.there);
          split = c.split;
          is = grown_parent c.side s _ k p (sym (child_element g w.row h w.there) ∙ w.is);
        }
    | inr h ↦ let z : ◌≡◌ {A = ℕ} 0 1 = cc (root_element m t w.row h, w.is) in absurd (omega arith)
  ]

  -- every element of the mesh is a row's
  pub present_row : (e : Element) → Present (forest_of m t) (SplitOf m t) e → RowFor m t e
  present_row (el k []) h = record { row = k; there = omega (arith, g.parted.rows_in); is = root_element m t k h }
  present_row (el k (s ∷ p)) w = record {
    row = place s (row_of m w.row).child;
    there = (place_below g w.row w.there w.split s).there;
    is = place_element g w.row w.there w.split s ∙ ap (grown s) w.is;
  }

  -- and every row's element is of the mesh
  pub row_present : (r : ℕ) → r < rows m → Present (forest_of m t) (SplitOf m t) (element_of m t r)
  row_present r l = elim (le_or_lt t r) [
    | inl h ↦ let c = g.child r h l in rw (child_element g r h l) (present_grown m t c.side (element_of m t (row_of m r).parent) (record { row = (row_of m r).parent; there = omega (arith, c.older); split = c.split; is = refl }))
    | inr h ↦ rw (root_element m t r h) h
  ]

  -- a row whose element is split has children, and a row without is a leaf of the forest
  pub split_row : (r : ℕ) → r < rows m → SplitOf m t (element_of m t r) → (row_of m r).child ≡ 0 → ⊥
  split_row r l w leaf = w.split (rw (one_row g w.row r w.there l w.is) leaf)

  pub leaf_row : (r : ℕ) → r < rows m → (row_of m r).child ≡ 0 → Leaf (forest_of m t) (SplitOf m t) (element_of m t r)
  leaf_row r l leaf = record { present = row_present r l; unsplit = λ w. split_row r l w leaf }

  -- a row holds the vertices whose names its element has
  held_vertex : {r : ℕ} → Placed m i t r → (v : ℕ) → v < vertices m → Holds 3 (shape (forest_of m t) (element_of m t r)).corners (name_of m i v) → Holds 3 (corners_of (row_of m r)) v
  held_vertex {r} p v l h = record {
    place = h.place;
    inside = h.inside;
    is = one_vertex g _ v (p.held h.place h.inside) l (sym (placed_at p h.place) ∙ h.is);
  }

  module _ (f : Conforming m i) where
    -- a row that holds both ends of a split row's edge is no leaf
    edge_split : (r q : ℕ) → r < rows m → q < rows m → ((row_of m q).child ≡ 0 → ⊥) → HoldsEdge (forest_of m t) (element_of m t r) (element_of m t q) → (row_of m r).child ≡ 0 → ⊥
    unfolding edge_of
    edge_split r q hr hq split h leaf =
        let a = placed g r hr in
        let b = placed g q hq in
        let tag = tag_of (row_of m q) in
        let tip = far_at (corners_of (row_of m q)) tag in
        let (v, w) = split_midpoint g q hq split in
        leaf_misses f r v (row_of m q).v0 (far tag (corners_of (row_of m q))) hr leaf w
        (held_vertex a (row_of m q).v0 (b.held 0 (omega arith)) (rw (placed_near b) at h.near))
        (held_vertex a (far tag (corners_of (row_of m q))) (rw (← tip) (b.held (number tag) (tag_range tag).1)) (rw (placed_away b) at h.away))

    pub splits_closed : Closed (forest_of m t) (SplitOf m t)
    splits_closed = record { parents = split_parent; edges = λ e u p s h. held e u (present_row e p) s h }
      where
        held : (e u : Element) → RowFor m t e → SplitOf m t u → HoldsEdge (forest_of m t) e u → SplitOf m t e
        held e u r s h = elim (ℕ_discrete (row_of m r.row).child 0) [
          | yes leaf ↦ absurd (edge_split r.row s.row r.there s.there s.split (rw (r.is, s.is) h) leaf)
          | no split ↦ record { row = r.row; there = r.there; split = split; is = r.is }
        ]

-- all elements of depth below 3 form a closed set, and so do those below 6, below 9 and below every multiple of three (02, L9)
pub depths_closed : {m : Mesh} {i t : ℕ} → Grown m i t → (k : ℕ) → ClosedAsDemanded (forest_of m t) (DepthBelow (forest_of m t) (3 * k))
depths_closed {m} {i} {t} g = threes_closed (forest_of m t) (largest_in m i) (colour_in m i) (coloured g) refl
