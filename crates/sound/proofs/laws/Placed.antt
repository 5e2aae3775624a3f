-- Each row is its element: the same vertices by their names, the same tag, the same depth.
use mathlib.Core.Path.{◌≡◌, sym, ap, ◌∙◌}
use mathlib.Core.Logic.{inl, inr}
use Prim.Native.Nat.{ℕ, zero, suc, ◌≤◌, ◌<◌}
use native.Mathlib.Omega.{arith}
use lib.Seq.{get_or-take}
use Rattle.split.specs.declared.row.Row.{Row}
use Rattle.split.specs.Split.{three, Corners, at, far, child, Distinct}
use Rattle.split.specs.Row.{corners_of, tag_of, edge_of}
use Rattle.split.proofs.laws.Places.{le_or_lt}
use Rattle.split.proofs.laws.Tags.{tag_range}
use Rattle.split.proofs.laws.Children.{from_parent}
use Rattle.split.proofs.laws.Named.{named_at, named_far, named_child}
use Rattle.split.proofs.laws.Rows.{vertices_step, row_step, deeper_is}
use Rattle.tables.specs.Layout.{no_row}
use Rattle.tables.specs.Mesh.{Mesh}
use Rattle.forest.specs.Element.{init, depth, Shape, near, away, middle, below, shape_at, shape}
use Rattle.forest.specs.Generation.{gen}
use Rattle.forest.specs.Invariant.{Fits}
use Rattle.forest.specs.Shallow.{root_of}
use Rattle.forest.proofs.First.{Oriented, oriented}
use Rattle.forest.proofs.Blocking.{tip, distinct}
use Rattle.forest.proofs.Theory.{fits}
use Rattle.sound.specs.Sound.{vertices, rows, row_of, Records, Child, Grown}
use Rattle.sound.specs.Forest.{forest_of, colour_in, largest_in, name_of, element_of, named}
use Rattle.sound.proofs.laws.Afresh.{root_tag, root_depth, root_below, coloured}
use Rattle.sound.proofs.laws.Names.{joint_oriented, name_initial, name_midpoint}
use Rattle.sound.proofs.laws.Elements.{grown_shape, grown_root, grown_depth, root_element, child_element}

-- row r and its element, one against the other; a vertex that the row holds is there
pub record Placed (m : Mesh) (i t r : ℕ) : Type 0 where
  pub root : root_of (element_of m t r) < t
  pub corners : (shape (forest_of m t) (element_of m t r)).corners ≡ named (name_of m i) (corners_of (row_of m r))
  pub tag : (shape (forest_of m t) (element_of m t r)).tag ≡ tag_of (row_of m r)
  pub depth : depth (element_of m t r) ≡ (row_of m r).depth
  pub shallow : (row_of m r).depth ≤ 60
  pub held : (p : ℕ) → p ≤ 3 → at (corners_of (row_of m r)) p < vertices m

module _ {m : Mesh} {i t r : ℕ} (p : Placed m i t r) where
  -- its vertices by place
  pub placed_at : (k : ℕ) → at (shape (forest_of m t) (element_of m t r)).corners k ≡ name_of m i (at (corners_of (row_of m r)) k)
  placed_at k = rw p.corners (named_at (name_of m i) (corners_of (row_of m r)) k)

  -- the ends of its refinement edge
  pub placed_near : near (shape (forest_of m t) (element_of m t r)) ≡ name_of m i (row_of m r).v0
  placed_near = placed_at 0

  pub placed_away : away (shape (forest_of m t) (element_of m t r)) ≡ name_of m i (far (tag_of (row_of m r)) (corners_of (row_of m r)))
  placed_away = rw (p.tag, p.corners) (named_far (name_of m i) (tag_of (row_of m r)) (corners_of (row_of m r)))

module _ {m : Mesh} {i t : ℕ} (g : Grown m i t) where
  -- the row invariant (000, Theorem 10) and the order of the ends
  pub placed_fits : {r : ℕ} → Placed m i t r → Fits (largest_in m i) (colour_in m i) 3 (depth (element_of m t r)) (shape (forest_of m t) (element_of m t r))
  placed_fits {r} p = fits (forest_of m t) (largest_in m i) (colour_in m i) (coloured g) (element_of m t r) p.root

  placed_oriented : {r : ℕ} → Placed m i t r → Oriented (gen (largest_in m i) (colour_in m i) (name_of m i (row_of m r).v0)) (gen (largest_in m i) (colour_in m i) (name_of m i (far (tag_of (row_of m r)) (corners_of (row_of m r)))))
  placed_oriented {r} p =
      let x = shape (forest_of m t) (element_of m t r) in
      let f = placed_fits p in
      rw (← placed_near p, ← placed_away p, ← tip x) (oriented (tag_range x.tag).0 f.tagged f.row)

  -- the vertex that records a row's edge is named as the edge's midpoint
  pub middle_name : {r : ℕ} → Placed m i t r → (v : ℕ) → Records m i v (edge_of (row_of m r)) → name_of m i v ≡ middle (shape (forest_of m t) (element_of m t r))
  unfolding edge_of
  middle_name {r} p v w =
      name_midpoint g v w.midpoint w.there
      ∙ joint_oriented (largest_in m i) (colour_in m i) (name_of m i) (row_of m r).v0 (far (tag_of (row_of m r)) (corners_of (row_of m r))) _ _ w.ends (placed_oriented p)
      ∙ rw (placed_near p, placed_away p)

  -- ---- roots, and children by the split table

  root_placed : (r : ℕ) → r < t → Placed m i t r
  unfolding shape_at
  root_placed r h = record {
    root = rw (root_element m t r h) h;
    corners = rw (root_element m t r h, get_or-take t m.rows r no_row h, initial 0 (omega arith), initial 1 (omega arith), initial 2 (omega arith), initial 3 (omega arith));
    tag = rw (root_element m t r h, root_tag g r h);
    depth = rw (root_element m t r h, root_depth g r h);
    shallow = rw (root_depth g r h) (omega arith);
    held = λ p l. omega (arith, root_below g r h p l, g.parted.vertices_in);
  }
    where
      initial : (p : ℕ) → p ≤ 3 → name_of m i (at (corners_of (row_of m r)) p) ≡ init (at (corners_of (row_of m r)) p)
      initial p l = name_initial m i _ (root_below g r h p l)

  module _ (r : ℕ) (k : t ≤ r) (l : r < rows m) where
    abbrev q : ℕ
    q = (row_of m r).parent

    abbrev c : Child m i r
    c = g.child r k l

    child_corners : corners_of (row_of m r) ≡ child c.side (tag_of (row_of m q)) (corners_of (row_of m q)) c.vertex
    child_corners = ap corners_of c.is ∙ vertices_step c.side (row_of m q) q c.vertex

    child_shape : shape (forest_of m t) (element_of m t r) ≡ below three c.side (shape (forest_of m t) (element_of m t q))
    child_shape = ap (shape (forest_of m t)) (child_element g r k l) ∙ grown_shape (forest_of m t) c.side (element_of m t q)

    child_held : Placed m i t q → (p : ℕ) → p ≤ 3 → at (corners_of (row_of m r)) p < vertices m
    child_held w p h = elim (from_parent 3 (corners_of (row_of m q)) c.vertex c.side (tag_of (row_of m q)) (tag_range (tag_of (row_of m q))).1 (omega arith) (record { place = p; inside = h; is = ap (λ (x : Corners ℕ). at x p) (sym child_corners) }))
        [ inl e ↦ rw e c.middle.there | inr o ↦ rw (← o.is) (w.held o.place o.inside) ]

    child_placed : Placed m i t q → Placed m i t r
    child_placed w = record {
      root = rw (child_element g r k l, grown_root) w.root;
      corners = ap (λ (x : Shape). x.corners) child_shape
          ∙ rw (← middle_name w c.vertex c.middle, w.tag, w.corners) (named_child (name_of m i) c.side (tag_of (row_of m q)) (corners_of (row_of m q)) c.vertex)
          ∙ sym (ap (named (name_of m i)) child_corners);
      tag = ap (λ (x : Shape). x.tag) child_shape ∙ rw w.tag (sym (ap tag_of c.is ∙ (row_step c.side (row_of m q) q c.vertex).tag));
      depth = rw (child_element g r k l, grown_depth) (omega (arith, w, ap (λ (x : Row). x.depth) c.is, (row_step c.side (row_of m q) q c.vertex).depth, deeper_is (row_of m q).depth (omega (arith, w))));
      shallow = c.shallow;
      held = child_held w;
    }

  placed_upto : (n r : ℕ) → r < n → r < rows m → Placed m i t r
  placed_upto zero r h l = absurd (omega arith)
  placed_upto (suc n) r h l = elim (le_or_lt t r) [ inl k ↦ let o = (g.child r k l).older in child_placed r k l (placed_upto n (row_of m r).parent (omega arith) (omega arith)) | inr k ↦ root_placed r k ]

  pub placed : (r : ℕ) → r < rows m → Placed m i t r
  placed r l = placed_upto (rows m) r l l

  -- every row has the row invariant (000, Theorem 10), and four different vertices
  pub row_fits : (r : ℕ) → r < rows m → Fits (largest_in m i) (colour_in m i) 3 (row_of m r).depth (shape (forest_of m t) (element_of m t r))
  row_fits r l = rw (← (placed r l).depth) (placed_fits (placed r l))

  pub row_distinct : (r : ℕ) → r < rows m → Distinct 3 (corners_of (row_of m r))
  row_distinct r l =
      let w = placed r l in
      record { apart = λ p q h k e. (distinct (placed_fits w)).apart p q h k (placed_at w p ∙ ap (name_of m i) e ∙ sym (placed_at w q)) }
