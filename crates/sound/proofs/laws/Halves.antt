-- What a row holds: the ends of its edge, and a split row's children the vertex that it is split at.
use mathlib.Core.Path.{◌≡◌, sym, ap, ◌∙◌, subst}
use mathlib.Core.Logic.{◌⊎◌}
use Prim.Native.Nat.{ℕ, ◌≤◌, ◌<◌}
use native.Mathlib.Omega.{arith}
use Rattle.split.specs.declared.row.Row.{Row}
use Rattle.split.specs.declared.row.Ends.{Ends}
use Rattle.split.specs.Split.{Side, left, right, Corners, number, at, far, child, Holds}
use Rattle.split.specs.Row.{corners_of, tag_of, pair, edge_of, child_of}
use Rattle.split.proofs.laws.Tags.{tag_range}
use Rattle.split.proofs.laws.Children.{far_at, at_new, new_held, from_parent}
use Rattle.split.proofs.laws.Rows.{vertices_step}
use Rattle.tables.specs.Mesh.{Mesh}
use Rattle.sound.specs.Sound.{rows, row_of, childless, place, Records, Grown}
use Rattle.sound.specs.Follows.{split_vertex}
use Rattle.sound.proofs.laws.Names.{kept, swapped, sorted_ends}
use Rattle.sound.proofs.laws.Offspring.{place_apart, place_below}

-- equal corners hold the same
pub holds_same : {c d : Corners ℕ} {x : ℕ} → c ≡ d → Holds 3 d x → Holds 3 c x
holds_same e h = record { place = h.place; inside = h.inside; is = ap (λ (y : Corners ℕ). at y h.place) e ∙ h.is }

-- a row holds the ends of its edge
pub edge_held : (r : Row) (x y : ℕ) → pair x y ≡ edge_of r → Holds 3 (corners_of r) x × Holds 3 (corners_of r) y
unfolding edge_of
edge_held r x y e = elim (sorted_ends r.v0 (far (tag_of r) (corners_of r)) x y e) [
  | kept a b ↦ (near a, away b)
  | swapped a b ↦ (away a, near b)
]
  where
    near : {z : ℕ} → z ≡ r.v0 → Holds 3 (corners_of r) z
    near a = record { place = 0; inside = omega arith; is = sym a }

    away : {z : ℕ} → z ≡ far (tag_of r) (corners_of r) → Holds 3 (corners_of r) z
    away a = record { place = number (tag_of r); inside = (tag_range (tag_of r)).1; is = far_at (corners_of r) (tag_of r) ∙ sym a }

-- the child of row q on side s comes of a split at v
pub record Half (m : Mesh) (i q : ℕ) (s : Side) (v : ℕ) : Type 0 where
  pub records : Records m i v (edge_of (row_of m q))
  pub is : childless (row_of m (place s (row_of m q).child)) ≡ child_of s (row_of m q) q v

pub half_corners : {m : Mesh} {i q : ℕ} {s : Side} {v : ℕ} → Half m i q s v → corners_of (row_of m (place s (row_of m q).child)) ≡ child s (tag_of (row_of m q)) (corners_of (row_of m q)) v
half_corners {m} {i} {q} {s} {v} h = ap corners_of h.is ∙ vertices_step s (row_of m q) q v

-- the vertex of a split is read off the first child, so it need not be looked for
pub split_is : (m : Mesh) (q v : ℕ) → childless (row_of m (row_of m q).child) ≡ child_of left (row_of m q) q v → split_vertex m q ≡ v
unfolding split_vertex
split_is m q v e =
    let tag = tag_of (row_of m q) in
    sym (far_at (corners_of (row_of m (row_of m q).child)) tag)
    ∙ ap (λ (x : Corners ℕ). at x (number tag)) (ap corners_of e ∙ vertices_step left (row_of m q) q v)
    ∙ at_new (corners_of (row_of m q)) v left tag

module _ {m : Mesh} {i t : ℕ} (g : Grown m i t) where
  -- one edge has one midpoint
  pub one_middle : (u v : ℕ) {e : Ends} → Records m i u e → Records m i v e → u ≡ v
  one_middle u v a b =
      let e = a.ends ∙ sym b.ends in
      (g.midpoint v b.midpoint b.there).only u a.midpoint a.there (λ j. record { first = ap (λ (x : Ends). x.small) e j; second = ap (λ (x : Ends). x.large) e j })

  module _ (q : ℕ) (l : q < rows m) (split : (row_of m q).child ≡ 0 → ⊥) where
    half_some : (s : Side) → (v : ℕ) × Half m i q s v
    half_some s =
        let b = place_below g q l split s in
        let c = g.child (place s (row_of m q).child) b.past b.there in
        let side : s ≡ c.side = place_apart s c.side (row_of m q).child (c.here ∙ ap (λ (p : ℕ). place c.side (row_of m p).child) b.parent) in (
          c.vertex,
          record {
            records = rw b.parent at c.middle;
            is = c.is ∙ ap (λ (p : ℕ). child_of c.side (row_of m p) p c.vertex) b.parent ∙ ap (λ (x : Side). child_of x (row_of m q) q c.vertex) (sym side);
          },
        )

    half_left : Half m i q left (split_vertex m q)
    half_left = let (v, h) = half_some left in rw (split_is m q v h.is) h

    -- both children come of a split at the one vertex
    pub half : (s : Side) → Half m i q s (split_vertex m q)
    half left = half_left
    half right = let (v, h) = half_some right in rw (one_middle (split_vertex m q) v half_left.records h.records) h

    pub held_split : (s : Side) → Holds 3 (corners_of (row_of m (place s (row_of m q).child))) (split_vertex m q)
    held_split s = holds_same (half_corners (half s)) (new_held 3 (corners_of (row_of m q)) (split_vertex m q) s (tag_of (row_of m q)) (tag_range (tag_of (row_of m q))).1 (omega arith))

    pub held_from : (s : Side) {x : ℕ} → Holds 3 (corners_of (row_of m (place s (row_of m q).child))) x → (x ≡ split_vertex m q) ⊎ Holds 3 (corners_of (row_of m q)) x
    held_from s h =
        from_parent 3 (corners_of (row_of m q)) (split_vertex m q) s (tag_of (row_of m q)) (tag_range (tag_of (row_of m q))).1 (omega arith)
        (holds_same (sym (half_corners (half s))) h)

  module _ (r : ℕ) (k : t ≤ r) (l : r < rows m) where
    -- a child's parent is a split row that comes before it
    pub parent_there : (row_of m r).parent < rows m
    parent_there = omega (arith, (g.child r k l).older)

    -- a child holds the vertex that its parent is split at
    pub child_split : Holds 3 (corners_of (row_of m r)) (split_vertex m (row_of m r).parent)
    child_split =
        let c = g.child r k l in
        subst (λ (x : ℕ). Holds 3 (corners_of (row_of m x)) (split_vertex m (row_of m r).parent)) (sym c.here) (held_split (row_of m r).parent parent_there c.split c.side)

    -- what a child holds is that vertex or its parent's
    pub child_from : {x : ℕ} → Holds 3 (corners_of (row_of m r)) x → (x ≡ split_vertex m (row_of m r).parent) ⊎ Holds 3 (corners_of (row_of m (row_of m r).parent)) x
    child_from {x} h =
        let c = g.child r k l in
        held_from (row_of m r).parent parent_there c.split c.side (subst (λ (y : ℕ). Holds 3 (corners_of (row_of m y)) x) c.here h)
