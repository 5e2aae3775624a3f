-- A leaf that holds both ends of another row's edge: how deep it is, and which edge comes first.
use mathlib.Core.Path.{◌≡◌, refl, sym, ap, ◌∙◌}
use mathlib.Core.Logic.{◌⊎◌, inl, inr}
use Prim.Native.Nat.{ℕ, ◌≤◌, ◌<◌}
use native.Mathlib.Omega.{arith}
use Rattle.split.specs.declared.row.Row.{Row}
use Rattle.split.specs.declared.row.Ends.{Ends}
use Rattle.split.specs.Split.{number, far, Holds}
use Rattle.split.specs.Row.{corners_of, tag_of, ends, edge_of}
use Rattle.split.proofs.laws.Places.{le_or_lt}
use Rattle.split.proofs.laws.Tags.{tag_range}
use Rattle.split.proofs.laws.Children.{far_at}
use Rattle.tables.specs.Mesh.{Mesh}
use Rattle.forest.specs.Element.{shape, HoldsEdge}
use Rattle.forest.proofs.Shallow.{too_deep}
use Rattle.forest.proofs.Blocking.{SameEdge}
use Rattle.forest.proofs.Theory.{blocking}
use Rattle.sound.specs.Sound.{vertices, rows, row_of, Grown}
use Rattle.sound.specs.Forest.{forest_of, colour_in, largest_in, name_of, element_of}
use Rattle.run.specs.Ready.{edge_rank}
use Rattle.sound.proofs.laws.Afresh.{coloured}
use Rattle.sound.proofs.laws.Names.{one_vertex, kept, swapped, sorted_ends}
use Rattle.sound.proofs.laws.Halves.{edge_held}
use Rattle.sound.proofs.laws.Placed.{Placed, placed, placed_at, placed_near, placed_away, row_fits}

-- the row holds both ends of e
pub record Both (r : Row) (e : Ends) : Type 0 where
  pub small : Holds 3 (corners_of r) e.small
  pub large : Holds 3 (corners_of r) e.large

-- the ends of an edge by the two vertices, whichever is smaller
pub both_ends : (r : Row) (a b : ℕ) → Both r (ends a b) → Holds 3 (corners_of r) a × Holds 3 (corners_of r) b
both_ends r a b h = elim (sorted_ends a b (ends a b).small (ends a b).large refl) [ kept x y ↦ (rw (← x) h.small, rw (← y) h.large) | swapped x y ↦ (rw (← y) h.large, rw (← x) h.small) ]

-- a row holds both ends of its own edge
pub own_both : (r : Row) → Both r (edge_of r)
own_both r = let (a, b) = edge_held r (edge_of r).small (edge_of r).large refl in record { small = a; large = b }

module _ {m : Mesh} {i t : ℕ} (g : Grown m i t) where
  named_holds : {r : ℕ} → Placed m i t r → (v : ℕ) → Holds 3 (corners_of (row_of m r)) v → Holds 3 (shape (forest_of m t) (element_of m t r)).corners (name_of m i v)
  named_holds p v h = record { place = h.place; inside = h.inside; is = placed_at p h.place ∙ ap (name_of m i) h.is }

  -- q holds both ends of r's edge
  module _ (q r : ℕ) (hq : q < rows m) (hr : r < rows m) (both : Both (row_of m q) (edge_of (row_of m r))) where
    pub holds_edge : HoldsEdge (forest_of m t) (element_of m t q) (element_of m t r)
    unfolding edge_of
    holds_edge =
        let (a, b) = both_ends (row_of m q) (row_of m r).v0 (far (tag_of (row_of m r)) (corners_of (row_of m r))) both in
        record { near = rw (placed_near (placed g r hr)) (named_holds (placed g q hq) _ a); away = rw (placed_away (placed g r hr)) (named_holds (placed g q hq) _ b) }

    -- it is no deeper than the round in which r is split allows
    pub edge_shallow : (row_of m r).depth < 60 → (row_of m q).depth < 60
    edge_shallow l = elim (le_or_lt 60 (row_of m q).depth) [ inr k ↦ k | inl k ↦ absurd (too_deep 20 (row_fits g q hq) (row_fits g r hr) k l holds_edge.near holds_edge.away) ]

    compared : SameEdge (shape (forest_of m t) (element_of m t q)) (shape (forest_of m t) (element_of m t r)) ⊎ (edge_rank m i t q < edge_rank m i t r)
    compared = blocking (forest_of m t) (largest_in m i) (colour_in m i) (coloured g) (element_of m t q) (element_of m t r) (placed g q hq).root (placed g r hr).root holds_edge

    -- its own edge comes no later
    pub edge_most : edge_rank m i t q ≤ edge_rank m i t r
    edge_most = elim compared [ inr l ↦ omega arith | inl w ↦ let same : edge_rank m i t q ≡ edge_rank m i t r = rw (w.near, w.away) in omega arith ]

    -- and strictly first where it is another one (000, Corollary 19)
    pub edge_falls : (edge_of (row_of m q) ≡ edge_of (row_of m r) → ⊥) → edge_rank m i t q < edge_rank m i t r
    unfolding edge_of
    edge_falls d = elim compared [
      | inr l ↦ l
      | inl w ↦ absurd (d (same w))
    ]
      where
        tip : (x : ℕ) → x < rows m → far (tag_of (row_of m x)) (corners_of (row_of m x)) < vertices m
        tip x h = let tag = tag_of (row_of m x) in rw (← far_at (corners_of (row_of m x)) tag) ((placed g x h).held (number tag) (tag_range tag).1)

        same : SameEdge (shape (forest_of m t) (element_of m t q)) (shape (forest_of m t) (element_of m t r)) → ends (row_of m q).v0 (far (tag_of (row_of m q)) (corners_of (row_of m q))) ≡ ends (row_of m r).v0 (far (tag_of (row_of m r)) (corners_of (row_of m r)))
        same w =
            let a = one_vertex g (row_of m q).v0 (row_of m r).v0 ((placed g q hq).held 0 (omega arith)) ((placed g r hr).held 0 (omega arith)) (sym (placed_near (placed g q hq)) ∙ w.near ∙ placed_near (placed g r hr)) in
            let b = one_vertex g _ _ (tip q hq) (tip r hr) (sym (placed_away (placed g q hq)) ∙ w.away ∙ placed_away (placed g r hr)) in
            λ j. ends (a j) (b j)
