-- What the thinned mesh has at new numbers, and which old number a new number comes from.
use mathlib.Core.Path.{◌≡◌, refl, sym, ap, ◌∙◌}
use mathlib.Core.Bool.{Bool, true, false, true≢false}
use Prim.Native.Nat.{ℕ, ◌≤◌, ◌<◌}
use native.Mathlib.Omega.{arith}
use borrow.Author.Tests.{lt-ltb, le-ltb}
use lib.ListN.{length}
use Rattle.split.specs.declared.row.Row.{Row}
use Rattle.split.specs.Split.{Side, left, right, at}
use Rattle.split.specs.Row.{corners_of, edge_of, pair}
use Rattle.split.proofs.laws.Places.{le_or_lt}
use Rattle.tables.specs.Layout.{no_point, no_record, no_row}
use Rattle.tables.specs.Mesh.{Mesh}
use mathlib.Core.Logic.{inl, inr}
use Rattle.sound.specs.Sound.{vertices, rows, point_of, record_of, row_of, place, Grown}
use Rattle.sound.specs.Follows.{split_vertex}
use Rattle.sound.proofs.laws.Searches.{count_full}
use Rattle.coarsen_theory.specs.Dropping.{leaf_now}
use Rattle.coarsen_theory.specs.Free.{LeafNow, childless, merged, Free}
use Rattle.coarsen_theory.specs.Thinned.{stays, keeps, new_vertex, new_row, new_child, thin_row, moved, thin_record, thinned}
use Rattle.coarsen_theory.proofs.laws.Sifted.{Source, count_next, count_up, count_less, count_from, sift_length, sift_at}
use Rattle.coarsen_theory.proofs.laws.Free.{leaf_now_lem, now_leaf}
use Rattle.coarsen_theory.proofs.laws.Together.{stay_by, says_stays, split_kept, children_kept, initial_stays, root_kept}
use Rattle.coarsen_theory.proofs.laws.Renamed.{renamed_at, renamed_edge}

-- ---- lengths, and what stands at a new number

module _ (m : Mesh) (i : ℕ) (gone : ℕ → Bool) where
  pub vertices_thinned : vertices (thinned m i gone) ≡ new_vertex gone (vertices m)
  unfolding thinned
  vertices_thinned = sift_length (stays gone) (thin_record m i gone) (vertices m)

  pub points_thinned : length (thinned m i gone).points ≡ new_vertex gone (vertices m)
  unfolding thinned
  points_thinned = sift_length (stays gone) (point_of m) (vertices m)

  pub rows_thinned : rows (thinned m i gone) ≡ new_row m gone (rows m)
  unfolding thinned
  rows_thinned = sift_length (keeps m gone) (thin_row m gone) (rows m)

  pub point_at_lem : (v : ℕ) → v < vertices m → stays gone v ≡ true → point_of (thinned m i gone) (new_vertex gone v) ≡ point_of m v
  unfolding thinned
  point_at_lem v l s = sift_at (stays gone) (point_of m) (vertices m) v no_point l s

  pub record_at_lem : (v : ℕ) → v < vertices m → stays gone v ≡ true → record_of (thinned m i gone) (new_vertex gone v) ≡ thin_record m i gone v
  unfolding thinned
  record_at_lem v l s = sift_at (stays gone) (thin_record m i gone) (vertices m) v no_record l s

  pub row_at_lem : (r : ℕ) → r < rows m → keeps m gone r ≡ true → row_of (thinned m i gone) (new_row m gone r) ≡ thin_row m gone r
  unfolding thinned
  row_at_lem r l k = sift_at (keeps m gone) (thin_row m gone) (rows m) r no_row l k

  -- ---- the records of the two kinds of vertices

  pub record_initial : (v : ℕ) → v < i → v < vertices m → stays gone v ≡ true → record_of (thinned m i gone) (new_vertex gone v) ≡ record_of m v
  unfolding thin_record
  record_initial v h l s = record_at_lem v l s ∙ rw (lt-ltb v i h)

  pub record_midpoint : (v : ℕ) → i ≤ v → v < vertices m → stays gone v ≡ true → record_of (thinned m i gone) (new_vertex gone v) ≡ moved gone (record_of m v)
  unfolding thin_record
  record_midpoint v h l s = record_at_lem v l s ∙ rw (le-ltb v i h)

  -- ---- the numbers of a row

  module _ (r : ℕ) (l : r < rows m) (k : keeps m gone r ≡ true) where
    pub row_parent : (row_of (thinned m i gone) (new_row m gone r)).parent ≡ new_row m gone (row_of m r).parent
    unfolding thin_row
    row_parent = ap (λ (x : Row). x.parent) (row_at_lem r l k)

    pub row_child : (row_of (thinned m i gone) (new_row m gone r)).child ≡ new_child m gone r
    unfolding thin_row
    row_child = ap (λ (x : Row). x.child) (row_at_lem r l k)

    pub row_depth : (row_of (thinned m i gone) (new_row m gone r)).depth ≡ (row_of m r).depth
    unfolding thin_row
    row_depth = ap (λ (x : Row). x.depth) (row_at_lem r l k)

    pub row_corner : (p : ℕ) → at (corners_of (row_of (thinned m i gone) (new_row m gone r))) p ≡ new_vertex gone (at (corners_of (row_of m r)) p)
    unfolding thin_row
    row_corner p = ap (λ (x : Row). at (corners_of x) p) (row_at_lem r l k) ∙ renamed_at (new_vertex gone) (new_row m gone (row_of m r).parent) (new_child m gone r) (row_of m r) p

    pub row_edge : edge_of (row_of (thinned m i gone) (new_row m gone r)) ≡ pair (new_vertex gone (edge_of (row_of m r)).small) (new_vertex gone (edge_of (row_of m r)).large)
    unfolding thin_row
    row_edge = ap edge_of (row_at_lem r l k) ∙ renamed_edge (new_vertex gone) (new_row m gone (row_of m r).parent) (new_child m gone r) (row_of m r) (count_up (stays gone))

  -- ---- where a new number comes from

  pub vertex_from : (x : ℕ) → x < vertices (thinned m i gone) → Source (stays gone) (vertices m) x
  vertex_from x h = count_from (stays gone) (vertices m) x (rw vertices_thinned at h)

  pub row_from_lem : (x : ℕ) → x < rows (thinned m i gone) → Source (keeps m gone) (rows m) x
  row_from_lem x h = count_from (keeps m gone) (rows m) x (rw rows_thinned at h)

  pub vertex_below : (v : ℕ) → v < vertices m → stays gone v ≡ true → new_vertex gone v < vertices (thinned m i gone)
  vertex_below v l s = rw vertices_thinned (count_less (stays gone) v (vertices m) l s)

  pub row_below : (r : ℕ) → r < rows m → keeps m gone r ≡ true → new_row m gone r < rows (thinned m i gone)
  row_below r l k = rw rows_thinned (count_less (keeps m gone) r (rows m) l k)

-- ---- whether a kept row has children in the thinned mesh

pub data Fate (m : Mesh) (gone : ℕ → Bool) (q : ℕ) : Type 0 where
  leaf : LeafNow m gone q → new_child m gone q ≡ 0 → Fate m gone q
  parent : ((row_of m q).child ≡ 0 → ⊥) → gone (split_vertex m q) ≡ false → new_child m gone q ≡ new_row m gone (row_of m q).child → Fate m gone q

pub fate : (m : Mesh) (gone : ℕ → Bool) (q : ℕ) → Fate m gone q
unfolding new_child
fate m gone q = go (leaf_now m gone q) refl
  where
    go : (b : Bool) → leaf_now m gone q ≡ b → Fate m gone q
    go true e = leaf (leaf_now_lem q e) (rw e)
    go false e =
        let never : LeafNow m gone q → ⊥ = λ w. true≢false (sym (now_leaf w) ∙ e) in
        let split : (row_of m q).child ≡ 0 → ⊥ = λ z. never (childless z) in
        parent split (stay_by (gone (split_vertex m q)) (λ z. never (merged split z))) (rw e)

-- ---- order

module _ {m : Mesh} {i t : ℕ} (g : Grown m i t) {gone : ℕ → Bool} (f : Free m i gone) where
  -- initial vertices and roots keep their numbers
  pub initial_same : (v : ℕ) → v ≤ i → new_vertex gone v ≡ v
  initial_same v h = count_full (stays gone) v (λ u l. says_stays gone u (initial_stays g f u (omega arith)))

  pub root_same : (r : ℕ) → r ≤ t → new_row m gone r ≡ r
  root_same r h = count_full (keeps m gone) r (λ q l. root_kept g f q (omega arith))

  -- midpoints stay midpoints, and children children
  pub midpoint_new : (v : ℕ) → i ≤ v → i ≤ new_vertex gone v
  midpoint_new v h = omega (arith, count_up (stays gone) i v h, initial_same i (omega arith))

  pub midpoint_old : (v : ℕ) → i ≤ new_vertex gone v → i ≤ v
  midpoint_old v h = elim (le_or_lt i v) [ inl l ↦ l | inr l ↦ absurd (omega (arith, initial_same v (omega arith))) ]

  pub child_new : (r : ℕ) → t ≤ r → t ≤ new_row m gone r
  child_new r h = omega (arith, count_up (keeps m gone) t r h, root_same t (omega arith))

  pub child_old : (r : ℕ) → t ≤ new_row m gone r → t ≤ r
  child_old r h = elim (le_or_lt t r) [ inl l ↦ l | inr l ↦ absurd (omega (arith, root_same r (omega arith))) ]

  -- the children of a row split at a vertex that stays
  module _ (q : ℕ) (l : q < rows m) (split : (row_of m q).child ≡ 0 → ⊥) (stay : gone (split_vertex m q) ≡ false) where
    pub open_later : new_row m gone q < new_row m gone (row_of m q).child
    open_later = count_less (keeps m gone) q (row_of m q).child (g.parent q l split).later (split_kept g f q l split stay)

    -- they stay side by side
    pub open_place : (s : Side) → new_row m gone (place s (row_of m q).child) ≡ place s (new_row m gone (row_of m q).child)
    open_place left = refl
    open_place right = count_next (keeps m gone) (row_of m q).child (children_kept g f q l split stay left)
