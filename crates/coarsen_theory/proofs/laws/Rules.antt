-- The definitions in the form in which code over tables has them at hand: the judgement of a vertex row by row, and what is kept by one vertex of a row and by the two maps.
use mathlib.Core.Path.{◌≡◌, refl, sym, ap, ◌∙◌}
use mathlib.Core.Bool.{Bool, true, false, not, ◌&&◌, cond, true≢false, and-false}
use Prim.Native.Nat.{ℕ, ◌+◌, ◌≤◌, ◌<◌}
use native.Mathlib.Omega.{arith}
use borrow.Author.Tests.{le-leb, lt-leb, eq-eqb, ne_eqb, eqb-true, eqb-false}
use lib.Dec.{eqb, leb}
use Rattle.split.specs.declared.row.Row.{Row}
use Rattle.split.specs.Split.{Tag, one, two, three, Side, left, right, number, at, after}
use Rattle.split.specs.Row.{corners_of, tag_of}
use Rattle.split.proofs.laws.Rows.{child_tag}
use Rattle.tables.specs.Mesh.{Mesh}
use Rattle.intake.proofs.laws.Search.{any_has, any_none}
use Rattle.sound.specs.Sound.{rows, row_of, place, Grown}
use Rattle.sound.specs.Follows.{split_vertex}
use Rattle.sound.proofs.laws.Halves.{held_split}
use Rattle.coarsen_theory.specs.Dropping.{leaf_now, blocks, droppable}
use Rattle.coarsen_theory.specs.Free.{LeafNow, childless, merged, Free}
use Rattle.coarsen_theory.specs.Thinned.{stays, keeps, new_row, new_child}
use Rattle.coarsen_theory.proofs.laws.Free.{Droppable, now_leaf}
use Rattle.coarsen_theory.proofs.laws.Together.{kept_holds, children_kept, root_kept, child_keeps, child_at}
use Rattle.coarsen_theory.proofs.laws.Moved.{leaf, parent, Fate, fate, root_same}

-- ---- judging a vertex

module _ (m : Mesh) (i : ℕ) (gone : ℕ → Bool) (v : ℕ) where
  -- a row split at v with a child that is split still
  pub row_blocks : (r : ℕ) (s : Side) → ((row_of m r).child ≡ 0 → ⊥) → split_vertex m r ≡ v → leaf_now m gone (place s (row_of m r).child) ≡ false → blocks m gone v r ≡ true
  unfolding blocks
  row_blocks r s d e h = rw (ne_eqb (row_of m r).child 0 d, eq-eqb (split_vertex m r) v e) (side s h)
    where
      side : (s : Side) → leaf_now m gone (place s (row_of m r).child) ≡ false → not (leaf_now m gone (row_of m r).child && leaf_now m gone ((row_of m r).child + 1)) ≡ true
      side left x = rw x
      side right x = rw (x, and-false (leaf_now m gone (row_of m r).child))

  -- a row that is no leaf and blocks nothing
  free_row : (r : ℕ) → (((row_of m r).child ≡ 0 → ⊥) → split_vertex m r ≡ v → (s : Side) → LeafNow m gone (place s (row_of m r).child)) → blocks m gone v r ≡ false
  unfolding blocks
  free_row r h = go (eqb (row_of m r).child 0) (eqb (split_vertex m r) v) refl refl
    where
      go : (a b : Bool) → eqb (row_of m r).child 0 ≡ a → eqb (split_vertex m r) v ≡ b → (not a && (b && not (leaf_now m gone (row_of m r).child && leaf_now m gone ((row_of m r).child + 1)))) ≡ false
      go true b x y = refl
      go false false x y = refl
      go false true x y =
          let w = h (eqb-false _ _ x) (eqb-true _ _ y) in
          rw (now_leaf (w left), now_leaf (w right))

  -- one such row, and v stays
  pub blocked_stays : (r : ℕ) → r < rows m → blocks m gone v r ≡ true → droppable m i gone v ≡ false
  unfolding droppable
  blocked_stays r l e = rw (any_has (blocks m gone v) (rows m) r l e) (rw (and-false (not (gone v))) (and-false (leb i v)))

  -- an initial vertex and one that is gone stay so
  pub initial_passed : v < i → droppable m i gone v ≡ false
  unfolding droppable
  initial_passed h = rw (lt-leb i v h)

  pub gone_passed : gone v ≡ true → droppable m i gone v ≡ false
  unfolding droppable
  gone_passed e = rw e (and-false (leb i v))

  -- no such row, and v is dropped
  pub says_droppable : Droppable m i gone v → droppable m i gone v ≡ true
  unfolding droppable
  says_droppable d = rw (le-leb i v d.midpoint, d.still, any_none (blocks m gone v) (rows m) (λ r l. free_row r (λ s e x. d.leaves r x l s e)))

-- ---- what is kept

-- the parent's tag by the child's
abbrev before : ℕ → ℕ
before n = cond (eqb n 3) 1 (n + 1)

before_after : (g : Tag) → before (number (after three g)) ≡ number g
before_after one = refl
before_after two = refl
before_after three = refl

module _ {m : Mesh} {i t : ℕ} (g : Grown m i t) where
  pub parent_tag : (r : ℕ) → t ≤ r → r < rows m → cond (eqb (row_of m r).tag 3) 1 ((row_of m r).tag + 1) ≡ number (tag_of (row_of m (row_of m r).parent))
  parent_tag r k l =
      let c = g.child r k l in
      ap (λ (x : Row). before x.tag) c.is ∙ ap before (child_tag c.side (row_of m (row_of m r).parent) (row_of m r).parent c.vertex) ∙ before_after (tag_of (row_of m (row_of m r).parent))

  module _ {gone : ℕ → Bool} (f : Free m i gone) where
    -- a row past the roots is kept exactly if its vertex at its parent's tag stays
    pub keeps_by : (r : ℕ) → t ≤ r → r < rows m → keeps m gone r ≡ stays gone (at (corners_of (row_of m r)) (cond (eqb (row_of m r).tag 3) 1 ((row_of m r).tag + 1)))
    keeps_by r k l = child_keeps g f r k l ∙ ap (stays gone) (sym (child_at g r k l) ∙ ap (at (corners_of (row_of m r))) (sym (parent_tag r k l)))

    -- the first child by the row map: 0 where the old one is dropped, and for row 0, which is a root
    pub child_map : (q : ℕ) → q < rows m → 0 < t → new_child m gone q ≡ cond (keeps m gone (row_of m q).child) (new_row m gone (row_of m q).child) 0
    child_map q l h = go (fate m gone q)
      where
        dropped : (d : (row_of m q).child ≡ 0 → ⊥) → gone (split_vertex m q) ≡ true → (b : Bool) → keeps m gone (row_of m q).child ≡ b → 0 ≡ cond b (new_row m gone (row_of m q).child) 0
        dropped d e true k = absurd (true≢false (sym e ∙ kept_holds m gone (row_of m q).child k (held_split g q l d left)))
        dropped d e false k = refl

        by_leaf : LeafNow m gone q → 0 ≡ cond (keeps m gone (row_of m q).child) (new_row m gone (row_of m q).child) 0
        by_leaf (childless e) = rw (e, root_kept g f 0 h, root_same g f 0 (omega arith))
        by_leaf (merged d e) = dropped d e (keeps m gone (row_of m q).child) refl

        go : Fate m gone q → new_child m gone q ≡ cond (keeps m gone (row_of m q).child) (new_row m gone (row_of m q).child) 0
        go (leaf w e) = e ∙ by_leaf w
        go (parent d stay e) = e ∙ rw (children_kept g f q l d stay left)
