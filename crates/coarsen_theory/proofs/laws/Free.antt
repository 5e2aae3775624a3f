-- While vertices are dropped in turn, every row that holds one of them is a leaf now.
use mathlib.Core.Path.{◌≡◌, refl, sym, ◌∙◌, subst}
use mathlib.Core.Bool.{Bool, true, false, ◌&&◌, true≢false, ◌||◌}
use mathlib.Core.List.{List, [], ◌∷◌}
use mathlib.Core.Logic.{◌⊎◌, inl, inr}
use Prim.Native.Nat.{ℕ, zero, suc, ◌+◌, ◌≤◌, ◌<◌}
use native.Mathlib.Omega.{arith}
use borrow.Author.Tests.{leb-true, eqb-true, eq-eqb, ne_eqb, not-true, not-false}
use Rattle.split.specs.Split.{Side, left, right, Holds}
use Rattle.split.specs.Row.{corners_of}
use Rattle.split.proofs.laws.Places.{le_or_lt}
use Rattle.tables.specs.Mesh.{Mesh}
use Rattle.intake.specs.Search.{any}
use Rattle.intake.proofs.laws.Search.{any_has}
use Rattle.sound.specs.Sound.{rows, row_of, place, Grown}
use Rattle.sound.specs.Follows.{split_vertex}
use Rattle.sound.proofs.laws.Afresh.{root_below}
use Rattle.sound.proofs.laws.Searches.{and_both}
use Rattle.sound.proofs.laws.Halves.{parent_there, child_split, child_from}
use Rattle.coarsen_theory.specs.Dropping.{leaf_now, blocks, droppable, drop_one, drop_all, none, gone_by}
use Rattle.coarsen_theory.specs.Free.{LeafNow, childless, merged, Free}
pub use Rattle.coarsen_theory.proofs.laws.Leaf.{leaf_now_lem, now_leaf}

-- ---- tests and what they say

or_cases : (a b : Bool) → (a || b) ≡ true → (a ≡ true) ⊎ (b ≡ true)
or_cases true b e = inl refl
or_cases false b e = inr e

none_of : (test : ℕ → Bool) (n k : ℕ) → any test n ≡ false → k < n → test k ≡ false
none_of test n k e h = go (test k) refl
  where
    go : (b : Bool) → test k ≡ b → test k ≡ false
    go true t = absurd (true≢false (sym (any_has test n k h t) ∙ e))
    go false t = t

-- v may be dropped
pub record Droppable (m : Mesh) (i : ℕ) (gone : ℕ → Bool) (v : ℕ) : Type 0 where
  pub midpoint : i ≤ v
  pub still : gone v ≡ false
  pub leaves : (r : ℕ) (s : Side) → r < rows m → ((row_of m r).child ≡ 0 → ⊥) → split_vertex m r ≡ v → LeafNow m gone (place s (row_of m r).child)

module _ (m : Mesh) (i : ℕ) (gone : ℕ → Bool) (v : ℕ) where
  both_leaves : (r : ℕ) → blocks m gone v r ≡ false → ((row_of m r).child ≡ 0 → ⊥) → split_vertex m r ≡ v → (leaf_now m gone (row_of m r).child && leaf_now m gone ((row_of m r).child + 1)) ≡ true
  unfolding blocks
  both_leaves r h d e = not-false _ (rw (ne_eqb (row_of m r).child 0 d, eq-eqb (split_vertex m r) v e) at h)

  pub droppable_says : droppable m i gone v ≡ true → Droppable m i gone v
  unfolding droppable
  droppable_says h =
      let (a, bc) = and_both _ _ h in
      let (b, c) = and_both _ _ bc in
      record { midpoint = leb-true i v a; still = not-true _ b; leaves = λ r s l d e. child s r (and_both _ _ (both_leaves r (none_of (blocks m gone v) (rows m) r (not-true _ c) l) d e)) }
    where
      child : (s : Side) (r : ℕ) → (leaf_now m gone (row_of m r).child ≡ true) × (leaf_now m gone ((row_of m r).child + 1) ≡ true) → LeafNow m gone (place s (row_of m r).child)
      child left r b = leaf_now_lem (row_of m r).child b.0
      child right r b = leaf_now_lem ((row_of m r).child + 1) b.1

  -- what is gone after v was tried
  pub drop_cases : (u : ℕ) → drop_one m i gone v u ≡ true → (gone u ≡ true) ⊎ ((droppable m i gone v ≡ true) × (u ≡ v))
  unfolding drop_one
  drop_cases u h = elim (or_cases (gone u) _ h) [ inl e ↦ inl e | inr e ↦ let (a, b) = and_both _ _ e in inr (a, eqb-true u v b) ]

  pub drop_later : (u : ℕ) → gone u ≡ true → drop_one m i gone v u ≡ true
  unfolding drop_one
  drop_later u e = rw e

  -- leaves stay leaves
  pub leaf_later : {r : ℕ} → LeafNow m gone r → LeafNow m (drop_one m i gone v) r
  leaf_later (childless e) = childless e
  leaf_later {r} (merged d e) = merged d (drop_later (split_vertex m r) e)

-- ---- one vertex

module _ {m : Mesh} {i t : ℕ} (g : Grown m i t) {gone : ℕ → Bool} (f : Free m i gone) (v : ℕ) where
  -- the rows that hold v, where v is dropped
  module _ (d : Droppable m i gone v) where
    born_leaf : (r : ℕ) (k : t ≤ r) (l : r < rows m) → split_vertex m (row_of m r).parent ≡ v → LeafNow m (drop_one m i gone v) r
    born_leaf r k l e =
        let c = g.child r k l in
        leaf_later m i gone v (subst (LeafNow m gone) (sym c.here) (d.leaves (row_of m r).parent c.side (parent_there g r k l) c.split e))

    holder_leaf : (n r : ℕ) → r < n → r < rows m → Holds 3 (corners_of (row_of m r)) v → LeafNow m (drop_one m i gone v) r
    holder_leaf zero r h l w = absurd (omega arith)
    holder_leaf (suc n) r h l w = elim (le_or_lt t r) [
      | inr k ↦ absurd (omega (arith, root_below g r k w.place w.inside, w.is, d.midpoint))
      | inl k ↦ go k (child_from g r k l w) (holder_leaf n (row_of m r).parent)
    ]
      where
        below : (k : t ≤ r) → LeafNow m (drop_one m i gone v) (row_of m r).parent → LeafNow m (drop_one m i gone v) r
        below k (childless e) = absurd ((g.child r k l).split e)
        below k (merged s e) = elim (drop_cases m i gone v (split_vertex m (row_of m r).parent) e) [
          | inl x ↦ leaf_later m i gone v (f.leaf r (split_vertex m (row_of m r).parent) l (child_split g r k l) x)
          | inr x ↦ born_leaf r k l x.1
        ]

        go : (k : t ≤ r) → (v ≡ split_vertex m (row_of m r).parent) ⊎ Holds 3 (corners_of (row_of m (row_of m r).parent)) v
            → ((row_of m r).parent < n → (row_of m r).parent < rows m → Holds 3 (corners_of (row_of m (row_of m r).parent)) v → LeafNow m (drop_one m i gone v) (row_of m r).parent)
            → LeafNow m (drop_one m i gone v) r
        go k (inl e) earlier = born_leaf r k l (sym e)
        go k (inr x) earlier = below k (earlier (omega (arith, (g.child r k l).older)) (parent_there g r k l) x)

  pub drop_free : Free m i (drop_one m i gone v)
  drop_free = record {
    midpoint = λ u e. elim (drop_cases m i gone v u e) [ inl x ↦ f.midpoint u x | inr x ↦ omega (arith, (droppable_says m i gone v x.0).midpoint, x.1) ];
    leaf = λ r u l w e. elim (drop_cases m i gone v u e) [
      | inl x ↦ leaf_later m i gone v (f.leaf r u l w x)
      | inr x ↦ holder_leaf (droppable_says m i gone v x.0) (rows m) r l l (rw x.1 at w)
    ];
  }

-- ---- a list of vertices

none_free : (m : Mesh) (i : ℕ) → Free m i none
none_free m i = record { midpoint = λ v e. absurd (true≢false (sym e)); leaf = λ r v l h e. absurd (true≢false (sym e)) }

pub drop_all_free : {m : Mesh} {i t : ℕ} → Grown m i t → (vs : List ℕ) {gone : ℕ → Bool} → Free m i gone → Free m i (drop_all m i gone vs)
unfolding drop_all
drop_all_free g [] f = f
drop_all_free g (v ∷ vs) f = drop_all_free g vs (drop_free g f v)

-- what a list drops leaves every row that holds one of them a leaf (02, L5)
pub gone_free : {m : Mesh} {i t : ℕ} → Grown m i t → (vs : List ℕ) → Free m i (gone_by m i vs)
gone_free {m} {i} g vs = drop_all_free g vs (none_free m i)
