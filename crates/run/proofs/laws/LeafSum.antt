-- The leaf sum on tables (01, "Closure"): under each root the leaves' weights add up to one, and the list they are taken over has each leaf of the mesh once.
use mathlib.Core.Path.{◌≡◌, refl, sym, ◌∙◌}
use mathlib.Core.Bool.{Bool, true, false, true≢false, decide_iff, and-eq-true_iff}
use mathlib.Core.List.{List, [], ◌∷◌, Memᴰ, Nodup}
use mathlib.Core.Logic.Iff
use mathlib.Core.Logic.{◌↔◌}
use Prim.Native.Nat.{ℕ, ◌^◌, ◌<◌}
use native.Mathlib.Decide.{ℕ_discrete}
use native.Mathlib.Omega.{arith}
use borrow.Author.Tests.{eqb-false, ne_eqb, not-true}
use Rattle.split.specs.declared.point.Point.{Point}
use Rattle.split.specs.Split.{Side}
use Rattle.tables.specs.Mesh.{Mesh}
use Rattle.forest.specs.Element.{Element, el, depth}
use Rattle.forest.specs.Closed.{Present, Leaf, Closed}
use Rattle.forest.specs.LeafSum.{leaves_from, total}
use Rattle.forest.proofs.Forced.{present_in}
use Rattle.forest.proofs.LeafSum.{leaf_sum, leaves_once, forest_leaves}
use Rattle.intake.proofs.laws.Search.{any_has, any_some}
use Rattle.sound.specs.Sound.{rows, row_of, Grown, Conforming}
use Rattle.sound.specs.Forest.{forest_of, element_of, SplitOf}
use Rattle.sound.proofs.laws.Placed.{placed}
use Rattle.sound.proofs.laws.Splits.{splits_closed, present_row, leaf_row}
use Rattle.run.specs.Ready.{Ready}
use Rattle.run.specs.Skeleton.{Skeleton, meshed}
use Rattle.run.specs.Leaves.{LeafOf, element_same, split_as, split_in}
use Rattle.run.proofs.laws.Needs.{split_shallow}

-- ---- the test

module _ (m : Mesh) (t : ℕ) (e : Element) where
  split_from : split_in m t e ≡ true → SplitOf m t e
  unfolding split_in
  split_from h =
      let (q, l, both) = any_some (split_as m t e) (rows m) h in
      let (split, is) = (and-eq-true_iff _ _).0 both in
      record { row = q; there = l; split = eqb-false _ _ (not-true _ split); is = (decide_iff (element_same (element_of m t q) e)).0 is }

  split_to : SplitOf m t e → split_in m t e ≡ true
  unfolding split_in
  split_to s = any_has (split_as m t e) (rows m) s.row s.there (rw (ne_eqb (row_of m s.row).child 0 s.split) ((decide_iff (element_same (element_of m t s.row) e)).1 s.is))

  pub split_in_lem : split_in m t e ≡ true ↔ SplitOf m t e
  split_in_lem = (split_from, split_to)

-- which elements are split can be told from the rows
pub split_told : (m : Mesh) (t : ℕ) (e : Element) → Dec (SplitOf m t e)
split_told m t e = go (split_in m t e) refl
  where
    go : (b : Bool) → split_in m t e ≡ b → Dec (SplitOf m t e)
    go true q = yes ((split_in_lem m t e).0 q)
    go false q = no (λ s. true≢false (sym ((split_in_lem m t e).1 s) ∙ q))

-- ---- the leaves

module _ (m : Mesh) (t : ℕ) where
  abbrev Tested : Element → Type 0
  Tested e = split_in m t e ≡ true

  tested_present : (e : Element) → Present (forest_of m t) Tested e ↔ Present (forest_of m t) (SplitOf m t) e
  tested_present e = (present_in (forest_of m t) Tested (SplitOf m t) (split_from m t) e, present_in (forest_of m t) (SplitOf m t) Tested (split_to m t) e)

  leaf_split : (e : Element) → Leaf (forest_of m t) Tested e ↔ Leaf (forest_of m t) (SplitOf m t) e
  leaf_split e = (λ l. record { present = (tested_present e).0 l.present; unsplit = λ s. l.unsplit (split_to m t e s) }, λ l. record { present = (tested_present e).1 l.present; unsplit = λ s. l.unsplit (split_from m t e s) })

module _ {m : Mesh} {i t : ℕ} (g : Grown m i t) where
  -- the leaves of the forest are the rows without children
  pub leaf_rows : (e : Element) → Leaf (forest_of m t) (SplitOf m t) e ↔ LeafOf m t e
  leaf_rows e = (from, λ w. rw (← w.is) (leaf_row g w.row w.there w.leaf))
    where
      from : Leaf (forest_of m t) (SplitOf m t) e → LeafOf m t e
      from l =
          let r = present_row g e l.present in
          elim (ℕ_discrete (row_of m r.row).child 0) [
            | yes leaf ↦ record { row = r.row; there = r.there; leaf = leaf; is = r.is }
            | no split ↦ absurd (l.unsplit (record { row = r.row; there = r.there; split = split; is = r.is }))
          ]

  shallow : (e : Element) → SplitOf m t e → depth e < 60
  shallow e s = rw (← s.is) (omega (arith, (placed g s.row s.there).depth, split_shallow g s.row s.there s.split))

  module _ (f : Conforming m i) where
    test_closed : Closed (forest_of m t) (Tested m t)
    test_closed = let c = splits_closed g f in record {
      parents = λ k s p h. split_to m t (el k p) (c.parents k s p (split_from m t (el k (s ∷ p)) h));
      edges = λ a u p s h. split_to m t a (c.edges a u ((tested_present m t a).0 p) (split_from m t u s) h);
    }

    leaves_are : (k : ℕ) → k < t → (p : List Side) → Memᴰ p (leaves_from 60 (λ q. split_in m t (el k q)) []) ↔ LeafOf m t (el k p)
    leaves_are k h p = Iff.trans (forest_leaves (split_in m t) test_closed (λ k p e. shallow (el k p) (split_from m t (el k p) e)) k h p) (Iff.trans (leaf_split m t (el k p)) (leaf_rows (el k p)))

-- ---- the sum

pub record Summed (m : Mesh) (t k : ℕ) (leaves : List (List Side)) : Type 0 where
  pub sum : total leaves ≡ 2 ^ 60
  pub once : Nodup leaves
  pub are : (p : List Side) → Memᴰ p leaves ↔ LeafOf m t (el k p)

pub table_leaves : (P : List Point) {i t : ℕ} {S : Skeleton} → Ready P i t S → (k : ℕ) → k < t → Summed (meshed P S) t k (leaves_from 60 (λ q. split_in (meshed P S) t (el k q)) [])
table_leaves P {t = t} {S = S} y k h = let split : List Side → Bool = λ q. split_in (meshed P S) t (el k q) in record { sum = leaf_sum split; once = leaves_once split 60 []; are = leaves_are y.grown y.conforming k h }
