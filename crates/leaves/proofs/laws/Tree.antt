-- One root's tree in sound tables: its listed rows are leaves below the root, as the forest lists them, and their weights add up to one.
use mathlib.Core.Path.{◌≡◌, refl, sym, ap, ◌∙◌}
use mathlib.Core.Bool.{Bool, true, false}
use mathlib.Core.Logic.{inl, inr}
use mathlib.Core.List.Memᴰ
use mathlib.Core.List.{List, [], ◌∷◌, ◌++◌, map, map-append, Memᴰ}
use Prim.Native.Nat.{ℕ, zero, suc, ◌+◌, ◌-◌, ◌^◌, ◌≤◌, ◌<◌}
use native.Mathlib.Nat.{pow-suc}
use native.Mathlib.Decide.{ℕ_discrete}
use native.Mathlib.Omega.{arith}
use Rattle.split.specs.declared.row.Row.{Row}
use Rattle.split.specs.Split.{Side, left, right}
use Rattle.tables.specs.Mesh.{Mesh}
use Rattle.forest.specs.Element.{Element, el, depth}
use Rattle.forest.specs.Shallow.{root_of}
use Rattle.forest.specs.LeafSum.{leaves_from}
use Rattle.sound.specs.Sound.{rows, row_of, place, Grown}
use Rattle.sound.specs.Forest.{grown, element_of}
use Rattle.sound.proofs.laws.Elements.{grown_root, grown_depth}
use Rattle.sound.proofs.laws.Placed.{placed}
use Rattle.sound.proofs.laws.Offspring.{place_below, place_element}
use Rattle.sound.proofs.laws.Splits.{split_row}
use Rattle.run.specs.Skeleton.{row_in}
use Rattle.run.specs.Leaves.{split_in}
use Rattle.run.proofs.laws.Needs.{split_shallow}
use Rattle.run.proofs.laws.LeafSum.{split_in_lem}
use Rattle.leaves.specs.Listing.{listing_from, weights_of}
use Rattle.leaves.proofs.laws.Steps.{listing_end, listing_leaf, listing_split}

-- ---- one step of the forest's listing

module _ (split : List Side → Bool) where
  at_end : (q : List Side) → leaves_from 0 split q ≡ q ∷ []
  unfolding leaves_from
  at_end q = refl

  at_split : (d : ℕ) (q : List Side) → split q ≡ true → leaves_from (suc d) split q ≡ leaves_from d split (left ∷ q) ++ leaves_from d split (right ∷ q)
  unfolding leaves_from
  at_split d q e = rw (e, leaves_from)

  at_leaf : (d : ℕ) (q : List Side) → split q ≡ false → leaves_from (suc d) split q ≡ q ∷ []
  unfolding leaves_from
  at_leaf d q e = rw (e, leaves_from)

untrue : (b : Bool) → (b ≡ true → ⊥) → b ≡ false
untrue true h = absurd (h refl)
untrue false h = refl

abbrev pub sides_of : Element → List Side
sides_of (el k p) = p

grown_is : (s : Side) {e : Element} {r : ℕ} {p : List Side} → e ≡ el r p → grown s e ≡ el r (s ∷ p)
grown_is s e = ap (grown s) e

-- ---- weights

module _ (W : List Row) where
  weights_append : (a b : List ℕ) → weights_of W (a ++ b) ≡ weights_of W a + weights_of W b
  unfolding weights_of
  weights_append [] b = omega arith
  weights_append (k ∷ a) b = omega (arith, weights_append a b)

  weights_one : (f k : ℕ) → (row_in W k).depth + f ≡ 60 → weights_of W (k ∷ []) ≡ 2 ^ f
  unfolding weights_of
  weights_one f k e = go (60 - (row_in W k).depth) (omega arith)
    where
      go : (n : ℕ) → n ≡ f → 2 ^ n + 0 ≡ 2 ^ f
      go n q = rw q (omega arith)

twice : (d : ℕ) → 2 ^ d + 2 ^ d ≡ 2 ^ suc d
twice d = omega (arith, pow-suc 2 d)

-- row q is a leaf below root r
pub record Under (m : Mesh) (t r q : ℕ) : Type 0 where
  pub there : q < rows m
  pub leaf : (row_of m q).child ≡ 0
  pub root : root_of (element_of m t q) ≡ r

module _ {m : Mesh} {i t : ℕ} (g : Grown m i t) where
  abbrev W : List Row
  W = m.rows

  -- a child is one deeper
  pub child_depth : (q : ℕ) (l : q < rows m) (d : (row_of m q).child ≡ 0 → ⊥) (s : Side) → (row_of m (place s (row_of m q).child)).depth ≡ (row_of m q).depth + 1
  child_depth q l d s =
      let b = place_below g q l d s in
      omega (arith, (placed g q l).depth, (placed g (place s (row_of m q).child) b.there).depth, ap depth (place_element g q l d s), grown_depth s (element_of m t q))

  pub below_parent : (r : ℕ) → t ≤ r → r < rows m → (row_of m r).depth ≡ (row_of m (row_of m r).parent).depth + 1
  below_parent r h l = let c = g.child r h l in rw (← c.here) at (child_depth (row_of m r).parent (omega (arith, c.older)) c.split c.side)

  -- a row of depth 60 has no children
  deep_leaf : (k : ℕ) → k < rows m → (row_of m k).depth + 0 ≡ 60 → (row_of m k).child ≡ 0
  deep_leaf k l e = elim (ℕ_discrete (row_of m k).child 0) [ yes h ↦ h | no h ↦ absurd (omega (arith, split_shallow g k l h)) ]

  module _ (f k : ℕ) (l : k < rows m) (d : (row_of m k).child ≡ 0 → ⊥) (e : (row_of m k).depth + suc f ≡ 60) (s : Side) where
    side_there : place s (row_of m k).child < rows m
    side_there = (place_below g k l d s).there

    side_deep : (row_of m (place s (row_of m k).child)).depth + f ≡ 60
    side_deep = omega (arith, child_depth k l d s)

    side_root : root_of (element_of m t (place s (row_of m k).child)) ≡ root_of (element_of m t k)
    side_root = ap root_of (place_element g k l d s) ∙ grown_root s (element_of m t k)

  -- ---- what is listed is a leaf below the same root

  pub listed_under : (f k : ℕ) → k < rows m → (row_of m k).depth + f ≡ 60 → (q : ℕ) → Memᴰ q (listing_from W f k) → Under m t (root_of (element_of m t k)) q
  listed_under zero k l e q h = let z : q ≡ k = Memᴰ.eq_of_singleton (rw listing_end at h) in rw z (record { there = l; leaf = deep_leaf k l e; root = refl })
  listed_under (suc f) k l e q h = go (ℕ_discrete (row_of m k).child 0) (listed_under f)
    where
      go : Dec ((row_of m k).child ≡ 0) → ((j : ℕ) → j < rows m → (row_of m j).depth + f ≡ 60 → (q : ℕ) → Memᴰ q (listing_from W f j) → Under m t (root_of (element_of m t j)) q) → Under m t (root_of (element_of m t k)) q
      go (yes c) ih = let z : q ≡ k = Memᴰ.eq_of_singleton (rw (listing_leaf W (suc f) k c) at h) in rw z (record { there = l; leaf = c; root = refl })
      go (no d) ih = elim (Memᴰ.append_cases (listing_from W f (row_of m k).child) (rw (listing_split W f k d) at h)) [
        | inl o ↦ rw (side_root f k l d e left) at (ih (row_of m k).child (side_there f k l d e left) (side_deep f k l d e left) q o)
        | inr o ↦ rw (side_root f k l d e right) at (ih ((row_of m k).child + 1) (side_there f k l d e right) (side_deep f k l d e right) q o)
      ]

  -- ---- the listed rows are listed as the forest lists their elements

  abbrev sides : ℕ → List Side
  sides q = sides_of (element_of m t q)

  abbrev split : ℕ → List Side → Bool
  split r p = split_in m t (el r p)

  pub listed_sides : (f k : ℕ) → k < rows m → (row_of m k).depth + f ≡ 60 → (r : ℕ) (p : List Side) → element_of m t k ≡ el r p
      → map sides (listing_from W f k) ≡ leaves_from f (split r) p
  listed_sides zero k l e r p z = rw (listing_end, z) (sym (at_end (split r) p))
  listed_sides (suc f) k l e r p z = go (ℕ_discrete (row_of m k).child 0) (listed_sides f)
    where
      go : Dec ((row_of m k).child ≡ 0) → ((j : ℕ) → j < rows m → (row_of m j).depth + f ≡ 60 → (r : ℕ) (p : List Side) → element_of m t j ≡ el r p → map sides (listing_from W f j) ≡ leaves_from f (split r) p) → map sides (listing_from W (suc f) k) ≡ leaves_from (suc f) (split r) p
      go (yes c) ih = rw (listing_leaf W (suc f) k c, z) (sym (at_leaf (split r) f p (untrue (split r p) (λ s. split_row g k l (rw z ((split_in_lem m t (el r p)).0 s)) c))))
      go (no d) ih =
          let s : split r p ≡ true = (split_in_lem m t (el r p)).1 (record { row = k; there = l; split = d; is = z }) in
          ap (map sides) (listing_split W f k d) ∙ map-append sides (listing_from W f (row_of m k).child) (listing_from W f ((row_of m k).child + 1))
          ∙ rw (ih (row_of m k).child (side_there f k l d e left) (side_deep f k l d e left) r (left ∷ p) (place_element g k l d left ∙ grown_is left z), ih ((row_of m k).child + 1) (side_there f k l d e right) (side_deep f k l d e right) r (right ∷ p) (place_element g k l d right ∙ grown_is right z)) (sym (at_split (split r) f p s))

  -- ---- the sum

  pub listed_weights : (f k : ℕ) → k < rows m → (row_of m k).depth + f ≡ 60 → weights_of W (listing_from W f k) ≡ 2 ^ f
  listed_weights zero k l e = rw listing_end (weights_one W 0 k e)
  listed_weights (suc f) k l e = go (ℕ_discrete (row_of m k).child 0) (listed_weights f)
    where
      go : Dec ((row_of m k).child ≡ 0) → ((j : ℕ) → j < rows m → (row_of m j).depth + f ≡ 60 → weights_of W (listing_from W f j) ≡ 2 ^ f) → weights_of W (listing_from W (suc f) k) ≡ 2 ^ suc f
      go (yes c) ih = rw (listing_leaf W (suc f) k c) (weights_one W (suc f) k e)
      go (no d) ih = rw (listing_split W f k d, weights_append W (listing_from W f (row_of m k).child) (listing_from W f ((row_of m k).child + 1)), ih (row_of m k).child (side_there f k l d e left) (side_deep f k l d e left), ih ((row_of m k).child + 1) (side_there f k l d e right) (side_deep f k l d e right)) (twice f)
