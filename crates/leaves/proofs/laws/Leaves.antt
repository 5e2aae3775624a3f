-- The listing of sound tables: every leaf, once, and nothing else; as many as there are roots and splits; and under each root the leaf sum.
use mathlib.Core.Path.{◌≡◌, refl, sym, ap, ◌∙◌}
use mathlib.Core.Bool.{Bool, true, false, not, cond}
use mathlib.Core.HLevel.{⊥_prop}
use mathlib.Core.Logic.{◌↔◌, ◌⊎◌, inl, inr, ◌≢◌, ∥∥₁_elim}
use mathlib.Core.List.Memᴰ
use mathlib.Core.List.Pairwise
use mathlib.Core.List.{List, [], map, Memᴰ, Nodup, Nodup-nil, Nodup-append}
use Prim.Native.Nat.{ℕ, zero, suc, ◌+◌, ◌^◌, ◌≤◌, ◌<◌}
use native.Mathlib.Omega.{arith}
use borrow.Author.Tests.{eqb-true, eq-eqb}
use lib.Dec.{eqb}
use lib.ListN.{length}
use Rattle.split.specs.declared.row.Row.{Row}
use Rattle.split.specs.Split.{Side}
use Rattle.split.proofs.laws.Places.{le_or_lt}
use Rattle.tables.specs.Mesh.{Mesh}
use Rattle.forest.specs.Element.{Element, el}
use Rattle.forest.specs.Shallow.{root_of}
use Rattle.forest.specs.LeafSum.{leaves_from}
use Rattle.intake.specs.Search.{count}
use Rattle.sound.specs.Sound.{rows, row_of, Grown}
use Rattle.sound.specs.Forest.{element_of, splits_in}
use Rattle.sound.proofs.laws.Afresh.{root_depth}
use Rattle.sound.proofs.laws.Elements.{root_element, one_row}
use Rattle.sound.proofs.laws.Placed.{placed}
use Rattle.sound.proofs.laws.Count.{rows_count}
use Rattle.run.specs.Leaves.{split_in}
use Rattle.run.proofs.laws.LeafSum.{Summed}
use Rattle.leaves.specs.Listing.{listing_from, tree_of, trees_below, listing, weights_of}
use Rattle.leaves.proofs.laws.Steps.{tree_root, tree_child}
use Rattle.leaves.proofs.laws.Tree.{sides_of, Under, listed_under, listed_sides, listed_weights}
use Rattle.leaves.proofs.laws.Once.{once_count}

same_element : (e : Element) (k : ℕ) (p : List Side) → root_of e ≡ k → sides_of e ≡ p → e ≡ el k p
same_element (el j q) k p a b = cc

by_sides : (e : Element) (k : ℕ) → root_of e ≡ k → e ≡ el k (sides_of e)
by_sides (el j q) k a = cc

-- leaves and split rows are all rows
count_not : (test : ℕ → Bool) (n : ℕ) → count test n + count (λ q. not (test q)) n ≡ n
unfolding count
count_not test zero = refl
count_not test (suc n) = go (test n) (count_not test n)
  where
    go : (b : Bool) → count test n + count (λ q. not (test q)) n ≡ n → count test n + cond b 1 0 + (count (λ q. not (test q)) n + cond (not b) 1 0) ≡ suc n
    go true e = omega arith
    go false e = omega arith

-- the list has each leaf once and nothing else
pub record AllLeaves (m : Mesh) (l : List ℕ) : Type 0 where
  pub once : Nodup l
  pub are : (q : ℕ) → Memᴰ q l ↔ ((q < rows m) × ((row_of m q).child ≡ 0))

-- the list is the leaves of root k: by their sides as the forest lists them, and with the leaf sum one, as a whole number over 2 ^ 60
pub record RootLeaves (m : Mesh) (t k : ℕ) (l : List ℕ) : Type 0 where
  pub sides : map (λ q. sides_of (element_of m t q)) l ≡ leaves_from 60 (λ q. split_in m t (el k q)) []
  pub sum : weights_of m.rows l ≡ 2 ^ 60
  pub once : Nodup l
  pub are : (q : ℕ) → Memᴰ q l ↔ Under m t k q

module _ {m : Mesh} {i t : ℕ} (g : Grown m i t) (leaves : (k : ℕ) → k < t → Summed m t k (leaves_from 60 (λ q. split_in m t (el k q)) [])) where
  abbrev W : List Row
  W = m.rows

  -- ---- one root

  module _ (k : ℕ) (h : k < t) where
    root_there : k < rows m
    root_there = omega (arith, g.parted.rows_in)

    root_deep : (row_of m k).depth + 60 ≡ 60
    root_deep = omega (arith, root_depth g k h)

    root_sides : map (λ q. sides_of (element_of m t q)) (listing_from W 60 k) ≡ leaves_from 60 (λ q. split_in m t (el k q)) []
    root_sides = listed_sides g 60 k root_there root_deep k [] (root_element m t k h)

    root_under : (q : ℕ) → Memᴰ q (listing_from W 60 k) → Under m t k q
    root_under q o = rw (ap root_of (root_element m t k h)) at (listed_under g 60 k root_there root_deep q o)

    root_has : (q : ℕ) → Under m t k q → Memᴰ q (listing_from W 60 k)
    root_has q u =
        let z = by_sides (element_of m t q) k u.root in
        let o = ((leaves k h).are (sides_of (element_of m t q))).1 (record { row = q; there = u.there; leaf = u.leaf; is = z }) in
        let (j, k', e) = Memᴰ.of_map (λ (q : ℕ). sides_of (element_of m t q)) {b = sides_of (element_of m t q)} (listing_from W 60 k) (rw root_sides o) in
        let v = root_under j k' in
        Memᴰ.cast (one_row g q j u.there v.there (z ∙ sym (same_element (element_of m t j) k (sides_of (element_of m t q)) v.root e))) k'

    pub root_leaves : RootLeaves m t k (listing_from W 60 k)
    root_leaves = record {
      sides = root_sides;
      sum = listed_weights g 60 k root_there root_deep;
      once = Pairwise.of_map {S = λ (a b : List Side). a ≢ b} (λ (q : ℕ). sides_of (element_of m t q)) (λ a b d e. d (ap (λ (q : ℕ). sides_of (element_of m t q)) e)) (rw root_sides (leaves k h).once);
      are = λ q. (root_under q, root_has q);
    }

    pub root_tree : tree_of W k ≡ listing_from W 60 k
    root_tree = tree_root W k (g.parted.roots k h)

  -- ---- all roots

  pub later_tree : (k : ℕ) → t ≤ k → k < rows m → tree_of W k ≡ []
  later_tree k h l = tree_child W k (g.parted.children k h l)

  tree_under : (k : ℕ) → k < rows m → (q : ℕ) → Memᴰ q (tree_of W k) → Under m t k q
  tree_under k l q o = elim (le_or_lt t k) [
    | inl h ↦ absurd (Memᴰ.not-nil (rw (later_tree k h l) at o))
    | inr h ↦ root_under k h q (rw (root_tree k h) at o)
  ]

  tree_once : (k : ℕ) → k < rows m → Nodup (tree_of W k)
  tree_once k l = elim (le_or_lt t k) [ inl h ↦ rw (later_tree k h l) Nodup-nil | inr h ↦ rw (root_tree k h) (root_leaves k h).once ]

  -- row q is a leaf below one of the first n roots
  record Early (n q : ℕ) : Type 0 where
    root : ℕ
    before : root < n
    under : Under m t root q

  trees_under : (n : ℕ) → n ≤ rows m → (q : ℕ) → Memᴰ q (trees_below W n) → Early n q
  unfolding trees_below
  trees_under zero l q o = absurd (Memᴰ.not-nil o)
  trees_under (suc n) l q o = go (trees_under n (omega arith) q) (Memᴰ.append_cases (trees_below W n) o)
    where
      go : (Memᴰ q (trees_below W n) → Early n q) → Memᴰ q (trees_below W n) ⊎ Memᴰ q (tree_of W n) → Early (suc n) q
      go ih (inl o) = let e = ih o in record { root = e.root; before = omega (arith, e.before); under = e.under }
      go ih (inr o) = record { root = n; before = omega arith; under = tree_under n l q o }

  trees_once : (n : ℕ) → n ≤ rows m → Nodup (trees_below W n)
  unfolding trees_below
  trees_once zero l = Nodup-nil
  trees_once (suc n) l = Nodup-append.1 (trees_once n (omega arith), tree_once n l, λ a x y. ∥∥₁_elim x ⊥_prop (λ o. ∥∥₁_elim y ⊥_prop (λ p. apart a (trees_under n (omega arith) a o) (tree_under n l a p))))
    where
      apart : (a : ℕ) → Early n a → Under m t n a → ⊥
      apart a e u = omega (arith, e.before, e.under.root, u.root)

  trees_have : (n k : ℕ) → k < n → (q : ℕ) → Memᴰ q (tree_of W k) → Memᴰ q (trees_below W n)
  unfolding trees_below
  trees_have zero k h q o = absurd (omega arith)
  trees_have (suc n) k h q o = elim (le_or_lt n k) [
    | inl a ↦ let e : k ≡ n = omega arith in Memᴰ.append_right (trees_below W n) (rw e at o)
    | inr a ↦ Memᴰ.append_left (tree_of W n) (trees_have n k a q o)
  ]

  pub all_leaves : AllLeaves m (listing W)
  unfolding listing
  all_leaves = record {
    once = trees_once (rows m) (omega arith);
    are = λ q. (λ o. let e = trees_under (rows m) (omega arith) q o in (e.under.there, e.under.leaf), λ w. has q w.0 w.1);
  }
    where
      has : (q : ℕ) → q < rows m → (row_of m q).child ≡ 0 → Memᴰ q (trees_below W (rows m))
      has q l c =
          let k = root_of (element_of m t q) in
          let h : k < t = (placed g q l).root in
          trees_have (rows m) k (omega (arith, h, g.parted.rows_in)) q (rw (root_tree k h) (root_has k h q (record { there = l; leaf = c; root = refl })))

  pub listing_count : length (listing W) ≡ count (λ q. eqb (row_of m q).child 0) (rows m)
  listing_count = once_count (listing W) (λ q. eqb (row_of m q).child 0) (rows m) all_leaves.once
      (λ q o. let w = (all_leaves.are q).0 o in (w.0, eq-eqb (row_of m q).child 0 w.1))
      (λ q l e. (all_leaves.are q).1 (l, eqb-true (row_of m q).child 0 e))

  -- as many leaves as roots and splits
  pub listing_length : length (listing W) ≡ t + splits_in m
  unfolding splits_in
  listing_length = omega (arith, listing_count, rows_count g, count_not (λ q. eqb (row_of m q).child 0) (rows m))
