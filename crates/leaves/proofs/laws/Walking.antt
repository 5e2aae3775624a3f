-- The walk: what each call of the recursion needs and leaves, root by root and all together.
use mathlib.Core.Path.{◌≡◌, refl, sym, ◌∙◌}
use mathlib.Core.List.{List, [], ◌∷◌, ◌++◌, map, map-append}
use Prim.Native.Nat.{ℕ, suc, ◌+◌, ◌-◌, ◌≤◌, ◌<◌}
use native.Mathlib.Nat.{add-zero}
use native.Mathlib.Omega.{arith}
use lib.ListN.{length, set, length-append, length-map}
use lib.Seq.{sets, length-sets}
use Rattle.split.specs.declared.row.Row.{Row}
use Rattle.tables.specs.Layout.{row_at, most_rows}
use Rattle.leaves.specs.Listing.{level_in, tree_of}
use Rattle.leaves.specs.Walk.{rows_in, below, Branches, Low, Walkable, Stores, StoresOne, Rooted}
use Rattle.leaves.proofs.laws.Steps.{listing_leaf, listing_split, tree_root, tree_child, row_in_lem}

-- ---- runs of stores

pub sets_append : (l : List ℕ) (i : ℕ) (a b : List ℕ) → sets l i (a ++ b) ≡ sets (sets l i a) (i + length a) b
sets_append l i [] b = rw (add-zero i)
sets_append l i (x ∷ a) b = let e : i + suc (length a) ≡ suc i + length a = omega arith in rw e (sets_append (set l i x) (suc i) a b)

-- two runs, one after the other
pub stores_both : {w a b : List ℕ} {at : ℕ} {l v l₁ v₁ l₂ v₂ : List ℕ} {e f : ℕ} → Stores w a at l v e l₁ v₁ → Stores w b e l₁ v₁ f l₂ v₂ → Stores w (a ++ b) at l v f l₂ v₂
stores_both {w} {a} {b} {at} {l} {v} x y = record {
  list_is = y.list_is ∙ rw (x.list_is, x.next) (sym (sets_append l at a b));
  levels_is = y.levels_is ∙ rw (x.levels_is, x.next, map-append (level_in (rows_in w)) a b) (rw lengths at (sym (sets_append v at (map (level_in (rows_in w)) a) (map (level_in (rows_in w)) b))));
  next = omega (arith, x.next, y.next, length-append a b);
}
  where
    lengths : length (map (level_in (rows_in w)) a) ≡ length a
    lengths = length-map a (level_in (rows_in w))

pub stores_list_size : {w a : List ℕ} {at : ℕ} {l v l' v' : List ℕ} {e : ℕ} → Stores w a at l v e l' v' → length l' ≡ length l
stores_list_size {a = a} {at} {l} x = rw x.list_is (length-sets l at a)

pub stores_levels_size : {w a : List ℕ} {at : ℕ} {l v l' v' : List ℕ} {e : ℕ} → Stores w a at l v e l' v' → length v' ≡ length v
stores_levels_size {w} {a} {at} {v = v} x = rw x.levels_is (length-sets v at (map (level_in (rows_in w)) a))

pub stores_none : {w : List ℕ} {at : ℕ} {l v : List ℕ} → Stores w [] at l v at l v
stores_none = record { list_is = refl; levels_is = refl; next = omega arith }

-- ---- below a row

pub below_leaf : (w : List ℕ) (k : ℕ) → (row_at w k).child ≡ 0 → below w k ≡ k ∷ []
unfolding below
below_leaf w k e = listing_leaf (rows_in w) (60 - (row_at w k).depth) k (rw (row_in_lem w k) e)

pub below_split : {w : List ℕ} {n k : ℕ} → Branches w n k → ((row_at w k).child ≡ 0 → ⊥) → below w k ≡ below w (row_at w k).child ++ below w ((row_at w k).child + 1)
unfolding below
below_split {w} {n} {k} b e =
    let f : ℕ = 60 - ((row_at w k).depth + 1) in
    let more : 60 - (row_at w k).depth ≡ suc f = omega (arith, b.shallow) in
    rw (more, b.first, b.second) (rw (row_in_lem w k) at (listing_split (rows_in w) f k (rw (row_in_lem w k) e)))

module _ {w : List ℕ} {k at : ℕ} (x : Walkable w k at) {h : Row} (e : h ≡ row_at w k) where
  module _ (s : h.child ≡ 0) where
    is_leaf : (row_at w k).child ≡ 0
    is_leaf = rw e at s

    leaf_row_low : k < most_rows
    leaf_row_low = omega (arith, x.there, x.wooded.few)

    leaf_place_low : at < most_rows
    leaf_place_low = let r : at + length (below w k) ≤ most_rows = x.room in let o : at + length (k ∷ []) ≤ most_rows = rw (below_leaf w k is_leaf) at r in omega arith

    pub leaf_ready : Low k at
    leaf_ready = record { row_low = leaf_row_low; place_low = leaf_place_low }

    pub leaf_stores : {l v l' v' : List ℕ} {f : ℕ} → StoresOne at k h.depth l v f l' v' → Stores w (below w k) at l v f l' v'
    leaf_stores o = rw (below_leaf w k is_leaf) (record { list_is = o.list_is; levels_is = o.levels_is ∙ rw (e, row_in_lem w k); next = o.next })

  module _ (s : h.child ≡ 0 → ⊥) where
    is_split_lem : (row_at w k).child ≡ 0 → ⊥
    is_split_lem = rw e at s

    forks : Branches w x.rows k
    forks = x.wooded.branches k x.there is_split_lem

    parts : at + (length (below w (row_at w k).child) + length (below w ((row_at w k).child + 1))) ≤ most_rows
    parts = rw (below_split forks is_split_lem, length-append (below w (row_at w k).child) (below w ((row_at w k).child + 1))) at x.room

    module _ {child : ℕ} (ec : child ≡ h.child) where
      here : child ≡ (row_at w k).child
      here = rw e at ec

      pub child_low : child + 1 < most_rows
      child_low = omega (arith, here, forks.both, x.wooded.few)

      pub first_walk : Walkable w child at
      first_walk = rw here (record { rows = x.rows; wooded = x.wooded; there = omega (arith, forks.both); room = omega (arith, parts) })

      pub first_falls : {f : ℕ} → 60 - (row_at w k).depth ≡ f → 60 - (row_at w child).depth < f
      first_falls q = rw (here, forks.first) (omega (arith, forks.shallow, q))

      pub second_falls : {f : ℕ} → 60 - (row_at w k).depth ≡ f → 60 - (row_at w (child + 1)).depth < f
      second_falls q = rw (here, forks.second) (omega (arith, forks.shallow, q))

      pub second_walk : {l v l' v' : List ℕ} {next : ℕ} → Stores w (below w child) at l v next l' v' → Walkable w (child + 1) next
      second_walk {next = next} o = rw here (record { rows = x.rows; wooded = x.wooded; there = forks.both; room = omega (arith, parts, ends) })
        where
          ends : next ≡ at + length (below w (row_at w k).child)
          ends = rw here at o.next

      -- there is room for either side first: the order is a matter of the promise alone
      pub second_start : Walkable w (child + 1) at
      second_start = rw here (record { rows = x.rows; wooded = x.wooded; there = forks.both; room = omega (arith, parts) })

      pub first_after : {l v l' v' : List ℕ} {next : ℕ} → Stores w (below w (child + 1)) at l v next l' v' → Walkable w child next
      first_after {next = next} o = rw here (record { rows = x.rows; wooded = x.wooded; there = omega (arith, forks.both); room = omega (arith, parts, ends) })
        where
          ends : next ≡ at + length (below w ((row_at w k).child + 1))
          ends = rw here at o.next

      pub split_stores : {l v l₁ v₁ l₂ v₂ : List ℕ} {next f : ℕ} → Stores w (below w child) at l v next l₁ v₁ → Stores w (below w (child + 1)) next l₁ v₁ f l₂ v₂ → Stores w (below w k) at l v f l₂ v₂
      split_stores o p = rw (below_split forks is_split_lem) (rw here at (stores_both o p))

pub ruleset walking = (leaf_ready, leaf_stores, child_low, first_walk, second_walk, second_start, first_after, split_stores, first_falls, second_falls, stores_list_size, stores_levels_size)

-- ---- root by root

module _ {w : List ℕ} {k at : ℕ} (x : Rooted w k at) {h : Row} (e : h ≡ row_at w k) {parent : ℕ} (ep : parent ≡ h.parent) where
  module _ (s : parent ≡ k) where
    is_root : (row_at w k).parent ≡ k
    is_root = rw e at (sym ep ∙ s)

    root_tree : tree_of (rows_in w) k ≡ below w k
    unfolding below
    root_tree = rw (x.top is_root) (tree_root (rows_in w) k (rw (row_in_lem w k) is_root))

    pub root_walk : Walkable w k at
    root_walk = record { rows = x.rows; wooded = x.wooded; there = x.there; room = rw root_tree at x.room }

    pub root_stores : {l v l' v' : List ℕ} {f : ℕ} → Stores w (below w k) at l v f l' v' → Stores w (tree_of (rows_in w) k) at l v f l' v'
    root_stores o = rw root_tree o

  pub child_stores : (parent ≡ k → ⊥) → {l v : List ℕ} → Stores w (tree_of (rows_in w) k) at l v at l v
  child_stores s = rw (tree_child (rows_in w) k (rw (row_in_lem w k) (λ z. s (ep ∙ rw e z)))) stores_none

pub ruleset rooting = (root_walk, root_stores, child_stores, stores_list_size, stores_levels_size)
