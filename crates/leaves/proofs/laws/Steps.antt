-- One step of the listing: at a leaf, at a split row, at a root, at a child; and that only the rows matter, not how they are stored.
use mathlib.Core.Path.{◌≡◌, refl, sym, ap, ◌∙◌}
use mathlib.Core.List.{List, [], ◌∷◌, ◌++◌, map}
use mathlib.Core.Logic.{inl, inr}
use Prim.Native.Nat.{ℕ, zero, suc, ◌+◌, ◌/◌, ◌≤◌}
use native.Mathlib.Decide.{ℕ_discrete}
use native.Mathlib.Numerals.{add-one}
use native.Mathlib.Omega.{arith}
use borrow.Author.Tests.{eq-eqb, ne_eqb}
use lib.ListN.{length, length-append, get_or-eq_default}
use Rattle.split.specs.declared.row.Row.{Row}
use Rattle.split.proofs.laws.Places.{le_or_lt}
use Rattle.tables.specs.Layout.{row_width, row_at, no_row}
use Rattle.tables.proofs.laws.Table.{at_past}
use Rattle.tables.proofs.laws.Rows.{rows}
use Rattle.tables.proofs.laws.View.{length_up_to, up_to_at}
use Rattle.run.specs.Skeleton.{row_in}
use Rattle.leaves.specs.Listing.{level_in, listing_from, tree_of, trees_below, listing}
use Rattle.leaves.specs.Walk.{rows_of, rows_in}

module _ (W : List Row) where
  pub listing_end : (k : ℕ) → listing_from W 0 k ≡ k ∷ []
  unfolding listing_from
  listing_end k = refl

  pub listing_leaf : (f k : ℕ) → (row_in W k).child ≡ 0 → listing_from W f k ≡ k ∷ []
  unfolding listing_from
  listing_leaf zero k e = refl
  listing_leaf (suc f) k e = rw (eq-eqb (row_in W k).child 0 e, listing_from)

  pub listing_split : (f k : ℕ) → ((row_in W k).child ≡ 0 → ⊥) → listing_from W (suc f) k ≡ listing_from W f (row_in W k).child ++ listing_from W f ((row_in W k).child + 1)
  unfolding listing_from
  listing_split f k e = rw (ne_eqb (row_in W k).child 0 e, listing_from)

  pub tree_root : (k : ℕ) → (row_in W k).parent ≡ k → tree_of W k ≡ listing_from W 60 k
  unfolding tree_of
  tree_root k e = rw (eq-eqb (row_in W k).parent k e, tree_of)

  pub tree_child : (k : ℕ) → ((row_in W k).parent ≡ k → ⊥) → tree_of W k ≡ []
  unfolding tree_of
  tree_child k e = rw (ne_eqb (row_in W k).parent k e, tree_of)

  pub trees_none : trees_below W 0 ≡ []
  unfolding trees_below
  trees_none = refl

  pub trees_next : (k : ℕ) → trees_below W (k + 1) ≡ trees_below W k ++ tree_of W k
  unfolding trees_below
  trees_next k = rw (add-one k)

  -- more roots, no fewer leaves
  pub trees_grow : (k n : ℕ) → k ≤ n → length (trees_below W k) ≤ length (trees_below W n)
  unfolding trees_below
  trees_grow k zero h = let e : k ≡ 0 = omega arith in rw e (omega arith)
  trees_grow k (suc n) h = elim (le_or_lt k n) [
    | inl l ↦ omega (arith, trees_grow k n l, length-append (trees_below W n) (tree_of W n))
    | inr l ↦ let e : k ≡ suc n = omega arith in rw e (omega arith)
  ]

-- two lists with the same row at every number
module _ (W V' : List Row) (same : (q : ℕ) → row_in W q ≡ row_in V' q) where
  same_listing : (f k : ℕ) → listing_from W f k ≡ listing_from V' f k
  same_listing zero k = listing_end W k ∙ sym (listing_end V' k)
  same_listing (suc f) k = go (ℕ_discrete (row_in W k).child 0) (same_listing f)
    where
      child : (row_in W k).child ≡ (row_in V' k).child
      child = ap (λ (r : Row). r.child) (same k)

      go : Dec ((row_in W k).child ≡ 0) → ((q : ℕ) → listing_from W f q ≡ listing_from V' f q) → listing_from W (suc f) k ≡ listing_from V' (suc f) k
      go (yes e) ih = listing_leaf W (suc f) k e ∙ sym (listing_leaf V' (suc f) k (sym child ∙ e))
      go (no e) ih = listing_split W f k e ∙ rw (ih (row_in W k).child, ih ((row_in W k).child + 1), child) (sym (listing_split V' f k (λ z. e (child ∙ z))))

  same_tree : (k : ℕ) → tree_of W k ≡ tree_of V' k
  same_tree k = go (ℕ_discrete (row_in W k).parent k)
    where
      parent : (row_in W k).parent ≡ (row_in V' k).parent
      parent = ap (λ (r : Row). r.parent) (same k)

      go : Dec ((row_in W k).parent ≡ k) → tree_of W k ≡ tree_of V' k
      go (yes e) = tree_root W k e ∙ same_listing 60 k ∙ sym (tree_root V' k (sym parent ∙ e))
      go (no e) = tree_child W k e ∙ sym (tree_child V' k (λ z. e (parent ∙ z)))

  pub same_trees : (n : ℕ) → trees_below W n ≡ trees_below V' n
  unfolding trees_below
  same_trees zero = refl
  same_trees (suc n) = rw (trees_below, same_trees n, same_tree n)

  pub same_levels : (l : List ℕ) → map (level_in W) l ≡ map (level_in V') l
  same_levels [] = refl
  same_levels (k ∷ l) = rw (same k, same_levels l)

-- ---- the rows of a table

pub row_in_lem : (w : List ℕ) (q : ℕ) → row_in (rows_in w) q ≡ row_at w q
row_in_lem w q = elim (le_or_lt (length w / row_width) q) [
  | inl b ↦ get_or-eq_default (rows_in w) no_row (rw (length_up_to (row_at w) (length w / row_width)) b) ∙ sym (at_past rows w q b)
  | inr b ↦ up_to_at (row_at w) (length w / row_width) q no_row b
]

module _ (w : List ℕ) (n : ℕ) (blank : (k : ℕ) → n ≤ k → row_at w k ≡ no_row) where
  pub row_of_lem : (q : ℕ) → row_in (rows_of w n) q ≡ row_at w q
  row_of_lem q = elim (le_or_lt n q) [
    | inl b ↦ get_or-eq_default (rows_of w n) no_row (rw (length_up_to (row_at w) n) b) ∙ sym (blank q b)
    | inr b ↦ up_to_at (row_at w) n q no_row b
  ]

  rows_same : (q : ℕ) → row_in (rows_of w n) q ≡ row_in (rows_in w) q
  rows_same q = row_of_lem q ∙ sym (row_in_lem w q)

  pub listing_rows : listing (rows_of w n) ≡ trees_below (rows_in w) n
  unfolding listing
  listing_rows = rw (length_up_to (row_at w) n) (same_trees (rows_of w n) (rows_in w) rows_same n)

  pub levels_rows : (l : List ℕ) → map (level_in (rows_of w n)) l ≡ map (level_in (rows_in w)) l
  levels_rows = same_levels (rows_of w n) (rows_in w) rows_same
