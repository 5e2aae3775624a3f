-- Sound tables can be listed, and what is listed are their leaves.
use mathlib.Core.Path.{◌≡◌, ◌∙◌}
use mathlib.Core.List.{List}
use mathlib.Core.Logic.{inl, inr}
use Prim.Native.Nat.{ℕ, ◌+◌, ◌<◌}
use native.Mathlib.Omega.{arith}
use lib.Dec.{eqb}
use lib.ListN.{length}
use lib.Ieee.{Float}
use Rattle.split.specs.Split.{left, right}
use Rattle.split.proofs.laws.Places.{le_or_lt}
use Rattle.tables.specs.declared.layout.Counts.{Counts}
use Rattle.tables.specs.Layout.{row_at, no_row}
use Rattle.tables.specs.Mesh.{Lent, Mesh, mesh_of}
use Rattle.tables.proofs.laws.View.{length_up_to, up_to_at}
use Rattle.intake.specs.Search.{count}
use Rattle.opening.proofs.laws.Counting.{count_same}
use Rattle.sound.specs.Sound.{rows, row_of, Sound}
use Rattle.sound.specs.Forest.{splits_in}
use Rattle.sound.specs.Check.{lent}
use Rattle.sound.proofs.laws.Afresh.{root_depth}
use Rattle.run.proofs.laws.Needs.{split_shallow}
use Rattle.closure.proofs.laws.Blank.{rows_blank}
use Rattle.closure.proofs.laws.Entry.{roomy}
use Rattle.closure.proofs.laws.LeafSum.{sound_leaves}
use Rattle.leaves.specs.Listing.{listing_from, listing}
use Rattle.leaves.specs.Walk.{rows_of, leaf_at, Branches, Listable}
use Rattle.leaves.proofs.laws.Tree.{child_depth}
use Rattle.leaves.proofs.laws.Leaves.{AllLeaves, RootLeaves, all_leaves, root_leaves, listing_count, listing_length}

-- ---- what is listed

module _ {t : Lent} {c : Counts} (s : Sound t c) where
  -- every leaf, once, and nothing else
  pub sound_listing : AllLeaves (mesh_of t c) (listing (mesh_of t c).rows)
  sound_listing = all_leaves s.grown (sound_leaves s)

  -- as many as roots and splits
  pub sound_length : length (listing (mesh_of t c).rows) ≡ s.roots + splits_in (mesh_of t c)
  sound_length = listing_length s.grown (sound_leaves s)

  -- under each root the forest's leaves, in its order, with the leaf sum one
  pub sound_root : (k : ℕ) → k < s.roots → RootLeaves (mesh_of t c) s.roots k (listing_from (mesh_of t c).rows 60 k)
  sound_root k h = root_leaves s.grown (sound_leaves s) k h

  sound_count : length (listing (mesh_of t c).rows) ≡ count (λ q. eqb (row_of (mesh_of t c) q).child 0) (rows (mesh_of t c))
  sound_count = listing_count s.grown (sound_leaves s)

-- ---- they can be listed

module _ {p : List Float} {r w : List ℕ} {c : Counts} (s : Sound (lent p r w) c) where
  abbrev m : Mesh
  m = mesh_of (lent p r w) c

  size : rows m ≡ c.rows
  unfolding mesh_of
  size = length_up_to (row_at w) c.rows

  row_is : (q : ℕ) → q < c.rows → row_of m q ≡ row_at w q
  unfolding mesh_of
  row_is q h = up_to_at (row_at w) c.rows q no_row h

  forks : (q : ℕ) → q < c.rows → ((row_at w q).child ≡ 0 → ⊥) → Branches w c.rows q
  forks q h d =
      let l : q < rows m = rw size h in
      let e : (row_of m q).child ≡ 0 → ⊥ = rw (row_is q h) d in
      let both : (row_at w q).child + 1 < c.rows = rw (size, row_is q h) at (s.grown.parent q l e).both in
      record {
        both = both;
        shallow = rw (row_is q h) at (split_shallow s.grown q l e);
        first = rw (row_is q h, row_is (row_at w q).child (omega arith)) at (child_depth s.grown q l e left);
        second = rw (row_is q h, row_is ((row_at w q).child + 1) both) at (child_depth s.grown q l e right);
      }

  top : (k : ℕ) → k < c.rows → (row_at w k).parent ≡ k → (row_at w k).depth ≡ 0
  top k h e = elim (le_or_lt s.roots k) [
    | inl a ↦ absurd (s.grown.parted.children k a (rw size h) (rw (row_is k h) e))
    | inr a ↦ rw (row_is k h) at (root_depth s.grown k a)
  ]

  leaves : count (λ q. eqb (row_of m q).child 0) (rows m) ≡ count (leaf_at w) c.rows
  leaves = rw size (count_same (λ q. eqb (row_of m q).child 0) (leaf_at w) c.rows (λ q h. rw (row_is q h)))

  counted : length (listing (rows_of w c.rows)) ≡ count (leaf_at w) c.rows
  unfolding mesh_of
  counted = sound_count s ∙ leaves

  pub sound_listable : Listable w c.rows
  sound_listable = record {
    wooded = record { few = omega (arith, s.fitting.rows_fit, (roomy (length p) (length r) (length w)).few_rows); branches = forks };
    top = top;
    blank = rows_blank w c.rows s.unused.rows;
    size = counted;
  }
