-- One run splits nothing of depth 3, so the level on an L line is 0 for a root and 1 for every other leaf.
use mathlib.Core.Path.{◌≡◌, refl, sym, ◌∙◌}
use mathlib.Core.List.{List}
use mathlib.Core.Logic.{◌↔◌, inl, inr}
use Prim.Native.Nat.{ℕ, ◌≤◌, ◌<◌}
use native.Mathlib.Omega.{arith}
use Rattle.split.proofs.laws.Places.{le_or_lt}
use Rattle.tables.specs.declared.layout.Counts.{Counts}
use Rattle.tables.specs.Mesh.{Lent, Mesh, mesh_of}
use Rattle.tables.proofs.laws.View.{mesh_row}
use Rattle.forest.specs.Element.{Forest, Element, depth}
use Rattle.forest.specs.Shallow.{Shallow}
use Rattle.forest.specs.Union.{Either}
use Rattle.forest.proofs.Theory.{forced_shallow}
use Rattle.std.specs.Prelude.{Ok}
use Rattle.sound.specs.Sound.{rows, row_of, Sound}
use Rattle.sound.specs.Forest.{forest_of, colour_in, largest_in, element_of, SplitOf}
use Rattle.sound.proofs.laws.Afresh.{root_depth, coloured}
use Rattle.sound.proofs.laws.Elements.{root_element}
use Rattle.sound.proofs.laws.Placed.{placed}
use Rattle.run.specs.Demand.{MarkedIn}
use Rattle.closure.specs.Refine.{Refines, refined_to}
use Rattle.closure.proofs.laws.Accepted.{accepted_sound, accepted_markable, accepted_demanded}
use Rattle.closure.proofs.laws.Opened.{Unsplit}
use Rattle.closure.proofs.laws.Taken.{sound_rows}
use Rattle.leaves.specs.Listing.{level_in}
use Rattle.leaves.proofs.laws.Levels.{row_rounded, row_band}
use Rattle.leaves.proofs.laws.Tree.{below_parent}
use Rattle.text.specs.Input.{Input}
use Rattle.text.specs.Program.{opens, opened_tables}
use Rattle.text.proofs.laws.Never.{opens_unsplit}

module _ {t : Lent} {c : Counts} (u : Unsplit t c) {marks : List ℕ} {d : Counts} {n : ℕ} {t' : Lent} (x : Refines t c marks (refined_to d n) t') where
  abbrev s : Sound t c
  s = u.sound

  abbrev F : Forest
  F = forest_of (mesh_of t c) s.roots

  all_roots : {k : ℕ} → k < rows (mesh_of t c) → k < s.roots
  all_roots h = omega (arith, h, sound_rows s, u.roots_are)

  -- the rows of an opened mesh are unsplit roots, so what is marked has depth 0
  marked_in_first_band : (e : Element) → Either (SplitOf (mesh_of t c) s.roots) (MarkedIn (mesh_of t c) s.roots marks) e → Shallow F 1 e
  marked_in_first_band e (inl w) = let h : w.row < c.rows = omega (arith, w.there, sound_rows s) in absurd (w.split (rw (mesh_row t c w.row h) (u.leaves w.row h)))
  marked_in_first_band e (inr w) =
      let h = all_roots (accepted_markable s x w.row w.listed).there in
      rw (sym w.is ∙ root_element (mesh_of t c) s.roots w.row h) (record { root = h; shallow = omega arith })

  splits_in_first_band : (e : Element) → SplitOf (mesh_of t' d) s.roots e → Shallow F 1 e
  splits_in_first_band e w = forced_shallow F (largest_in (mesh_of t c) s.initials) (colour_in (mesh_of t c) s.initials) (coloured s.grown) 1 marked_in_first_band e ((accepted_demanded s x e).0 w)

  abbrev later : Sound t' d
  later = (accepted_sound s x).sound

  abbrev m : Mesh
  m = mesh_of t' d

  -- so a split row has depth below 3, and its children at most 3
  split_below_three : (q : ℕ) → q < rows m → ((row_of m q).child ≡ 0 → ⊥) → (row_of m q).depth < 3
  split_below_three q l h =
      let e : depth (element_of m s.roots q) ≡ (row_of m q).depth = rw (accepted_sound s x).roots at (placed later.grown q l).depth in
      omega (arith, e, (splits_in_first_band (element_of m s.roots q) (record { row = q; there = l; split = h; is = refl })).shallow)

  row_up_to_three : (k : ℕ) → k < rows m → (row_of m k).depth ≤ 3
  row_up_to_three k l = elim (le_or_lt later.roots k) [
    | inl a ↦ let o = later.grown.child k a l in omega (arith, below_parent later.grown k a l, split_below_three (row_of m k).parent (omega (arith, o.older)) o.split)
    | inr a ↦ omega (arith, root_depth later.grown k a)
  ]

  once_levels : (k : ℕ) → k < rows m → (level_in m.rows k ≤ 1) × ((level_in m.rows k ≡ 0) ↔ ((row_of m k).parent ≡ k))
  once_levels k l = ((row_rounded later k l 1).1 (row_up_to_three k l), row_band later k l)

-- what the program prints of an accepted call: level 0 for a root, and 1 for every other row (02, L1)
pub printed_levels : (i : Input) {c d : Counts} {n : ℕ} {t' : Lent} → opens i ≡ Ok c → Refines (opened_tables i) c i.marks (refined_to d n) t' → (k : ℕ) → k < d.rows
    → (level_in (mesh_of t' d).rows k ≤ 1) × ((level_in (mesh_of t' d).rows k ≡ 0) ↔ ((row_of (mesh_of t' d) k).parent ≡ k))
printed_levels i o x k h = let u = opens_unsplit i o in once_levels u x k (rw (sound_rows (accepted_sound u.sound x).sound) h)
