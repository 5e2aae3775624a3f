-- A row's depth is how many steps to parents lead to its root, and no depth is above 60.
use mathlib.Core.Path.{◌≡◌, ap, ◌∙◌}
use mathlib.Core.Logic.{inl, inr}
use Prim.Native.Nat.{ℕ, zero, suc, ◌≤◌, ◌<◌}
use native.Mathlib.Omega.{arith}
use lib.ListN.{length}
use Rattle.split.specs.declared.row.Row.{Row}
use Rattle.split.proofs.laws.Places.{le_or_lt}
use Rattle.tables.specs.declared.layout.Counts.{Counts}
use Rattle.tables.specs.Layout.{row_at}
use Rattle.tables.specs.Mesh.{Lent, mesh_of}
use Rattle.tables.proofs.laws.View.{mesh_row}
use Rattle.forest.specs.Element.{Element, depth}
use Rattle.forest.specs.Shallow as forest
use Rattle.sound.specs.Sound.{row_of, Sound}
use Rattle.sound.specs.Forest.{element_of}
use Rattle.sound.proofs.laws.Elements.{grown_root, grown_depth, root_element, child_element}
use Rattle.sound.proofs.laws.Placed.{placed}
use Rattle.closure.proofs.laws.Taken.{sound_rows}
use Rattle.text.specs.Output.{root_from, root_of}
use Rattle.text.proofs.laws.Putting.{root_here, root_over}

module _ {t : Lent} {c : Counts} (s : Sound t c) where
  -- the element of row k
  abbrev pub element : ℕ → Element
  element k = element_of (mesh_of t c) s.roots k

  pub parent_is : (k : ℕ) → k < c.rows → (row_of (mesh_of t c) k).parent ≡ (row_at t.rows k).parent
  parent_is k h = ap (λ (r : Row). r.parent) (mesh_row t c k h)

  here : (f k : ℕ) → k < c.rows → k < s.roots → root_from t.rows f k ≡ forest.root_of (element k)
  here f k h p = root_here t.rows f k (rw (← parent_is k h) (s.grown.parted.roots k p)) ∙ rw (root_element (mesh_of t c) s.roots k p)

  module _ (k : ℕ) (h : k < c.rows) (p : s.roots ≤ k) where
    l : k < length (mesh_of t c).rows
    l = rw (sound_rows s) h

    abbrev q : ℕ
    q = (row_of (mesh_of t c) k).parent

    parent_below : q < c.rows
    parent_below = omega (arith, (s.grown.child k p l).older, h)

    parent_depth : depth (element k) ≡ suc (depth (element q))
    parent_depth = ap depth (child_element s.grown k p l) ∙ grown_depth (s.grown.child k p l).side (element q)

    parent_root : forest.root_of (element k) ≡ forest.root_of (element q)
    parent_root = ap forest.root_of (child_element s.grown k p l) ∙ grown_root (s.grown.child k p l).side (element q)

    over_child : (f : ℕ) → root_from t.rows f q ≡ forest.root_of (element q) → root_from t.rows (suc f) k ≡ forest.root_of (element k)
    over_child f e = root_over t.rows f k (rw (← parent_is k h) (s.grown.parted.children k p l)) ∙ rw (← parent_is k h, parent_root) e

  -- as many steps as the element is deep
  root_reached : (f k : ℕ) → k < c.rows → depth (element k) ≤ f → root_from t.rows f k ≡ forest.root_of (element k)
  root_reached zero k h d = elim (le_or_lt s.roots k) [ inl p ↦ absurd (omega (arith, parent_depth k h p)) | inr p ↦ here zero k h p ]
  root_reached (suc f) k h d = elim (le_or_lt s.roots k) [ inl p ↦ over_child k h p f (root_reached f (row_of (mesh_of t c) k).parent (parent_below k h p) (omega (arith, parent_depth k h p))) | inr p ↦ here (suc f) k h p ]

  -- 60 steps reach the root
  pub root_printed : (k : ℕ) → k < c.rows → root_of t.rows k ≡ forest.root_of (element k)
  root_printed k h = let p = placed s.grown k (rw (sound_rows s) h) in root_reached 60 k h (omega (arith, p.depth, p.shallow))
