-- Undoing gives back the rows as they were: rows are only appended, and a first child is only set from 0.
use mathlib.Core.Path.{◌≡◌, sym, ap, ◌∙◌}
use mathlib.Core.Logic.{inl, inr}
use Prim.Native.Nat.{ℕ, ◌≤◌, ◌<◌}
use native.Mathlib.Decide.{ℕ_discrete}
use native.Mathlib.Omega.{arith}
use borrow.Author.Tests.{le-leb, lt-leb}
use Rattle.split.specs.declared.row.Row.{Row}
use Rattle.split.proofs.laws.Places.{le_or_lt}
use Rattle.split.proofs.laws.Same.{leaf_childless}
use Rattle.tables.specs.Mesh.{Mesh}
use Rattle.sound.specs.Sound.{rows, row_of, childless, Grown}
use Rattle.run.proofs.laws.Grows.{Grows}
use Rattle.frame.specs.Undo.{restored}

restored_new : (n : ℕ) (r : Row) → n ≤ r.child → restored n r ≡ childless r
unfolding restored
restored_new n r h = rw (le-leb n r.child h)

restored_old : (n : ℕ) (r : Row) → r.child < n → restored n r ≡ r
unfolding restored
restored_old n r h = rw (lt-leb n r.child h)

module _ {m m' : Mesh} {i t : ℕ} (g : Grown m i t) (g' : Grown m' i t) (x : Grows m m' i t) where
  -- a leaf that was split since has its children past the old rows
  child_past : (k : ℕ) → k < rows m → (row_of m k).child ≡ 0 → ((row_of m' k).child ≡ 0 → ⊥) → rows m ≤ (row_of m' k).child
  child_past k h l d = elim (le_or_lt (rows m) (row_of m' k).child) [
    | inl a ↦ a
    | inr a ↦ let p = g'.parent k (omega (arith, x.more_rows)) d in
        let up : (row_of m (row_of m' k).child).parent ≡ k = sym (ap (λ (r : Row). r.parent) (x.row (row_of m' k).child a)) ∙ p.first in
        absurd ((g.child (row_of m' k).child p.past a).split (rw up l))
  ]

  pub restored_row : (k : ℕ) → k < rows m → restored (rows m) (row_of m' k) ≡ row_of m k
  restored_row k h = elim (ℕ_discrete (row_of m k).child 0) [
    | no d ↦ let same = x.split k h d in
        let p = g.parent k h d in
        rw same (restored_old (rows m) (row_of m k) (omega (arith, p.both)))
    | yes l ↦ elim (ℕ_discrete (row_of m' k).child 0) [
      | yes e ↦ restored_old (rows m) (row_of m' k) (omega (arith, e, h)) ∙ sym (leaf_childless (row_of m' k) e) ∙ x.row k h ∙ leaf_childless (row_of m k) l
      | no d ↦ restored_new (rows m) (row_of m' k) (child_past k h l d) ∙ x.row k h ∙ leaf_childless (row_of m k) l
    ]
  ]
