-- The test for a leaf, while vertices are dropped, and what it says.
use mathlib.Core.Path.{◌≡◌}
use mathlib.Core.Bool.{Bool, true}
use Prim.Native.Nat.{ℕ}
use native.Mathlib.Decide.{ℕ_discrete}
use borrow.Author.Tests.{eq-eqb, ne_eqb}
use Rattle.tables.specs.Mesh.{Mesh}
use Rattle.sound.specs.Sound.{row_of}
use Rattle.coarsen_theory.specs.Dropping.{leaf_now}
use Rattle.coarsen_theory.specs.Free.{LeafNow, childless, merged}

module _ {m : Mesh} {gone : ℕ → Bool} where
  pub leaf_now_lem : (r : ℕ) → leaf_now m gone r ≡ true → LeafNow m gone r
  unfolding leaf_now
  leaf_now_lem r h = elim (ℕ_discrete (row_of m r).child 0) [ yes e ↦ childless e | no d ↦ merged d (rw (ne_eqb (row_of m r).child 0 d) at h) ]

  pub now_leaf : {r : ℕ} → LeafNow m gone r → leaf_now m gone r ≡ true
  unfolding leaf_now
  now_leaf {r} (childless e) = rw (eq-eqb (row_of m r).child 0 e)
  now_leaf {r} (merged d e) = rw (ne_eqb (row_of m r).child 0 d) e
