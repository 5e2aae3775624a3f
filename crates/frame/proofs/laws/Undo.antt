-- One row as it was.
use mathlib.Core.Path.{◌≡◌}
use Prim.Native.Nat.{ℕ, ◌≤◌, ◌<◌}
use native.Mathlib.Omega.{arith}
use borrow.Author.Tests.{le-leb, lt-leb}
use Rattle.split.specs.declared.row.Row.{Row}
use Rattle.split.specs.Row.{childless}
use Rattle.frame.specs.Undo.{restored}

module _ (n : ℕ) (r : Row) {child : ℕ} (is : child ≡ r.child) where
  pub restored_kept : child < n → r ≡ restored n r
  unfolding restored
  restored_kept h = rw (lt-leb n r.child (omega (arith, is, h)))

  pub restored_child : {p : Row} → p ≡ childless r → n ≤ child → p ≡ restored n r
  unfolding restored
  restored_child e h = rw (le-leb n r.child (omega (arith, is, h))) e

pub ruleset restoring = (restored_kept, restored_child)
