-- What is true of the vertices that are gone while a list is gone through; for laws and for contracts inside.
use Rattle.std.specs.Prelude.{◌≡◌, Bool, true, ℕ, ◌≤◌, ◌<◌}
use Rattle.split.specs.Split.{Holds}
use Rattle.split.specs.Row.{corners_of}
use Rattle.tables.specs.Mesh.{Mesh}
use Rattle.sound.specs.Sound.{rows, row_of}
use Rattle.sound.specs.Follows.{split_vertex}

-- `leaf_now`, by cases
pub data LeafNow (m : Mesh) (gone : ℕ → Bool) (r : ℕ) : Type 0 where
  childless : (row_of m r).child ≡ 0 → LeafNow m gone r
  merged : ((row_of m r).child ≡ 0 → ⊥) → gone (split_vertex m r) ≡ true → LeafNow m gone r

-- only midpoints are gone, and every row that holds one of them is a leaf now
pub record Free (m : Mesh) (i : ℕ) (gone : ℕ → Bool) : Type 0 where
  pub midpoint : (v : ℕ) → gone v ≡ true → i ≤ v
  pub leaf : (r v : ℕ) → r < rows m → Holds 3 (corners_of (row_of m r)) v → gone v ≡ true → LeafNow m gone r
