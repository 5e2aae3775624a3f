-- What the two passes over the old rows know after the rows below x; for contracts inside.
use Rattle.std.specs.Prelude.{◌≡◌, Bool, true, ℕ, ◌+◌, ◌<◌, length}
use Rattle.split.specs.Split.{Side}
use Rattle.tables.specs.Mesh.{Mesh}
use Rattle.forest.specs.Element.{Element}
use Rattle.sound.specs.Sound.{row_of, place}
use Rattle.sound.specs.Forest.{element_of}
use Rattle.run.specs.Skeleton.{Skeleton}
use Rattle.salvage_theory.specs.Kept.{Reached, Kept}
use Rattle.salvage_theory.specs.Rebuild.{mesh_from}

-- row r is reached, as some element
pub record ReachedRow (m : Mesh) (t r : ℕ) : Type 0 where
  pub element : Element
  pub reached : Reached m t r element

-- the first pass: the flagged rows are reached; roots and the children of kept rows below x are flagged
pub record Flagging (m : Mesh) (t x : ℕ) (flag : ℕ → Bool) : Type 0 where
  pub only : (r : ℕ) → flag r ≡ true → ReachedRow m t r
  pub roots : (r : ℕ) → r < t → flag r ≡ true
  pub children : (p : ℕ) (e : Element) (s : Side) → p < x → Kept m t p e → flag (place s (row_of m p).child) ≡ true

-- the old row q is reached, and row k of the new tables is its element
pub record Moved (m : Mesh) (i t : ℕ) (T : Skeleton) (q k : ℕ) : Type 0 where
  pub element : Element
  pub reached : Reached m t q element
  pub there : k < length T.rows
  pub is : element_of (mesh_from m i T) t k ≡ element

-- the second pass: a place is the new row and one, and 0 for none; roots and the children of kept rows below x have one
pub record Placing (m : Mesh) (i t x : ℕ) (T : Skeleton) (new : ℕ → ℕ) : Type 0 where
  pub told : (q k : ℕ) → new q ≡ k + 1 → Moved m i t T q k
  pub roots : (q : ℕ) → q < t → new q ≡ 0 → ⊥
  pub children : (p : ℕ) (e : Element) (s : Side) → p < x → Kept m t p e → new (place s (row_of m p).child) ≡ 0 → ⊥
