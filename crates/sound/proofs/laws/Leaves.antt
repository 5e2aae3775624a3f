-- A leaf's edge has no midpoint yet (01, "Sound tables", clause 7).
use mathlib.Core.Path.{◌≡◌, refl}
use Prim.Native.Nat.{ℕ, ◌<◌}
use native.Mathlib.Omega.{arith}
use Rattle.split.specs.Split.{number, far, Holds}
use Rattle.split.specs.Row.{corners_of, tag_of, ends, edge_of}
use Rattle.split.proofs.laws.Tags.{tag_range}
use Rattle.split.proofs.laws.Children.{far_at}
use Rattle.tables.specs.Mesh.{Mesh}
use Rattle.sound.specs.Sound.{rows, row_of, Records, Conforming}
use Rattle.sound.proofs.laws.Names.{kept, swapped, sorted_ends}

module _ {m : Mesh} {i : ℕ} (f : Conforming m i) where
  -- no leaf holds both ends of an edge that has a midpoint
  pub leaf_misses : (q v a b : ℕ) → q < rows m → (row_of m q).child ≡ 0 → Records m i v (ends a b) → Holds 3 (corners_of (row_of m q)) a → Holds 3 (corners_of (row_of m q)) b → ⊥
  leaf_misses q v a b h l w ha hb = elim (sorted_ends a b _ _ w.ends) [
    | kept x y ↦ f.leaf q v h l w.midpoint w.there (rw x ha) (rw y hb)
    | swapped x y ↦ f.leaf q v h l w.midpoint w.there (rw x hb) (rw y ha)
  ]

  pub leaf_whole : (q v : ℕ) → q < rows m → (row_of m q).child ≡ 0 → Records m i v (edge_of (row_of m q)) → ⊥
  unfolding edge_of
  leaf_whole q v h l w =
      leaf_misses q v (row_of m q).v0 (far (tag_of (row_of m q)) (corners_of (row_of m q))) h l w (record { place = 0; inside = omega arith; is = refl })
      (record { place = number (tag_of (row_of m q)); inside = (tag_range (tag_of (row_of m q))).1; is = far_at (corners_of (row_of m q)) (tag_of (row_of m q)) })
