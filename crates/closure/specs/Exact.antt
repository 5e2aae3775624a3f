-- The exact case on a mesh (01, "One split"): how many midpoint steps lead to a vertex, and one coordinate of a point.
use Rattle.std.specs.Prelude.{ℕ, suc, ◌≤◌, ◌<◌, max, ◌≡◌, Bool, Float}
use Rattle.split.specs.declared.point.Point.{Point}
use Rattle.split.specs.Exact.{Whole}
use Rattle.tables.specs.Mesh.{Mesh}
use Rattle.sound.specs.Sound.{vertices, point_of, record_of}

pub data Axis : Type 0 where
  x_axis : Axis
  y_axis : Axis
  z_axis : Axis

abbrev pub along : Axis → Point → Float
along x_axis p = p.x
along y_axis p = p.y
along z_axis p = p.z

-- where i vertices are initial, k midpoint steps lead to v: none to an initial vertex, and one more than to the later of its parents to a midpoint
pub data Steps (m : Mesh) (i : ℕ) : ℕ → ℕ → Type 0 where
  initial : {v k : ℕ} → v < i → k ≡ 0 → Steps m i v k
  midpoint : {v a b k : ℕ} → i ≤ v → v < vertices m → Steps m i (record_of m v).first a → Steps m i (record_of m v).second b → k ≡ suc (max a b) → Steps m i v k

-- the coordinate of each initial vertex is a whole number of magnitude at most 2 ^ 30
pub record WholeStart (m : Mesh) (i : ℕ) (w : Axis) : Type 0 where
  pub whole : (v : ℕ) → v < i → (sign : Bool) × (size : ℕ) × Whole (along w (point_of m v)) sign size
