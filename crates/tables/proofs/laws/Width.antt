-- Places in a table whose things are w numbers wide.
use Prim.Native.Nat.{ℕ, ◌+◌, ◌*◌, ◌/◌, ◌≤◌, ◌<◌}
use native.Mathlib.Nat.{le-div_iff_mul-le, mul_comm, mul-suc, mul-le-mul_left}

-- a thing that the table has lies whole in it
pub whole : (w k n : ℕ) → 0 < w → k < n / w → w * k + w ≤ n
whole w k n h b = rw (← mul-suc w k, mul_comm w) ((le-div_iff_mul-le h).0 b)

-- and the table has every thing that lies whole in it
pub has : (w k n : ℕ) → 0 < w → w * k + w ≤ n → k < n / w
has w k n h b = (le-div_iff_mul-le h).1 (rw (mul_comm, mul-suc) b)

-- things of smaller number lie before
pub before : (w j k : ℕ) → j < k → w * j + w ≤ w * k
before w j k h = rw (← mul-suc w j) (mul-le-mul_left w h)
