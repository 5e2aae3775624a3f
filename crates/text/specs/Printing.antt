-- What the loops of the printer need and leave. Nothing here is promised to callers.
use Rattle.std.specs.Prelude.{◌≡◌, List, ℕ, ◌+◌, ◌*◌, ◌-◌, ◌≤◌, length}

-- there is room for the P lines of the vertices from v to n
pub record PrintsMidpoints (v n at : ℕ) : Type 0 where
  pub within : v ≤ n
  pub fits : at + 116 * (n - v) ≤ 262144

-- there is room for the L lines of all listed leaves, each with a level
pub record PrintsLeaves (list levels : List ℕ) (at : ℕ) : Type 0 where
  pub levelled : length levels ≡ length list
  pub fits : at + 191 * length list ≤ 262144
