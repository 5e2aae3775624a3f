-- The level of an element: the largest level of its vertices v0 to vn (000, equation (10)).
use Rattle.std.specs.Prelude.{◌≡◌, ℕ, ◌≤◌}
use Rattle.split.specs.Split.{at}
use Rattle.forest.specs.Element.{Shape}
use Rattle.forest.specs.Generation.{gen}

pub record LevelOf (N : ℕ) (colour : ℕ → ℕ) (n : ℕ) (x : Shape) (l : ℕ) : Type 0 where
  pub most : (p : ℕ) → p ≤ n → (gen N colour (at x.corners p)).level ≤ l
  pub place : ℕ
  pub inside : place ≤ n
  pub is : (gen N colour (at x.corners place)).level ≡ l
