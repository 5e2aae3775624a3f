-- The rule of Algorithm 2 (000; 01, "Opening") in words that do not speak of a search.
use Rattle.std.specs.Prelude.{◌≡◌, ℕ, ◌<◌}
use Rattle.intake.specs.Cells.{Cells}
use Rattle.intake.specs.Causes.{vertex}

-- u is a neighbour of v of smaller number: one element has both, at two of its places
pub record SmallerNeighbour (E : Cells) (v u : ℕ) : Type 0 where
  pub element : ℕ
  pub place : ℕ
  pub other : ℕ
  pub there : element < E.count
  pub place_in : place < 4
  pub other_in : other < 4
  pub place_is : vertex E element place ≡ v
  pub other_is : vertex E element other ≡ u
  pub less : u < v

-- a neighbour of v of smaller number has the colour x
pub record Had (E : Cells) (colour : ℕ → ℕ) (v x : ℕ) : Type 0 where
  pub by : ℕ
  pub neighbour : SmallerNeighbour E v by
  pub is : colour by ≡ x

-- each of the first n vertices has the smallest colour that no neighbour of smaller number has
pub record Greedy (E : Cells) (n : ℕ) (colour : ℕ → ℕ) : Type 0 where
  pub free : (v : ℕ) → v < n → Had E colour v (colour v) → ⊥
  pub least : (v : ℕ) → v < n → (x : ℕ) → x < colour v → Had E colour v x
