-- The row invariant: what the generations of an element's vertices look like (000, equation (6), Lemma 17 and Theorem 10).
-- n is the dimension, g the tag, L the level, and γ p the generation of the vertex at place p.
use Rattle.std.specs.Prelude.{◌≡◌, ℕ, suc, ◌+◌, ◌*◌, ◌≤◌, ◌<◌}
use Rattle.split.specs.Split.{number, at}
use Rattle.forest.specs.Element.{Shape}
use Rattle.forest.specs.Generation.{Gen, gen}

-- v0 has the level of v1 to vg and a greater type, or a smaller level. The bound on the type of v(g+1) says that the midpoint comes before it.
pub data Front (N n g L : ℕ) (γ : ℕ → Gen) : Type 0 where
  even : (γ 0).level ≡ L → (γ 1).type < (γ 0).type → (g < n → (γ (suc g)).type + (γ 0).type < N + 1 + (γ g).type) → Front N n g L γ
  older : (γ 0).level < L → (g < n → (γ (suc g)).type < (γ g).type) → Front N n g L γ

pub record Invariant (N n g L : ℕ) (γ : ℕ → Gen) : Type 0 where
  -- v1 to vg have level L, v(g+1) to vn the next one
  pub low : (p : ℕ) → 1 ≤ p → p ≤ g → (γ p).level ≡ L
  pub high : (p : ℕ) → g < p → p ≤ n → (γ p).level ≡ suc L
  -- in each of the two groups the types fall
  pub falls_low : (p q : ℕ) → 1 ≤ p → p < q → q ≤ g → (γ q).type < (γ p).type
  pub falls_high : (p q : ℕ) → g < p → p < q → q ≤ n → (γ q).type < (γ p).type
  -- types are from 1 to N
  pub least : (p : ℕ) → p ≤ n → 1 ≤ (γ p).type
  pub most : (p : ℕ) → p ≤ n → (γ p).type ≤ N
  pub front : Front N n g L γ

-- of an element of the given depth: depth = n (L - 1) + (n - g), written without subtraction
pub record Fits (N : ℕ) (colour : ℕ → ℕ) (n depth : ℕ) (x : Shape) : Type 0 where
  pub level : ℕ
  pub tagged : number x.tag ≤ n
  pub deep : depth + number x.tag ≡ n * level
  pub row : Invariant N n (number x.tag) level (λ p. gen N colour (at x.corners p))
