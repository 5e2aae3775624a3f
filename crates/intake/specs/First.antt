-- The smallest place where a test holds, in words that do not speak of a search.
use Rattle.std.specs.Prelude.{◌≡◌, Bool, true, false, ℕ, ◌<◌}

-- of the places below n the test holds at p and at no smaller one
pub record FirstAt (test : ℕ → Bool) (n p : ℕ) : Type 0 where
  pub below : p < n
  pub holds : test p ≡ true
  pub not_before : (q : ℕ) → q < p → test q ≡ false

-- the test holds at no place below n
pub record Nowhere (test : ℕ → Bool) (n : ℕ) : Type 0 where
  pub fails : (q : ℕ) → q < n → test q ≡ false
