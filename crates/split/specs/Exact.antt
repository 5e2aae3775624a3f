-- The exact case (01, "One split"): whole initial coordinates of magnitude at most 2 ^ 30, at most 23 midpoint steps, over whole numbers scaled by 2 ^ 23.
use Rattle.std.specs.Prelude.{◌≡◌, Bool, true, false, ℕ, ◌-◌, ◌*◌, ◌^◌, ◌≤◌, ℤ, pos, neg_ℤ, Float}
use Rattle.std.specs.Float.Ieee.Exact.{HasValue}

-- a whole number by its sign and its magnitude
abbrev pub signed : Bool → ℕ → ℤ
signed false a = pos a
signed true a = neg_ℤ (pos a)

-- x is exactly z / 2 ^ 23 and z can come from k midpoint steps: it is a multiple of 2 ^ (23 - k), of magnitude at most 2 ^ 30 * 2 ^ 23. Both zeros are the number 0.
pub record Reached (k : ℕ) (x : Float) (z : ℤ) : Type 0 where
  pub sign : Bool
  pub units : ℕ
  pub is : z ≡ signed sign (units * 2 ^ (23 - k))
  pub value : HasValue x sign (units * 2 ^ (23 - k)) (2 ^ 23)
  pub within : units * 2 ^ (23 - k) ≤ 2 ^ 53

-- a whole number of magnitude at most 2 ^ 30, as an initial coordinate has it in the exact case
pub record Whole (x : Float) (sign : Bool) (n : ℕ) : Type 0 where
  pub value : HasValue x sign n 1
  pub within : n ≤ 2 ^ 30
