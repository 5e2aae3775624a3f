-- Searches below a number: the smallest place with a cause, whether there is one, how many there are.
use Rattle.std.specs.Prelude.{Bool, true, false, ◌||◌, cond, ℕ, zero, suc, ◌+◌, ltb, Option, Some, None}

-- what was found, or else the place n where the test holds there
abbrev pub or_at : Option ℕ → Bool → ℕ → Option ℕ
or_at (Some p) b n = Some p
or_at None true n = Some n
or_at None false n = None

-- the smallest place below n where the test holds
unfoldable pub first : (ℕ → Bool) → ℕ → Option ℕ
first test zero = None
first test (suc n) = or_at (first test n) (test n) n

-- whether the test holds at a place below n
unfoldable pub any : (ℕ → Bool) → ℕ → Bool
any test zero = false
any test (suc n) = any test n || test n

-- at how many places below n the test holds
unfoldable pub count : (ℕ → Bool) → ℕ → ℕ
count test zero = 0
count test (suc n) = count test n + cond (test n) 1 0

-- the smallest number below n that is not taken, or n
unfoldable pub free : (ℕ → Bool) → ℕ → ℕ
free taken zero = 0
free taken (suc n) = cond (ltb (free taken n) n) (free taken n) (cond (taken n) (suc n) n)
