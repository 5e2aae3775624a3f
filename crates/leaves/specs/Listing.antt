-- The listing of the leaves and their levels (01, "What comes back").
use Rattle.std.specs.Prelude.{true, false, List, [], ◌∷◌, ◌++◌, ℕ, zero, suc, ◌+◌, ◌-◌, ◌/◌, ◌^◌, eqb, length}
use Rattle.split.specs.declared.row.Row.{Row}
use Rattle.run.specs.Skeleton.{row_in}

-- the level: the number of splits divided by the dimension n, rounded up (02, L1; 000, after equation (10))
unfoldable pub level_of : (n depth : ℕ) → ℕ
level_of n depth = (depth + (n - 1)) / n

-- the level of row k
abbrev pub level_in : List Row → ℕ → ℕ
level_in W k = level_of 3 (row_in W k).depth

-- the leaves at and below row k, the first child's side before the second's; the number bounds how deep to look
unfoldable pub listing_from : List Row → ℕ → ℕ → List ℕ
listing_from W zero k = k ∷ []
listing_from W (suc f) k = elim (eqb (row_in W k).child 0) [ true ↦ k ∷ [] | false ↦ listing_from W f (row_in W k).child ++ listing_from W f ((row_in W k).child + 1) ]

-- the leaves of row k's tree where it is a root; no depth is above 60
unfoldable pub tree_of : List Row → ℕ → List ℕ
tree_of W k = elim (eqb (row_in W k).parent k) [ true ↦ listing_from W 60 k | false ↦ [] ]

-- root by root, of the roots among the first n rows
unfoldable pub trees_below : List Row → ℕ → List ℕ
trees_below W zero = []
trees_below W (suc n) = trees_below W n ++ tree_of W n

unfoldable pub listing : List Row → List ℕ
listing W = trees_below W (length W)

-- 2 ^ 60 times one half to the power of each row's depth, summed (01, "Closure"): not promised to callers, the sum of which the laws speak
unfoldable pub weights_of : List Row → List ℕ → ℕ
weights_of W [] = 0
weights_of W (k ∷ l) = 2 ^ (60 - (row_in W k).depth) + weights_of W l
