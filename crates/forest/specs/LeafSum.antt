-- The leaf sum (01, "Closure"): under each root, one half to the power of each leaf's depth, summed over the leaves, is one, stated as whole numbers over 2 ^ 60.
use Rattle.std.specs.Prelude.{◌≡◌, Bool, true, false, List, [], ◌∷◌, ◌++◌, ℕ, zero, suc, ◌+◌, ◌-◌, ◌^◌, length}
use Rattle.split.specs.Split.{Side, left, right}

-- the leaves at and below an element, the first child's side before the second's; `split` tells which elements are split, and the number bounds how deep to look
unfoldable pub leaves_from : ℕ → (List Side → Bool) → List Side → List (List Side)
leaves_from zero split p = p ∷ []
leaves_from (suc d) split p = elim (split p) [ true ↦ leaves_from d split (left ∷ p) ++ leaves_from d split (right ∷ p) | false ↦ p ∷ [] ]

-- 2 ^ 60 times one half to the power of the depth
abbrev pub weight : List Side → ℕ
weight p = 2 ^ (60 - length p)

unfoldable pub total : List (List Side) → ℕ
total [] = 0
total (p ∷ ps) = weight p + total ps

-- p is in the mesh, split or not: it is the root or a child of a split element
abbrev pub Reached : (List Side → Bool) → List Side → Type 0
Reached split [] = Unit
Reached split (s ∷ p) = split p ≡ true
