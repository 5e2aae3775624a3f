-- The second engine as a function, where a bound on the steps of its loop is given (02, L10).
use Rattle.std.specs.Prelude.{List, [], ◌∷◌, ℕ, zero, suc, None, Some, Option}
use Rattle.run.specs.Skeleton.{Skeleton}
use Rattle.run.specs.Compute.{and_then}
use Rattle.completion.specs.Completion.{lowest, split_one, split_marks}

-- the loop; nothing where the steps do not suffice
unfoldable pub looped : ℕ → Skeleton → Option Skeleton
looped zero S = None
looped (suc n) S = elim (lowest S) [ None ↦ Some S | Some q ↦ looped n (split_one S q) ]

-- one call after the other, each given by its marks
unfoldable pub complete_calls : ℕ → Skeleton → List (List ℕ) → Option Skeleton
complete_calls n S [] = Some S
complete_calls n S (c ∷ cs) = and_then (looped n (split_marks S c)) (λ T. complete_calls n T cs)
