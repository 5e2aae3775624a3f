-- Closure as a function, where a bound on its steps is given.
use Rattle.std.specs.Prelude.{true, false, List, [], ◌∷◌, ℕ, zero, suc, eqb, None, Some, Option}
use Rattle.run.specs.Skeleton.{Skeleton, row_in}
use Rattle.run.specs.Run.{blocking, split_patch}

-- go on where there is a result
abbrev pub and_then : Option Skeleton → (Skeleton → Option Skeleton) → Option Skeleton
and_then None next = None
and_then (Some T) next = next T

-- leaf r refined; nothing where the steps do not suffice
unfoldable pub refine : ℕ → Skeleton → ℕ → Option Skeleton
refine zero S r = None
refine (suc n) S r = elim (blocking S.rows r) [ None ↦ Some (split_patch S r) | Some b ↦ and_then (refine n S b) (λ T. refine n T r) ]

-- the marks in list order, a row already split passed over
unfoldable pub refine_all : ℕ → Skeleton → List ℕ → Option Skeleton
refine_all n S [] = Some S
refine_all n S (r ∷ rs) = elim (eqb (row_in S.rows r).child 0) [ true ↦ and_then (refine n S r) (λ T. refine_all n T rs) | false ↦ refine_all n S rs ]

-- one call after the other, each given by its marks
unfoldable pub refine_calls : ℕ → Skeleton → List (List ℕ) → Option Skeleton
refine_calls n S [] = Some S
refine_calls n S (c ∷ cs) = and_then (refine_all n S c) (λ T. refine_calls n T cs)
