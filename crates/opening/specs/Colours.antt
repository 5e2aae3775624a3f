-- The colours of Algorithm 2 (000; 01, "Opening"): in number order each vertex takes the smallest colour that no neighbour of smaller number has.
use Rattle.std.specs.Prelude.{Bool, ◌&&◌, List, [], ◌∷◌, ◌++◌, ℕ, zero, suc, max, eqb, ltb, get_or}
use Rattle.intake.specs.Cells.{Cells}
use Rattle.intake.specs.Search.{any, free}
use Rattle.intake.specs.Causes.{vertex, has}

-- the vertex at place q of element j is smaller than v and has the colour c; `painted` has the colours of the smaller vertices
abbrev pub smaller : Cells → List ℕ → ℕ → ℕ → ℕ → ℕ → Bool
smaller E painted v c j q = ltb (vertex E j q) v && eqb (get_or painted (vertex E j q) 0) c

-- a neighbour of v of smaller number has the colour c: one element holds both
unfoldable pub taken : Cells → List ℕ → ℕ → ℕ → Bool
taken E painted v c = any (λ j. has E j v && any (smaller E painted v c j) 4) E.count

-- the colours of the first v vertices; a vertex in no element has colour 0. Fewer than v + 1 colours are in use below v, so looking below v finds the smallest free one or v.
unfoldable pub colours : Cells → ℕ → List ℕ
colours E zero = []
colours E (suc v) = colours E v ++ (free (taken E (colours E v) v) v ∷ [])

-- the colour of vertex v
abbrev pub colour_of : Cells → ℕ → ℕ
colour_of E v = free (taken E (colours E v) v) v

-- 8: the colour of v is over 63
abbrev pub garish : Cells → ℕ → Bool
garish E v = ltb 63 (colour_of E v)

-- N, the largest colour
unfoldable pub largest : List ℕ → ℕ
largest [] = 0
largest (c ∷ cs) = max c (largest cs)
