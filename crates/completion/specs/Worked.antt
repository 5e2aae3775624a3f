-- W1 to W10 (01, "Small meshes worked out") by the second engine (02, L10): as many vertices and rows as in the table, and the same split elements; and W8's own rows.
use Rattle.std.specs.Prelude.{List, [], ◌∷◌, ℕ, ◌+◌, ◌*◌, ◌/◌, length, replicate, Option, Some, None}
use Rattle.tables.specs.Layout.{no_float, point_width}
use Rattle.forest.specs.Element.{Element}
use Rattle.intake.specs.Cells.{quads}
use Rattle.opening.specs.Opening.{opened_mesh}
use Rattle.run.specs.Skeleton.{Skeleton, skeleton}
use Rattle.run.specs.Worked.{Case, of, row, splits_below}
use Rattle.completion.specs.Compute.{complete_calls}

-- counts and split elements, in row order
pub record Summary : Type 0 where
  pub vertices : ℕ
  pub rows : ℕ
  pub splits : List Element

abbrev opened : List ℕ → ℕ → Skeleton
opened elements n = skeleton (opened_mesh (replicate (point_width * n) no_float) (quads elements))

abbrev summed : ℕ → Option Skeleton → Option Summary
summed t None = None
summed t (Some S) = Some (record { vertices = length S.records; rows = length S.rows; splits = splits_below (record { points = []; records = S.records; rows = S.rows }) t (length S.rows) })

unfoldable pub computed : Case → Option Summary
computed c = summed (length c.elements / 4) (complete_calls 4 (opened c.elements (length c.colours)) c.calls)

unfoldable pub expected : Case → Option Summary
expected c = Some (record { vertices = length c.colours + length c.midpoints; rows = length c.rows; splits = c.splits })

-- W7, mark 0: row 0 is split at once, and then row 1, which holds both parents of vertex 5
unfoldable pub eighth : Option Skeleton
eighth = complete_calls 4 (opened (0 ∷ 1 ∷ 2 ∷ 3 ∷ 0 ∷ 1 ∷ 3 ∷ 4 ∷ 0 ∷ 1 ∷ 2 ∷ 4 ∷ []) 5) ((0 ∷ []) ∷ [])

unfoldable pub eighth_table : Option Skeleton
eighth_table = Some (record {
  records = of 0 4294967295 ∷ of 1 4294967295 ∷ of 2 4294967295 ∷ of 3 4294967295 ∷ of 4 4294967295 ∷ of 0 3 ∷ of 3 4 ∷ [];
  rows = row 0 1 2 3 3 0 3 0 ∷ row 4 0 1 3 3 1 5 0 ∷ row 4 0 1 2 3 2 0 0 ∷ row 0 1 2 5 2 0 0 1 ∷ row 1 2 3 5 2 0 0 1 ∷ row 4 0 1 6 2 1 0 1 ∷ row 0 1 3 6 2 1 7 1 ∷ row 0 1 5 6 1 6 0 2 ∷ row 1 3 5 6 1 6 0 2 ∷ [];
})
