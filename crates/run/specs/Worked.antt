-- W1 to W10 (01, "Small meshes worked out") as one table: what is opened, the calls, and the whole tables after them. `Comes` is what is proved of each case.
use Rattle.std.specs.Prelude.{◌≡◌, cond, List, [], ◌∷◌, ◌++◌, map, ℕ, zero, suc, ◌+◌, ◌*◌, ◌/◌, eqb, length, replicate, Float, Ok, Option, Some, None}
use Rattle.split.specs.declared.row.Row.{Row}
use Rattle.split.specs.Split.{left, right}
use Rattle.tables.specs.declared.record.Record.{Record}
use Rattle.tables.specs.Layout.{no_float, point_width, record_width, row_width, row_from}
use Rattle.tables.specs.Mesh.{Mesh}
use Rattle.forest.specs.Element.{Element, el}
use Rattle.intake.specs.Cells.{quads}
use Rattle.intake.specs.Verdict.{Verdict}
use Rattle.opening.specs.Opening.{initial, judged, opened_mesh}
use Rattle.sound.specs.Sound.{row_of}
use Rattle.sound.specs.Forest.{element_of}
use Rattle.run.specs.Skeleton.{Skeleton, skeleton, meshed}
use Rattle.run.specs.Run.{Calls}
use Rattle.run.specs.Compute.{refine_calls}

-- elements are opened over as many vertices as there are colours; then come the calls, each given by its marks
pub record Case : Type 0 where
  pub elements : List ℕ
  pub calls : List (List ℕ)
  pub colours : List ℕ
  pub midpoints : List Record
  pub rows : List Row
  -- the elements of the split rows, in row order
  pub splits : List Element

abbrev pub of : ℕ → ℕ → Record
of a b = record { first = a; second = b }

-- v0 v1 v2 v3, tag, parent, first child, depth
abbrev pub row : ℕ → ℕ → ℕ → ℕ → ℕ → ℕ → ℕ → ℕ → Row
row a b c d g p k n = row_from (a ∷ b ∷ c ∷ d ∷ g ∷ p ∷ k ∷ n ∷ []) 0

-- the one element of W1
abbrev from_w1 : List (List ℕ) → List Record → List Row → List Element → Case
from_w1 calls midpoints rows splits = record { elements = 0 ∷ 1 ∷ 2 ∷ 3 ∷ []; colours = 0 ∷ 1 ∷ 2 ∷ 3 ∷ []; calls = calls; midpoints = midpoints; rows = rows; splits = splits }

-- the two elements of W5
abbrev from_w5 : List (List ℕ) → List Record → List Row → List Element → Case
from_w5 calls midpoints rows splits = record { elements = 0 ∷ 1 ∷ 2 ∷ 3 ∷ 1 ∷ 2 ∷ 3 ∷ 4 ∷ []; colours = 0 ∷ 1 ∷ 2 ∷ 3 ∷ 0 ∷ []; calls = calls; midpoints = midpoints; rows = rows; splits = splits }

-- the three elements of W7
abbrev from_w7 : List (List ℕ) → List Record → List Row → List Element → Case
from_w7 calls midpoints rows splits = record { elements = 0 ∷ 1 ∷ 2 ∷ 3 ∷ 0 ∷ 1 ∷ 3 ∷ 4 ∷ 0 ∷ 1 ∷ 2 ∷ 4 ∷ []; colours = 0 ∷ 1 ∷ 2 ∷ 3 ∷ 4 ∷ []; calls = calls; midpoints = midpoints; rows = rows; splits = splits }

-- mark 0 of W7: row 1 goes first
abbrev like_w8 : List (List ℕ) → Case
like_w8 calls = from_w7 calls (of 3 4 ∷ of 0 3 ∷ []) (row 0 1 2 3 3 0 5 0 ∷ row 4 0 1 3 3 1 3 0 ∷ row 4 0 1 2 3 2 0 0 ∷ row 4 0 1 5 2 1 0 1 ∷ row 0 1 3 5 2 1 7 1 ∷ row 0 1 2 6 2 0 0 1 ∷ row 1 2 3 6 2 0 0 1 ∷ row 0 1 6 5 1 4 0 2 ∷ row 1 3 6 5 1 4 0 2 ∷ []) (el 0 [] ∷ el 1 [] ∷ el 1 (right ∷ []) ∷ [])

unfoldable pub worked : List Case
worked =
    -- W1: one element
    from_w1 [] [] (row 3 0 1 2 3 0 0 0 ∷ []) [] ∷
    -- W2: W1, mark 0
    from_w1 ((0 ∷ []) ∷ []) (of 2 3 ∷ []) (row 3 0 1 2 3 0 1 0 ∷ row 3 0 1 4 2 0 0 1 ∷ row 0 1 2 4 2 0 0 1 ∷ []) (el 0 [] ∷ []) ∷
    -- W3: then mark 1
    from_w1 ((0 ∷ []) ∷ (1 ∷ []) ∷ []) (of 2 3 ∷ of 1 3 ∷ []) (row 3 0 1 2 3 0 1 0 ∷ row 3 0 1 4 2 0 3 1 ∷ row 0 1 2 4 2 0 0 1 ∷ row 3 0 5 4 1 1 0 2 ∷ row 0 1 5 4 1 1 0 2 ∷ []) (el 0 [] ∷ el 0 (left ∷ []) ∷ []) ∷
    -- W4: then mark 3
    from_w1 ((0 ∷ []) ∷ (1 ∷ []) ∷ (3 ∷ []) ∷ []) (of 2 3 ∷ of 1 3 ∷ of 0 3 ∷ []) (row 3 0 1 2 3 0 1 0 ∷ row 3 0 1 4 2 0 3 1 ∷ row 0 1 2 4 2 0 0 1 ∷ row 3 0 5 4 1 1 5 2 ∷ row 0 1 5 4 1 1 0 2 ∷ row 3 6 5 4 3 3 0 3 ∷ row 0 6 5 4 3 3 0 3 ∷ []) (el 0 [] ∷ el 0 (left ∷ []) ∷ el 0 (left ∷ left ∷ []) ∷ []) ∷
    -- W5: two elements
    from_w5 [] [] (row 3 0 1 2 3 0 0 0 ∷ row 3 4 1 2 3 1 0 0 ∷ []) [] ∷
    -- W6: W5, mark 0
    from_w5 ((0 ∷ []) ∷ []) (of 2 3 ∷ []) (row 3 0 1 2 3 0 2 0 ∷ row 3 4 1 2 3 1 4 0 ∷ row 3 0 1 5 2 0 0 1 ∷ row 0 1 2 5 2 0 0 1 ∷ row 3 4 1 5 2 1 0 1 ∷ row 4 1 2 5 2 1 0 1 ∷ []) (el 0 [] ∷ el 1 [] ∷ []) ∷
    -- W7: three elements
    from_w7 [] [] (row 0 1 2 3 3 0 0 0 ∷ row 4 0 1 3 3 1 0 0 ∷ row 4 0 1 2 3 2 0 0 ∷ []) [] ∷
    -- W8: W7, mark 0
    like_w8 ((0 ∷ []) ∷ []) ∷
    -- W9: W7, marks 0 0
    like_w8 ((0 ∷ 0 ∷ []) ∷ []) ∷
    -- W10: W7, marks 2 0
    from_w7 ((2 ∷ 0 ∷ []) ∷ []) (of 2 4 ∷ of 3 4 ∷ of 0 3 ∷ []) (row 0 1 2 3 3 0 7 0 ∷ row 4 0 1 3 3 1 5 0 ∷ row 4 0 1 2 3 2 3 0 ∷ row 4 0 1 5 2 2 0 1 ∷ row 0 1 2 5 2 2 0 1 ∷ row 4 0 1 6 2 1 0 1 ∷ row 0 1 3 6 2 1 9 1 ∷ row 0 1 2 7 2 0 0 1 ∷ row 1 2 3 7 2 0 0 1 ∷ row 0 1 7 6 1 6 0 2 ∷ row 1 3 7 6 1 6 0 2 ∷ []) (el 0 [] ∷ el 1 [] ∷ el 2 [] ∷ el 1 (right ∷ []) ∷ []) ∷
    -- W10: W7, marks 0 2, with the same elements split
    from_w7 ((0 ∷ 2 ∷ []) ∷ []) (of 3 4 ∷ of 0 3 ∷ of 2 4 ∷ []) (row 0 1 2 3 3 0 5 0 ∷ row 4 0 1 3 3 1 3 0 ∷ row 4 0 1 2 3 2 9 0 ∷ row 4 0 1 5 2 1 0 1 ∷ row 0 1 3 5 2 1 7 1 ∷ row 0 1 2 6 2 0 0 1 ∷ row 1 2 3 6 2 0 0 1 ∷ row 0 1 6 5 1 4 0 2 ∷ row 1 3 6 5 1 4 0 2 ∷ row 4 0 1 7 2 2 0 1 ∷ row 0 1 2 7 2 2 0 1 ∷ []) (el 0 [] ∷ el 1 [] ∷ el 2 [] ∷ el 1 (right ∷ []) ∷ []) ∷
    []

-- ---- what comes out

-- all coordinates zero: they do not matter
abbrev pub coordinates : Case → List Float
coordinates c = replicate (point_width * length c.colours) no_float

-- what opening says of the case, with tables lent that just hold what comes out
abbrev pub verdict : Case → Verdict
verdict c = let vertices = length c.colours + length c.midpoints in judged (coordinates c) c.elements (point_width * vertices) (record_width * vertices) (row_width * length c.rows)

-- records and rows as opened
abbrev pub start : Case → Skeleton
start c = skeleton (opened_mesh (coordinates c) (quads c.elements))

-- records and rows by the table
abbrev pub end : Case → Skeleton
end c = record { records = map initial c.colours ++ c.midpoints; rows = c.rows }

-- the elements of the split rows below n, in row order
unfoldable pub splits_below : Mesh → ℕ → ℕ → List Element
splits_below m t zero = []
splits_below m t (suc n) = splits_below m t n ++ cond (eqb (row_of m n).child 0) [] (element_of m t n ∷ [])

abbrev pub splits_of : Case → Skeleton → List Element
splits_of c S = splits_below (meshed [] S) (length c.elements / 4) (length S.rows)

-- the case comes out as the table says: opening accepts, the calls lead from what is opened to the tables written there, and these split the elements written there
pub record Comes (c : Case) : Type 0 where
  pub opens : verdict c ≡ Ok tt
  pub runs : Calls (start c) c.calls (end c)
  pub splits : splits_of c (end c) ≡ c.splits

-- ---- the same as one test

pub record Outcome : Type 0 where
  pub opens : Verdict
  pub tables : Skeleton
  pub splits : List Element

abbrev pub seen : Case → Option Skeleton → Option Outcome
seen c None = None
seen c (Some S) = Some (record { opens = verdict c; tables = S; splits = splits_of c S })

-- by the definitions of opening and closure
unfoldable pub computed : Case → Option Outcome
computed c = seen c (refine_calls 4 (start c) c.calls)

-- by the table
unfoldable pub expected : Case → Option Outcome
expected c = Some (record { opens = Ok tt; tables = end c; splits = c.splits })
