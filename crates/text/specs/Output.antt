-- The printed lines (01, "The program").
use Rattle.std.specs.Prelude.{List, [], ◌∷◌, ◌++◌, ℕ, zero, suc, ◌+◌, ◌-◌, true, false, eqb, Float, get_or}
use Rattle.std.specs.Float.{binary64}
use Rattle.std.specs.Float.Ieee.{to_bits}
use Rattle.split.specs.declared.row.Row.{Row}
use Rattle.split.specs.declared.point.Point.{Point}
use Rattle.tables.specs.declared.record.Record.{Record}
use Rattle.tables.specs.Layout.{point_at, record_at, row_at}
use Rattle.fields.specs.Digits.{decimal, sixteen}
use Rattle.fields.specs.Field.{tabbed}

-- a letter, fields parted by one tab, and a line feed
abbrev pub written : ℕ → List (List ℕ) → List ℕ
written c fs = (c ∷ tabbed fs) ++ (10 ∷ [])

-- C and four numbers: number, vertices, rows, splits; if refused number, place, 0, 0
unfoldable pub c_line : ℕ → ℕ → ℕ → ℕ → List ℕ
c_line a b c d = written 67 (decimal a ∷ decimal b ∷ decimal c ∷ decimal d ∷ [])

-- P, vertex, two parents, three coordinates
unfoldable pub p_line : ℕ → Record → Point → List ℕ
p_line v r p = written 80 (decimal v ∷ decimal r.first ∷ decimal r.second ∷ sixteen (to_bits binary64 p.x) ∷ sixteen (to_bits binary64 p.y) ∷ sixteen (to_bits binary64 p.z) ∷ [])

-- L, row, root, depth, level, tag, v0 to v3
unfoldable pub l_line : ℕ → ℕ → ℕ → Row → List ℕ
l_line k root level r = written 76 (decimal k ∷ decimal root ∷ decimal r.depth ∷ decimal level ∷ decimal r.tag ∷ decimal r.v0 ∷ decimal r.v1 ∷ decimal r.v2 ∷ decimal r.v3 ∷ [])

-- the row that is its own parent, over row k; no depth is above 60
unfoldable pub root_from : List ℕ → ℕ → ℕ → ℕ
root_from w zero k = k
root_from w (suc f) k = elim (eqb (row_at w k).parent k) [ true ↦ k | false ↦ root_from w f (row_at w k).parent ]

abbrev pub root_of : List ℕ → ℕ → ℕ
root_of w k = root_from w 60 k

-- the texts f 0, f 1, .. below n, one after the other
unfoldable pub texts : (ℕ → List ℕ) → ℕ → List ℕ
texts f zero = []
texts f (suc n) = texts f n ++ f n

-- P lines of the midpoints: the vertices from the first `initial` on
unfoldable pub p_lines : List Float → List ℕ → ℕ → ℕ → List ℕ
p_lines points records initial vertices = texts (λ j. p_line (initial + j) (record_at records (initial + j)) (point_at points (initial + j))) (vertices - initial)

-- the L line of the j-th listed leaf
abbrev pub leaf_line : List ℕ → List ℕ → List ℕ → ℕ → List ℕ
leaf_line rows list levels j = l_line (get_or list j 0) (root_of rows (get_or list j 0)) (get_or levels j 0) (row_at rows (get_or list j 0))

-- L lines of the first n listed leaves
unfoldable pub l_lines : List ℕ → List ℕ → List ℕ → ℕ → List ℕ
l_lines rows list levels n = texts (leaf_line rows list levels) n
