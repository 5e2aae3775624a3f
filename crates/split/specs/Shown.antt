-- How a row and an edge are shown: decimal numbers with a space between two.
use Rattle.std.specs.Prelude.{List, [], ◌∷◌, ◌++◌, ℕ}
use Rattle.std.specs.Fmt.{decimal}
use Rattle.split.specs.declared.row.Row.{Row}
use Rattle.split.specs.declared.row.Ends.{Ends}

-- numbers in decimal, with a space between two
abbrev pub spaced : List ℕ → List ℕ
spaced [] = []
spaced (n ∷ []) = decimal n
spaced (n ∷ m ∷ ns) = decimal n ++ (32 ∷ spaced (m ∷ ns))

-- v0 to v3, tag, parent, first child, depth
abbrev pub row_text : Row → List ℕ
row_text r = spaced (r.v0 ∷ r.v1 ∷ r.v2 ∷ r.v3 ∷ r.tag ∷ r.parent ∷ r.child ∷ r.depth ∷ [])

-- the smaller end and the larger
abbrev pub ends_text : Ends → List ℕ
ends_text e = spaced (e.small ∷ e.large ∷ [])
