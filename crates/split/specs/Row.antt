-- The split of a table's row (01, "The tables" and "One split"): `Split` at vertex numbers, with what a row has beside its vertices.
use Rattle.std.specs.Prelude.{ℕ, ◌+◌, min, max, Bool, ◌&&◌, cond, eqb, ltb}
use Rattle.split.specs.declared.row.Row.{Row}
use Rattle.split.specs.declared.row.Ends.{Ends}
use Rattle.split.specs.Split.{Tag, one, two, three, number, Corners, corners, far, first, second, Side, left, right, after}

-- A tag in the tables. A number outside 1 to 3 is read as 3, so that every row has an edge and children.
unfoldable pub read_tag : ℕ → Tag
read_tag n = cond (eqb n 1) one (cond (eqb n 2) two three)

abbrev pub corners_of : Row → Corners ℕ
corners_of r = corners r.v0 r.v1 r.v2 r.v3

abbrev pub tag_of : Row → Tag
tag_of r = read_tag r.tag

abbrev pub pair : ℕ → ℕ → Ends
pair a b = record { small = a; large = b }

-- two vertices, the smaller first
abbrev pub ends : ℕ → ℕ → Ends
ends a b = pair (min a b) (max a b)

-- the refinement edge (01, "One split")
unfoldable pub edge_of : Row → Ends
edge_of r = ends r.v0 (far (tag_of r) (corners_of r))

-- one more than the parent's depth; the largest u32 stays as it is
unfoldable pub deeper : ℕ → ℕ
deeper d = cond (ltb d 4294967295) (d + 1) d

-- a child with the given vertices of the row r, whose own number is `own`: a leaf, one deeper, with the tag after r's (01, "The tables")
unfoldable pub below : Row → ℕ → Corners ℕ → Row
below r own c = record {
  v0 = c.v0;
  v1 = c.v1;
  v2 = c.v2;
  v3 = c.v3;
  tag = number (after three (tag_of r));
  parent = own;
  child = 0;
  depth = deeper r.depth;
}

-- a root with the given vertices and tag, whose own number is `own`: its own row as parent, a leaf of depth 0 (01, "Opening")
abbrev pub root : ℕ → ℕ → Corners ℕ → Row
root tag own c = record { v0 = c.v0; v1 = c.v1; v2 = c.v2; v3 = c.v3; tag = tag; parent = own; child = 0; depth = 0 }

-- the row r with other vertices, another parent and another first child: the rest stays
abbrev pub remade : Row → Corners ℕ → ℕ → ℕ → Row
remade r c parent child = record { v0 = c.v0; v1 = c.v1; v2 = c.v2; v3 = c.v3; tag = r.tag; parent = parent; child = child; depth = r.depth }

-- the row with its first child (01, "The tables")
abbrev pub with_child : Row → ℕ → Row
with_child r c = remade r (corners_of r) r.parent c

-- a row but for its first child (01, "Sound tables")
abbrev pub childless : Row → Row
childless r = with_child r 0

-- the same four vertices
unfoldable pub same_corners : Corners ℕ → Corners ℕ → Bool
same_corners c d = eqb c.v0 d.v0 && (eqb c.v1 d.v1 && (eqb c.v2 d.v2 && eqb c.v3 d.v3))

-- two rows are the same but for the first child (01, "Sound tables"; the laws `row_same` and `same_row_lem` say it of `childless`)
unfoldable pub same_row : Row → Row → Bool
same_row a b = same_corners (corners_of a) (corners_of b) && (eqb a.tag b.tag && (eqb a.parent b.parent && eqb a.depth b.depth))

-- the two children of the row r, whose own number is `own`, at the midpoint m (01, "One split")
unfoldable pub first_of : Row → ℕ → ℕ → Row
first_of r own m = below r own (first (tag_of r) (corners_of r) m)

unfoldable pub second_of : Row → ℕ → ℕ → Row
second_of r own m = below r own (second (tag_of r) (corners_of r) m)

abbrev pub child_of : Side → Row → ℕ → ℕ → Row
child_of left = first_of
child_of right = second_of
