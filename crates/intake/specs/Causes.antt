-- The causes of numbers 1 to 7 (01, "What comes back"), each a test on the input: coordinates F, elements E as cells.
use Rattle.std.specs.Prelude.{Bool, false, not, ◌&&◌, ◌||◌, List, ℕ, ◌+◌, ◌*◌, ◌%◌, ◌^◌, eqb, ltb, leb, get_or, Float}
use Rattle.std.specs.Float.{nan, inf, fin}
use Rattle.std.specs.Float.Ieee.{up, down}
use Rattle.tables.specs.Layout.{room_of, point_width, record_width, row_width, most_rows, most_vertices}
use Rattle.intake.specs.Search.{any, count}
use Rattle.intake.specs.Cells.{Cells}

-- 1: input length not 3 a vertex or 4 an element; no element; over 20,000 vertices or 100,000 elements
unfoldable pub wrong_input : ℕ → ℕ → Bool
wrong_input coordinates elements =
    not (eqb (coordinates % point_width) 0) || (not (eqb (elements % 4) 0) || (eqb elements 0 || (ltb (point_width * most_vertices) coordinates || ltb (4 * most_rows) elements)))

-- 1: lent length no multiple of 3, 2, 8
unfoldable pub wrong_lent : ℕ → ℕ → ℕ → Bool
wrong_lent points records rows = not (eqb (points % point_width) 0) || (not (eqb (records % record_width) 0) || not (eqb (rows % row_width) 0))

-- 2: more vertices or elements than there is room for
unfoldable pub has_no_room : ℕ → ℕ → ℕ → ℕ → ℕ → Bool
has_no_room vertices elements points records rows = ltb (room_of points records rows).vertices vertices || ltb (room_of points records rows).rows elements

-- a finite number of magnitude at most 2 ^ 1000
unfoldable pub usable : Float → Bool
usable nan = false
usable (inf s) = false
usable (fin s m e) = leb (m * up e) (2 ^ 1000 * down e)

-- 3: a coordinate of vertex v is not finite, or of magnitude over 2 ^ 1000
unfoldable pub unusable : List Float → ℕ → Bool
unusable F v = not (usable (get_or F (point_width * v) nan) && (usable (get_or F (point_width * v + 1) nan) && usable (get_or F (point_width * v + 2) nan)))

-- the vertex at place q of element k
abbrev pub vertex : Cells → ℕ → ℕ → ℕ
vertex E k q = E.vertex k q

-- 4: element k names a vertex that isn't there
unfoldable pub missing : ℕ → Cells → ℕ → Bool
missing vertices E k = leb vertices (vertex E k 0) || (leb vertices (vertex E k 1) || (leb vertices (vertex E k 2) || leb vertices (vertex E k 3)))

-- two of four numbers are equal
unfoldable pub twice : ℕ → ℕ → ℕ → ℕ → Bool
twice a b c d = eqb a b || (eqb a c || (eqb a d || (eqb b c || (eqb b d || eqb c d))))

-- 5: element k names a vertex twice
abbrev pub double : Cells → ℕ → Bool
double E k = twice (vertex E k 0) (vertex E k 1) (vertex E k 2) (vertex E k 3)

-- element k holds the vertex v
unfoldable pub has : Cells → ℕ → ℕ → Bool
has E k v = eqb (vertex E k 0) v || (eqb (vertex E k 1) v || (eqb (vertex E k 2) v || eqb (vertex E k 3) v))

-- 6: an element before k holds the four vertices of k (each has four different ones where number 5 is past)
unfoldable pub same : Cells → ℕ → Bool
same E k = any (λ j. has E j (vertex E k 0) && (has E j (vertex E k 1) && (has E j (vertex E k 2) && has E j (vertex E k 3)))) k

-- how many elements before k hold a, b and c
abbrev pub before : Cells → ℕ → ℕ → ℕ → ℕ → ℕ
before E k a b c = count (λ j. has E j a && (has E j b && has E j c)) k

-- 7: a face of k is in two elements before it
unfoldable pub third : Cells → ℕ → Bool
third E k =
    leb 2 (before E k (vertex E k 0) (vertex E k 1) (vertex E k 2))
    || (leb 2 (before E k (vertex E k 0) (vertex E k 1) (vertex E k 3))
    || (leb 2 (before E k (vertex E k 0) (vertex E k 2) (vertex E k 3)) || leb 2 (before E k (vertex E k 1) (vertex E k 2) (vertex E k 3))))
