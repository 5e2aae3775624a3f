-- The tables of a call while opening looks at the input: the index, its heads before its links, and the colours; and what each step keeps true of them. Nothing here is promised to callers.
use Rattle.std.specs.Prelude.{◌≡◌, Bool, true, false, ◌&&◌, ◌||◌, cond, ◌⊎◌, List, ℕ, zero, suc, ◌+◌, ◌*◌, ◌/◌, ◌%◌, ◌≤◌, ◌<◌, max, eqb, ltb, leb, length, get_or, set, replicate, Float, Option, None, Ok}
use Rattle.tables.specs.Layout.{most_rows, most_vertices, point_width, record_width, row_width}
use Rattle.chain.specs.Chain.{Indexed}
use Rattle.tables.specs.declared.refusal.Cause.TheVariants.{Same, Third}
use Rattle.intake.specs.declared.grid.Four.{Four}
use Rattle.opening.specs.declared.faces.Seen.{Seen}
use Rattle.opening.specs.declared.faces.Met.{Met}
use Rattle.intake.specs.Verdict.{Verdict, at, plain}
use Rattle.opening.specs.Opening.{late, judged}
use Rattle.intake.specs.Search.{first, count}
use Rattle.intake.specs.Cells.{Cells, quads}
use Rattle.intake.specs.Causes.{vertex, has, before, same, third}
use Rattle.opening.specs.Colours.{taken, colours, garish}

abbrev pub links_at : ℕ
links_at = most_vertices

-- the key of corner slot i: four slots an element
abbrev pub slot : Cells → ℕ → ℕ
slot E i = vertex E (i / 4) (i % 4)

-- elements that passed tests 1, 2, 4 and 5
pub record Plain (vertices : ℕ) (E : Cells) : Type 0 where
  pub few : E.count ≤ most_rows
  pub most : vertices ≤ most_vertices
  pub there : (k q : ℕ) → k < E.count → q < 4 → vertex E k q < vertices
  pub apart : (k p q : ℕ) → k < E.count → p < 4 → q < 4 → vertex E k p ≡ vertex E k q → p ≡ q

-- lengths that passed tests 1 and 2
pub record Roomy (coordinates elements points records rows : ℕ) : Type 0 where
  pub whole : (coordinates / point_width) * 3 ≡ coordinates
  pub points_fit : point_width * (coordinates / point_width) ≤ points
  pub records_fit : record_width * (coordinates / point_width) ≤ records
  pub rows_fit : row_width * (elements / 4) ≤ rows

-- an index with room for all corner slots that has the first n of them
pub record Filled (E : Cells) (n : ℕ) (table : List ℕ) : Type 0 where
  pub room : links_at + 4 * E.count ≤ length table
  pub index : Indexed (slot E) n links_at table

-- every corner slot is in the index
abbrev pub Ready : Cells → List ℕ → Type 0
Ready E index = Filled E (4 * E.count) index

-- a table of colours, all zero
pub record Clear (paint : List ℕ) : Type 0 where
  pub zeros : (u : ℕ) → get_or paint u 0 ≡ 0

-- a place of an element, one of two
pub record Chosen (p q r : ℕ) : Type 0 where
  pub low : r < 4
  pub one : (r ≡ p) ⊎ (r ≡ q)

-- a place of an element other than m
pub record Other (m r : ℕ) : Type 0 where
  pub low : r < 4
  pub apart : r ≡ m → ⊥

-- counts that one more element leaves in range
pub record Few (s : Seen) : Type 0 where
  pub all : s.all ≤ 4 * most_rows
  pub ab : s.ab ≤ 4 * most_rows
  pub ac : s.ac ≤ 4 * most_rows
  pub bc : s.bc ≤ 4 * most_rows

-- 1 where the test holds
abbrev pub one : Bool → ℕ
one t = cond t 1 0

-- one of four vertices is v
unfoldable pub among : Four → ℕ → Bool
among w v = eqb w.a v || (eqb w.b v || (eqb w.c v || eqb w.d v))

-- the vertex at a place of four, and all four from this place on
unfoldable pub place_of : Four → ℕ → ℕ
place_of w zero = w.a
place_of w (suc zero) = w.b
place_of w (suc (suc zero)) = w.c
place_of w (suc (suc (suc q))) = w.d

unfoldable pub turned_of : Four → ℕ → Four
turned_of w m = record { a = place_of w m; b = place_of w ((m + 1) % 4); c = place_of w ((m + 2) % 4); d = place_of w ((m + 3) % 4) }

-- one element more, which holds a, b, c or not
unfoldable pub noted : Bool → Bool → Bool → Seen → Seen
noted a b c s = record { all = s.all + one (a && (b && c)); ab = s.ab + one (a && b); ac = s.ac + one (a && c); bc = s.bc + one (b && c) }

-- what the elements before k that hold v hold of a, b and c
pub record Counted (E : Cells) (k v a b c : ℕ) (s : Seen) : Type 0 where
  pub all : s.all ≡ count (λ j. has E j v && (has E j a && (has E j b && has E j c))) k
  pub ab : s.ab ≡ before E k v a b
  pub ac : s.ac ≡ before E k v a c
  pub bc : s.bc ≡ before E k v b c

-- two of them hold the same two of a, b and c
unfoldable pub crowd : Seen → Bool
crowd s = ltb 1 s.ab || (ltb 1 s.ac || ltb 1 s.bc)

-- how many elements before k hold its face opposite to place o
unfoldable pub opposite : Cells → ℕ → ℕ → ℕ
opposite E k zero = before E k (vertex E k 1) (vertex E k 2) (vertex E k 3)
opposite E k (suc zero) = before E k (vertex E k 0) (vertex E k 2) (vertex E k 3)
opposite E k (suc (suc zero)) = before E k (vertex E k 0) (vertex E k 1) (vertex E k 3)
opposite E k (suc (suc (suc o))) = before E k (vertex E k 0) (vertex E k 1) (vertex E k 2)

-- number 6 at element k, and number 7 as its faces at place m have it
pub record Around (E : Cells) (k m : ℕ) (r : Met) : Type 0 where
  pub same : r.same ≡ same E k
  pub some : r.third ≡ true → third E k ≡ true
  pub none : r.third ≡ false → (o : ℕ) → o < 4 → (o ≡ m → ⊥) → leb 2 (opposite E k o) ≡ false

-- numbers 6 and 7 at element k
pub record Meets (E : Cells) (k : ℕ) (r : Met) : Type 0 where
  pub same : r.same ≡ same E k
  pub third : r.third ≡ third E k

-- the colours of the first v vertices stand in the table and zeros after them, and none is over 63
pub record Painted (E : Cells) (v : ℕ) (paint : List ℕ) : Type 0 where
  pub colour : (u : ℕ) → get_or paint (u) 0 ≡ get_or (colours E v) u 0
  pub small : (u : ℕ) → u < v → get_or (colours E v) u 0 ≤ 63

-- sixty-four flags, none set
abbrev pub no_flags : List Bool
no_flags = replicate 64 false

-- the flags with the colour of u set where u is smaller than v
unfoldable pub marked : List ℕ → ℕ → ℕ → List Bool → List Bool
marked paint v u flags = cond (ltb u v) (set flags (get_or paint u 0) true) flags

unfoldable pub marked_all : Cells → List ℕ → ℕ → ℕ → List Bool → List Bool
marked_all E paint v k flags =
    marked paint v (vertex E k 3) (marked paint v (vertex E k 2) (marked paint v (vertex E k 1) (marked paint v (vertex E k 0) flags)))

-- flag c is set exactly if a smaller neighbour of v has the colour c
pub record Marks (E : Cells) (v : ℕ) (flags : List Bool) : Type 0 where
  pub size : length flags ≡ 64
  pub set : (c : ℕ) → c < 64 → taken E (colours E v) v c ≡ get_or flags c false

-- the smallest vertex with a colour over 63; where there is none, all colours stand in the table
pub record Coloured (vertices : ℕ) (E : Cells) (r : Option ℕ) (paint : List ℕ) : Type 0 where
  pub answer : r ≡ first (garish E) vertices
  pub painted : r ≡ None → Painted E vertices paint

-- the verdict of tests 6 and 7; where they pass, every corner slot is in the index
pub record Sifted (E : Cells) (r : Verdict) (index : List ℕ) : Type 0 where
  pub answer : r ≡ at (first (same E) E.count) Same (at (first (third E) E.count) Third (Ok tt))
  pub ready : r ≡ Ok tt → Ready E index

-- the verdict of tests 6 to 8; where they pass, all colours stand in the table
pub record Judged (vertices : ℕ) (E : Cells) (r : Verdict) (paint : List ℕ) : Type 0 where
  pub answer : r ≡ late E vertices
  pub painted : r ≡ Ok tt → Painted E vertices paint

-- an input within capacity
pub record Moderate (coordinates elements : ℕ) : Type 0 where
  pub few_coordinates : coordinates ≤ point_width * most_vertices
  pub few_elements : elements ≤ most_rows

-- the verdict of tests 3 to 8; where they pass, the elements are plain and all colours stand in the table
pub record Passing (F : List Float) (E : Cells) (r : Verdict) (paint : List ℕ) : Type 0 where
  pub answer : r ≡ plain F E (late E (length F / point_width))
  pub plain : r ≡ Ok tt → Plain (length F / point_width) E
  pub painted : r ≡ Ok tt → Painted E (length F / point_width) paint

-- all that storing the opened mesh relies on
pub record Storable (F : List Float) (E paint : List ℕ) (points records rows : ℕ) : Type 0 where
  pub plain : Plain (length F / point_width) (quads E)
  pub painted : Painted (quads E) (length F / point_width) paint
  pub room : Roomy (length F) (length E) points records rows

-- the verdict of all tests; where they pass, the input is plain and all colours stand in the table
pub record Settled (F : List Float) (E : List ℕ) (points records rows : ℕ) (r : Verdict) (paint : List ℕ) : Type 0 where
  pub answer : r ≡ judged F E points records rows
  pub storable : r ≡ Ok tt → Storable F E paint points records rows

-- the colour of v as the table has it
abbrev pub colour_in : List ℕ → ℕ → ℕ
colour_in paint v = get_or paint (v) 0

-- the largest of the first v colours of a table
unfoldable pub most_of : List ℕ → ℕ → ℕ
most_of paint zero = 0
most_of paint (suc v) = max (most_of paint v) (get_or paint v 0)
