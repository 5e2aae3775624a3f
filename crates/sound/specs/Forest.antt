-- A mesh's vertices and rows in the words of the forest: what name a vertex has, and what element a row is.
use Rattle.std.specs.Prelude.{◌≡◌, Bool, not, ◌&&◌, ◌||◌, cond, [], ◌∷◌, map, ℕ, zero, suc, ◌<◌, eqb, ltb, get_or, take}
use Rattle.split.specs.Split.{three, Side, left, right, Corners, corners}
use Rattle.split.specs.Row.{corners_of}
use Rattle.tables.specs.Layout.{no_record, no_row}
use Rattle.tables.specs.Mesh.{Mesh}
use Rattle.tables.specs.declared.record.Record.{Record}
use Rattle.forest.specs.Element.{Name, init, mid, Forest, Element, el}
use Rattle.forest.specs.Generation.{Gen, gen}
use Rattle.intake.specs.Search.{count}
use Rattle.opening.specs.Colours.{largest}
use Rattle.sound.specs.Sound.{record_of, row_of, rows}

-- the roots of a mesh, each with its vertices in the order of its row; rows past the roots do not matter
abbrev pub forest_of : Mesh → ℕ → Forest
forest_of m t = record { top = three; count = t; root = λ k. corners_of (get_or (take t m.rows) k no_row) }

-- the colour of an initial vertex; vertices past the initial ones do not matter
abbrev pub colour_in : Mesh → ℕ → ℕ → ℕ
colour_in m i v = (get_or (take i m.records) v no_record).first

-- N, the largest colour
unfoldable pub largest_in : Mesh → ℕ → ℕ
largest_in m i = largest (map (λ (r : Record). r.first) (take i m.records))

-- the end with generation a stands before the end with generation b in a refinement edge: it has the smaller level, or the same and the greater type
abbrev pub leads : Gen → Gen → Bool
leads a b = ltb a.level b.level || (eqb a.level b.level && ltb b.type a.type)

-- the midpoint of an edge by its two ends, in whichever order they are given
unfoldable pub joint : ℕ → (ℕ → ℕ) → Name → Name → Name
joint N colour x y = cond (leads (gen N colour x) (gen N colour y)) (mid x y) (mid y x)

-- a vertex's name, looked for in the given number of steps from a midpoint to its parents
unfoldable pub name_within : Mesh → ℕ → ℕ → ℕ → Name
name_within m i zero v = init v
name_within m i (suc steps) v =
    cond (ltb v i) (init v) (joint (largest_in m i) (colour_in m i) (name_within m i steps (record_of m v).first) (name_within m i steps (record_of m v).second))

-- the name of vertex v, where i vertices are initial; parents are smaller, so v steps are enough
abbrev pub name_of : Mesh → ℕ → ℕ → Name
name_of m i v = name_within m i v v

-- the child of an element on one side
abbrev pub grown : Side → Element → Element
grown s (el k p) = el k (s ∷ p)

-- the side of a row whose parent's first child is c
abbrev pub side_of : ℕ → ℕ → Side
side_of r c = cond (eqb r c) left right

-- a row's element, looked for in the given number of steps from a row to its parent
unfoldable pub element_within : Mesh → ℕ → ℕ → ℕ → Element
element_within m t zero r = el r []
element_within m t (suc steps) r = cond (ltb r t) (el r []) (grown (side_of r (row_of m (row_of m r).parent).child) (element_within m t steps (row_of m r).parent))

-- the element of row r, where t rows are roots; a parent is smaller, so r steps are enough
abbrev pub element_of : Mesh → ℕ → ℕ → Element
element_of m t r = element_within m t r r

-- each corner by its name
abbrev pub named : (ℕ → Name) → Corners ℕ → Corners Name
named f c = corners (f c.v0) (f c.v1) (f c.v2) (f c.v3)

-- e is the element of a row that has children
pub record SplitOf (m : Mesh) (t : ℕ) (e : Element) : Type 0 where
  pub row : ℕ
  pub there : row < rows m
  pub split : (row_of m row).child ≡ 0 → ⊥
  pub is : element_of m t row ≡ e

-- how many rows have children
unfoldable pub splits_in : Mesh → ℕ
splits_in m = count (λ q. not (eqb (row_of m q).child 0)) (rows m)
