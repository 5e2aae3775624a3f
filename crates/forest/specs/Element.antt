-- Elements as an infinite forest (000, section 2: the set 𝕋 of all simplices that splits can make), over a dimension and a list of roots.
-- An element exists as a name whether or not a table has it: a mesh is told by the set of its split elements.
use Rattle.std.specs.Prelude.{List, [], ◌∷◌, ℕ, length}
use Rattle.split.specs.Split.{Tag, number, Corners, corners, far, Side, child, after, Holds}

-- a vertex: an initial one by its number, or the midpoint of an edge by the edge's two ends, v0 first
pub data Name : Type 0 where
  init : ℕ → Name
  mid : Name → Name → Name
  deriving Discrete as Name-discrete

-- the roots of a mesh, each with its vertices in the order of its row, and the dimension as the roots' tag
pub record Forest : Type 0 where
  pub top : Tag
  pub count : ℕ
  pub root : ℕ → Corners ℕ

abbrev pub dimension : Forest → ℕ
dimension F = number F.top

-- an element: its root, and the sides that lead to it, the last one first, so that the parent's sides are the tail
pub data Element : Type 0 where
  el : ℕ → List Side → Element
  deriving Discrete as Element-discrete

-- the number of splits that lead to an element
abbrev pub depth : Element → ℕ
depth (el k p) = length p

-- the vertices of an element with its tag, the tagged simplex of 000, Algorithm 1
pub record Shape : Type 0 where
  pub corners : Corners Name
  pub tag : Tag

-- the two ends of the refinement edge, v0 and v at the tag, and its midpoint
abbrev pub near : Shape → Name
near x = x.corners.v0

abbrev pub away : Shape → Name
away x = far x.tag x.corners

abbrev pub middle : Shape → Name
middle x = mid (near x) (away x)

-- a child by crate split's definition (000, Algorithm 1)
abbrev pub below : Tag → Side → Shape → Shape
below top s x = record { corners = child s x.tag x.corners (middle x); tag = after top x.tag }

abbrev pub initial : Corners ℕ → Corners Name
initial c = corners (init c.v0) (init c.v1) (init c.v2) (init c.v3)

unfoldable pub shape_at : Forest → ℕ → List Side → Shape
shape_at F k [] = record { corners = initial (F.root k); tag = F.top }
shape_at F k (s ∷ p) = below F.top s (shape_at F k p)

abbrev pub shape : Forest → Element → Shape
shape F (el k p) = shape_at F k p

-- x is one of the element's vertices v0 to vn
abbrev pub Has : Forest → Element → Name → Type 0
Has F e x = Holds (dimension F) (shape F e).corners x

-- t keeps both ends of the refinement edge of u (demand 3)
pub record HoldsEdge (F : Forest) (t u : Element) : Type 0 where
  pub near : Has F t (near (shape F u))
  pub away : Has F t (away (shape F u))
