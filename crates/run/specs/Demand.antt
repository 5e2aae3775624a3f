-- What a call needs (demand 3): the smallest closed set that holds the elements already split and all those marked, and whether depth or room refuses it.
use Rattle.std.specs.Prelude.{◌≡◌, ℕ, ◌+◌, ◌*◌, ◌<◌, length}
use mathlib.Core.List.{List, map, Memᴰ, Nodup}
use Rattle.tables.specs.declared.layout.Size.{Size}
use Rattle.tables.specs.Mesh.{Mesh}
use Rattle.forest.specs.Element.{Name, Forest, Element, depth, middle, shape}
use Rattle.forest.specs.Closed.{Forced}
use Rattle.forest.specs.Union.{Either}
use Rattle.sound.specs.Sound.{row_of}
use Rattle.sound.specs.Forest.{forest_of, element_of, SplitOf}

-- ---- whether depth or room refuses a set of splits

-- it would split an element of depth 60: number 11 (01, "What comes back")
pub record DeepIn (S : Element → Type 0) : Type 0 where
  pub element : Element
  pub needed : S element
  pub deep : depth element ≡ 60

-- the midpoint of the edge of one of its elements
pub record HalvedIn (F : Forest) (S : Element → Type 0) (x : Name) : Type 0 where
  pub element : Element
  pub needed : S element
  pub is : middle (shape F element) ≡ x

-- over the roots F with the given number of initial vertices, it needs more vertices or rows than there is room for: number 2 (01, "What comes back"). Each split adds two rows and each halved edge one vertex.
pub data OutgrowsIn (room : Size) (F : Forest) (initials : ℕ) (S : Element → Type 0) : Type 0 where
  rows : (es : List Element) → Nodup es → ((e : Element) → Memᴰ e es → S e) → room.rows < F.count + 2 * length es → OutgrowsIn room F initials S
  vertices : (xs : List Name) → Nodup xs → ((x : Name) → Memᴰ x xs → HalvedIn F S x) → room.vertices < initials + length xs → OutgrowsIn room F initials S

-- ---- what a call needs

-- e is the element of a marked row
pub record MarkedIn (m : Mesh) (t : ℕ) (marks : List ℕ) (e : Element) : Type 0 where
  pub row : ℕ
  pub listed : Memᴰ row marks
  pub is : element_of m t row ≡ e

-- the elements of marked rows (demand 3, "taken as elements and not as row numbers")
abbrev pub marked_elements : Mesh → ℕ → List ℕ → List Element
marked_elements m t marks = map (element_of m t) marks

-- the smallest closed set that holds the elements already split and all those marked (01, "What comes back")
abbrev pub Needed : Mesh → ℕ → List ℕ → Element → Type 0
Needed m t marks = Forced (forest_of m t) (Either (SplitOf m t) (MarkedIn m t marks))

-- depth refuses it
unfoldable pub Deep : Mesh → ℕ → List ℕ → Type 0
Deep m t marks = DeepIn (Needed m t marks)

-- some marked row is a leaf of depth 60 (02, L9): exactly then depth refuses it (`deep_exactly` of proofs/laws/Needs.antt)
pub record MarkedDeep (m : Mesh) (marks : List ℕ) : Type 0 where
  pub row : ℕ
  pub listed : Memᴰ row marks
  pub there : row < length m.rows
  pub leaf : (row_of m row).child ≡ 0
  pub deep : (row_of m row).depth ≡ 60

-- room refuses it
unfoldable pub Outgrows : Size → Mesh → ℕ → ℕ → List ℕ → Type 0
Outgrows room m i t marks = OutgrowsIn room (forest_of m t) i (Needed m t marks)
