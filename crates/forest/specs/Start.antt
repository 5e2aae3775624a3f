-- The order of a root's vertices (000, Definition 2), over any colouring that differs within each root.
use Rattle.std.specs.Prelude.{◌≡◌, cond, ℕ, suc, ◌≤◌, ◌<◌, eqb}
use Rattle.split.specs.Split.{Tag, one, two, three, number, Corners, corners, at, far}
use Rattle.forest.specs.Element.{Forest}

-- the last vertex moved to the front: vn, v0, .., v(n-1)
abbrev pub moved : {A : Type 0} → Tag → Corners A → Corners A
moved one c = corners c.v1 c.v0 c.v2 c.v3
moved two c = corners c.v2 c.v0 c.v1 c.v3
moved three c = corners c.v3 c.v0 c.v1 c.v2

-- vertices sorted by colour, in the order of a root's row: the last is moved to the front exactly if its colour is N (000, equation (1))
unfoldable pub arranged : Tag → ℕ → (ℕ → ℕ) → Corners ℕ → Corners ℕ
arranged top N colour w = cond (eqb (colour (far top w)) N) (moved top w) w

-- the colours rise strictly from w0 to wn, and none is over N (000, Definition 2)
pub record Rising (top : Tag) (N : ℕ) (colour : ℕ → ℕ) (w : Corners ℕ) : Type 0 where
  pub rises : (p : ℕ) → p < number top → colour (at w p) < colour (at w (suc p))
  pub most : colour (far top w) ≤ N

-- a root in the order of Definition 2
pub record Started (top : Tag) (N : ℕ) (colour : ℕ → ℕ) (c : Corners ℕ) : Type 0 where
  pub sorted : Corners ℕ
  pub rising : Rising top N colour sorted
  pub is : c ≡ arranged top N colour sorted

-- a forest whose roots stand in the order of Definition 2 for a colouring with largest colour N, proper on each root (000, Definition 1; 01, number 8: no colour over 63)
pub record Coloured (F : Forest) (N : ℕ) (colour : ℕ → ℕ) : Type 0 where
  pub small : N ≤ 63
  pub started : (k : ℕ) → k < F.count → Started F.top N colour (F.root k)
