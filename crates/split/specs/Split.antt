-- One split (01, "One split"; 000, Algorithm 1), over any kind A of vertex name: numbers in the tables, abstract names in the theory.
use Rattle.std.specs.Prelude.{◌≡◌, cond, ℕ, zero, suc, ◌≤◌, eqb, ltb}

-- the tag γ of a simplex; the tag of a root is the dimension, so the largest tag also tells the dimension (000, Algorithm 1)
pub data Tag : Type 0 where
  one two three : Tag

abbrev pub number : Tag → ℕ
number one = 1
number two = 2
number three = 3

-- the vertices v0 to v3 of an element; in the plane v3 names none
pub record Corners (A : Type 0) : Type 0 where
  pub v0 : A
  pub v1 : A
  pub v2 : A
  pub v3 : A

abbrev pub corners : {A : Type 0} → A → A → A → A → Corners A
corners a b c d = record { v0 = a; v1 = b; v2 = c; v3 = d }

-- the vertex at a place, counted from 0; no place is past 3
abbrev pub at : {A : Type 0} → Corners A → ℕ → A
at c zero = c.v0
at c (suc zero) = c.v1
at c (suc (suc zero)) = c.v2
at c (suc (suc (suc p))) = c.v3

-- vertices place by place
abbrev pub placewise : {A : Type 0} → (ℕ → A) → Corners A
placewise f = corners (f 0) (f 1) (f 2) (f 3)

-- the refinement edge is v0 with v at the tag (01, "One split")
abbrev pub far : {A : Type 0} → Tag → Corners A → A
far one c = c.v1
far two c = c.v2
far three c = c.v3

-- what a child has at place p, where the parent's tag is γ: one vertex below the tag, one at the tag, one above it (000, Algorithm 1)
abbrev pub by_tag : {A : Type 0} → ℕ → ℕ → A → A → A → A
by_tag p γ low new high = cond (ltb p γ) low (cond (eqb p γ) new high)

-- the first child [v0, .., v(γ-1), m, v(γ+1), .., vn], m being the midpoint of the edge (000, Algorithm 1, T1)
unfoldable pub first : {A : Type 0} → Tag → Corners A → A → Corners A
first γ c m = placewise (λ p. by_tag p (number γ) (at c p) m (at c p))

-- the second child [v1, .., vγ, m, v(γ+1), .., vn] (000, Algorithm 1, T2)
unfoldable pub second : {A : Type 0} → Tag → Corners A → A → Corners A
second γ c m = placewise (λ p. by_tag p (number γ) (at c (suc p)) m (at c p))

-- which child: an element below a root is told by its sides
pub data Side : Type 0 where
  left right : Side

abbrev pub child : {A : Type 0} → Side → Tag → Corners A → A → Corners A
child left = first
child right = second

-- the place of the vertex that a child lacks: the first lacks v at the tag, the second lacks v0
abbrev pub lacked : Side → Tag → ℕ
lacked left g = number g
lacked right g = 0

-- the children's tag, where the largest tag is `top`: γ - 1 if γ ≥ 2, and else `top` (000, Algorithm 1, "new tag")
abbrev pub after : Tag → Tag → Tag
after top three = two
after top two = one
after top one = top

-- x is the vertex at one of the places 0 to n
pub record Holds {A : Type 0} (n : ℕ) (c : Corners A) (x : A) : Type 0 where
  pub place : ℕ
  pub inside : place ≤ n
  pub is : at c place ≡ x

-- different places from 0 to n have different vertices
pub record Distinct {A : Type 0} (n : ℕ) (c : Corners A) : Type 0 where
  pub apart : (p q : ℕ) → p ≤ n → q ≤ n → at c p ≡ at c q → p ≡ q
