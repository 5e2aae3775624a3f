-- Closed sets of splits and the smallest one that holds given marks (demand 3).
use Rattle.std.specs.Prelude.{List, [], ◌∷◌, ℕ, ◌<◌}
use Rattle.split.specs.Split.{Side}
use Rattle.forest.specs.Element.{Forest, Element, el, HoldsEdge}

-- t is in the mesh whose split elements are S, split or not: it is a root or a child of a member
abbrev pub Present : Forest → (Element → Type 0) → Element → Type 0
Present F S (el k []) = k < F.count
Present F S (el k (s ∷ p)) = S (el k p)

-- an unsplit element of the mesh
pub record Leaf (F : Forest) (S : Element → Type 0) (t : Element) : Type 0 where
  pub present : Present F S t
  pub unsplit : S t → ⊥

-- in the words of demand 3: it holds the ancestors of each of its elements, and no unsplit element keeps both ends of an edge that a split has halved
pub record ClosedAsDemanded (F : Forest) (S : Element → Type 0) : Type 0 where
  pub parents : (k : ℕ) (s : Side) (p : List Side) → S (el k (s ∷ p)) → S (el k p)
  pub conforming : (t u : Element) → Leaf F S t → S u → HoldsEdge F t u → ⊥

-- the same turned round: an element of the mesh that keeps both ends of a halved edge is split
pub record Closed (F : Forest) (S : Element → Type 0) : Type 0 where
  pub parents : (k : ℕ) (s : Side) (p : List Side) → S (el k (s ∷ p)) → S (el k p)
  pub edges : (t u : Element) → Present F S t → S u → HoldsEdge F t u → S t

-- the smallest closed set that holds M, by what the two rules of a closed set force; the second rule is written for roots and for children
pub data Forced (F : Forest) (M : Element → Type 0) : Element → Type 0 where
  marked : {e : Element} → M e → Forced F M e
  parent : {k : ℕ} {s : Side} {p : List Side} → Forced F M (el k (s ∷ p)) → Forced F M (el k p)
  edge_root : {k : ℕ} {u : Element} → k < F.count → Forced F M u → HoldsEdge F (el k []) u → Forced F M (el k [])
  edge_child : {k : ℕ} {s : Side} {p : List Side} {u : Element} → Forced F M (el k p) → Forced F M u → HoldsEdge F (el k (s ∷ p)) u → Forced F M (el k (s ∷ p))

-- S is the smallest closed set that holds M, in the words of demand 3. A closed set that holds M has every member of S, where its own members can be told; and of no closed set that holds M is a member of S outside.
pub record Smallest (F : Forest) (M S : Element → Type 0) : Type 1 where
  pub closed : ClosedAsDemanded F S
  pub holds : (e : Element) → M e → S e
  pub least : (T : Element → Type 0) → ((e : Element) → Dec (T e)) → ClosedAsDemanded F T → ((e : Element) → M e → T e) → (e : Element) → S e → T e
  pub none_outside : (T : Element → Type 0) → ClosedAsDemanded F T → ((e : Element) → M e → T e) → (e : Element) → S e → (T e → ⊥) → ⊥
