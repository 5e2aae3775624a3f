-- The forced set is the smallest closed set that holds the marks (demand 3): the law that reads the rules of `Forced`, from which the others follow.
use mathlib.Core.List.{[], ◌∷◌}
use Rattle.forest.specs.Element.{Forest, Element, el, HoldsEdge}
use Rattle.forest.specs.Closed.{Present, Closed, Forced, marked, parent, edge_root, edge_child}

-- the forced set is closed, holds the marks, and lies in every closed set that holds them (demand 3, "the smallest closed set")
pub forced_closed : {F : Forest} {M : Element → Type 0} → Closed F (Forced F M)
forced_closed {F} {M} = record { parents = λ k s p f. parent f; edges = edges }
  where
    edges : (t u : Element) → Present F (Forced F M) t → Forced F M u → HoldsEdge F t u → Forced F M t
    edges (el k []) u p f h = edge_root p f h
    edges (el k (s ∷ q)) u p f h = edge_child p f h

pub forced_least : {F : Forest} {M S : Element → Type 0} → Closed F S → ((e : Element) → M e → S e) → (e : Element) → Forced F M e → S e
forced_least c h e (marked m) = h e m
forced_least c h e (parent {k} {s} {p} f) = c.parents k s p (forced_least c h (el k (s ∷ p)) f)
forced_least c h e (edge_root {k} {u} l f g) = c.edges (el k []) u l (forced_least c h u f) g
forced_least c h e (edge_child {k} {s} {p} {u} f f' g) = c.edges (el k (s ∷ p)) u (forced_least c h (el k p) f) (forced_least c h u f') g
