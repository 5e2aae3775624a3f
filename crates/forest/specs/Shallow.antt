-- All elements of depth below a number, and those that k uniform full refinements split (000, Theorem 7(c)).
use Rattle.std.specs.Prelude.{ℕ, ◌*◌, ◌<◌}
use Rattle.forest.specs.Element.{Forest, dimension, Element, el, depth}

abbrev pub root_of : Element → ℕ
root_of (el k p) = k

-- all elements of depth below d (02, L9): what d rounds split, each of all elements of the mesh
pub record DepthBelow (F : Forest) (d : ℕ) (e : Element) : Type 0 where
  pub root : root_of e < F.count
  pub shallow : depth e < d

-- n rounds, one after the other, are a uniform full refinement in dimension n (000, Theorem 7(c)): k of them split the elements of depth below n k
abbrev pub Shallow : Forest → ℕ → Element → Type 0
Shallow F k e = DepthBelow F (dimension F * k) e
