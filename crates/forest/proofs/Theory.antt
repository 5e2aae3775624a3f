-- The theory as its users cite it: of the elements of a coloured forest, whatever the dimension and the colouring.
use mathlib.Core.Path.{◌≡◌, ap}
use mathlib.Core.Logic.{◌⊎◌}
use mathlib.Core.List.{List, ◌∷◌}
use Prim.Native.Nat.{ℕ, ◌+◌, ◌*◌, ◌≤◌, ◌<◌}
use native.Mathlib.Omega.{arith}
use Rattle.split.specs.Split.{Tag, three, number, Side, Distinct}
use Rattle.forest.specs.Element.{Forest, dimension, Element, el, depth, near, away, shape, HoldsEdge}
use Rattle.forest.specs.Start.{Coloured}
use Rattle.forest.specs.Generation.{rank, edge_gen}
use Rattle.forest.specs.Invariant.{Fits}
use Rattle.forest.specs.Level.{LevelOf}
use Rattle.forest.specs.Closed.{ClosedAsDemanded, Closed, Forced}
use Rattle.forest.specs.Shallow.{root_of, DepthBelow, Shallow}
use Rattle.forest.proofs.Every.{every_fits}
use Rattle.forest.proofs.Blocking as B
use Rattle.forest.proofs.Shallow as S
use Rattle.forest.proofs.Levels as L
use Rattle.forest.proofs.Forced.{closed_demanded, forced_least}
use Rattle.forest.proofs.Smallest.{closed_along}

module _ (F : Forest) (N : ℕ) (colour : ℕ → ℕ) (c : Coloured F N colour) where
  -- the row invariant holds of every element (000, Theorem 10)
  pub fits : (e : Element) → root_of e < F.count → Fits N colour (dimension F) (depth e) (shape F e)
  fits (el k p) valid = every_fits F N colour c k valid p

  -- the vertices of an element are different names
  pub distinct : (e : Element) → root_of e < F.count → Distinct (dimension F) (shape F e).corners
  distinct e valid = B.distinct (fits e valid)

  -- an edge has one orientation in all elements that have it as their refinement edge, so its midpoint has one name
  pub one_name : (t u : Element) → root_of t < F.count → root_of u < F.count → near (shape F t) ≡ away (shape F u) → away (shape F t) ≡ near (shape F u) → ⊥
  one_name t u a b = B.one_name (fits t a) (fits u b)

  -- an element that holds both ends of another's edge has that edge, or one of a strictly smaller generation (000, Lemma 18 and Corollary 19)
  pub blocking : (t u : Element) → root_of t < F.count → root_of u < F.count → HoldsEdge F t u
      → B.SameEdge (shape F t) (shape F u) ⊎ (rank (edge_gen N colour (shape F t)) < rank (edge_gen N colour (shape F u)))
  blocking t u a b h = B.blocking c.small (fits t a) (fits u b) h.near h.away

  -- edge generations up to depth 60 are below a fixed number
  pub generation_bound : (e : Element) → root_of e < F.count → depth e ≤ 60 → 2 ≤ dimension F → rank (edge_gen N colour (shape F e)) < 64 * 33
  generation_bound e valid = B.generation_bound (fits e valid) c.small

  pub space_bound : (e : Element) → root_of e < F.count → depth e ≤ 60 → 3 ≤ dimension F → rank (edge_gen N colour (shape F e)) < 64 * 23
  space_bound e valid = B.space_bound (fits e valid) c.small

  -- the elements of depth below n k form a closed set (000, Theorem 7(c)), so marks of smaller depth force nothing of depth n k or more
  pub shallow_closed : (k : ℕ) → Closed F (Shallow F k)
  shallow_closed = S.shallow_closed F N colour (every_fits F N colour c)

  pub forced_shallow : (k : ℕ) {M : Element → Type 0} → ((e : Element) → M e → Shallow F k e) → (e : Element) → Forced F M e → Shallow F k e
  forced_shallow k = forced_least (shallow_closed k)

  -- in space all elements of depth below 3 form a closed set in demand 3's own words, and so do those below 6, below 9 and below every multiple of three (02, L9)
  pub threes_closed : F.top ≡ three → (k : ℕ) → ClosedAsDemanded F (DepthBelow F (3 * k))
  threes_closed space k =
      let thrice : dimension F * k ≡ 3 * k = ap (λ (tag : Tag). number tag * k) space in
      closed_demanded (closed_along (λ e. (S.below_more (omega (arith, thrice)) e, S.below_more (omega (arith, thrice)) e)) (shallow_closed k))

  -- inequality (11) of 000 the right way round: a child's level is its parent's or one more
  pub child_level : (k : ℕ) → k < F.count → (s : Side) (p : List Side) {l m : ℕ} → LevelOf N colour (dimension F) (shape F (el k p)) l
      → LevelOf N colour (dimension F) (shape F (el k (s ∷ p))) m → (l ≤ m) × (m ≤ l + 1)
  child_level k valid s p a b = L.child_level F N colour k s p (every_fits F N colour c k valid p) (every_fits F N colour c k valid (s ∷ p)) a b
