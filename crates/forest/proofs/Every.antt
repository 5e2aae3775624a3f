-- Every element of the forest has the row invariant (000, equation (6), Lemma 17 and Theorem 10), by induction on the sides that lead to it.
use mathlib.Core.Path.{◌≡◌, refl}
use mathlib.Core.List.{List, [], ◌∷◌}
use Prim.Native.Nat.{ℕ, suc, ◌<◌}
use native.Mathlib.Nat.{mul-suc, le_refl}
use native.Mathlib.Omega.{arith}
use lib.ListN.{length}
use Rattle.split.specs.Split.{Tag, one, two, three, number, at, Side, after}
use Rattle.split.proofs.laws.Tags.{tag_range}
use Rattle.split.proofs.laws.Children.{far_at, at_new, at_low, at_high}
use Rattle.forest.specs.Element.{Forest, dimension, Shape, middle, below, shape_at}
use Rattle.forest.specs.Generation.{Gen, gen, join}
use Rattle.forest.specs.Start.{Coloured}
use Rattle.forest.specs.Invariant.{Fits}
use Rattle.forest.proofs.Step.{Inherits, step_down, step_over}
use Rattle.forest.proofs.Roots.{root_fits}

-- the generations at the places of a shape
abbrev gens : ℕ → (ℕ → ℕ) → Shape → ℕ → Gen
gens N colour x p = gen N colour (at x.corners p)

-- the generations of crate split's child; the midpoint's is that of the edge by its name (000, Lemma 15)
inherits : (top : Tag) (N : ℕ) (colour : ℕ → ℕ) (s : Side) (x : Shape)
    → Inherits s (number top) (number x.tag) (gens N colour x) (gens N colour (below top s x)) (join N (gens N colour x 0) (gens N colour x (number x.tag)))
unfolding gen
inherits top N colour s x = record {
  low = λ p h. rw (at_low x.corners (middle x) s x.tag p h);
  new = rw (at_new x.corners (middle x) s x.tag, far_at x.corners x.tag);
  high = λ p h k. rw (at_high x.corners (middle x) s x.tag p h (omega (arith, tag_range top)));
}

-- a child's tag is one less, or from 1 it turns over to the dimension
data Turn (top g : Tag) : Type 0 where
  down : number g ≡ suc (number (after top g)) → Turn top g
  over : number g ≡ 1 → number (after top g) ≡ number top → Turn top g

turn : (top g : Tag) → Turn top g
turn top one = over refl refl
turn top two = down refl
turn top three = down refl

-- depth + tag is the dimension times the level: one more and one less, or one more and a level up
pub fits_child : (F : Forest) (N : ℕ) (colour : ℕ → ℕ) (d : ℕ) (s : Side) (x : Shape) → Fits N colour (dimension F) d x → Fits N colour (dimension F) (suc d) (below F.top s x)
fits_child F N colour d s x f =
    let c = inherits F.top N colour s x in
    let g = after F.top x.tag in
    elim (turn F.top x.tag) [
      | down e ↦ record {
        level = f.level;
        tagged = omega arith;
        deep = omega arith;
        row = step_down s N (dimension F) (number g) f.level _ _ (omega arith) (tag_range g).0 (rw e at f.row) (rw e at c);
      }
      | over e h ↦ record {
        level = suc f.level;
        tagged = omega arith;
        deep = omega (arith, mul-suc (dimension F) f.level);
        row = rw h (step_over s N (dimension F) f.level _ _ (omega arith) (rw e at f.row) (rw e at c));
      }
    ]

-- 000, Theorem 10
pub every_fits : (F : Forest) (N : ℕ) (colour : ℕ → ℕ) → Coloured F N colour → (k : ℕ) → k < F.count → (p : List Side) → Fits N colour (dimension F) (length p) (shape_at F k p)
unfolding shape_at
every_fits F N colour c k h [] = record { level = 1; tagged = le_refl (dimension F); deep = omega arith; row = root_fits F.top N colour (F.root k) (c.started k h) }
every_fits F N colour c k h (s ∷ p) = fits_child F N colour (length p) s (shape_at F k p) (every_fits F N colour c k h p)
